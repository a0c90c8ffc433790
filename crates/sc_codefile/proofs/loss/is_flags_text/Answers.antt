use Rattle.std.proofs.Common.{◌≡◌, true, nat_le, length, arith, rules, tests}
use Rattle.std.proofs.lemmas.Bool.Decides.{nat_tests}
use Rattle.std.proofs.lemmas.Iterator.Search.{all_from_yields_List}
use Rattle.std.proofs.lemmas.Iterator.Adapters.{YieldsList-from_bytes}
use Rattle.std.specs.List.{list_all}
use Rattle.sc_channel.specs.declared.flags.TheConstants.{MAX_FLAGS}
use Rattle.sc_codefile.specs.LossFile.{is_flag, is_flags_text}
use Rattle.sc_codefile.proofs.loss.is_flags_text.Goals as goal

pub returns-then-text-le-MAX_FLAGS : goal.returns-then-text-le-MAX_FLAGS
unfolding is_flags_text
returns-then-text-le-MAX_FLAGS c =
    let all : c.all.result ≡ list_all is_flag c.args.text.now = all_from_yields_List is_flag _ _ c.all.result c.all.ensures.ran (YieldsList-from_bytes c.args.text.now cc) (λ x b q k. search (rules, tests)) in
    let short : nat_le (length c.args.text.now) MAX_FLAGS ≡ true = grind (arith, nat_tests) in
    rw short all
