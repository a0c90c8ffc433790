use Rattle.std.proofs.Common.{◌≡◌, ◌++◌, [], slice_index_or, string_bytes, subst, ◌∙◌, arith}
use Rattle.std.specs.Fmt.{decimal}
use Rattle.streamcode.proofs.VerdictSteps.{join-behind}
use Rattle.streamcode.proofs.verdict.push_block.Goals as goal

pub loop-i-preserved : goal.loop-i-preserved
loop-i-preserved c =
    let symbol = c.symbol.ensures in
    join-behind 44 decimal (slice_index_or c.args.stream.now c.args.t []) c.loop-i.i 0 _ _ _ _ (omega arith) c.loop-i.invariant c.in_ok-push_separator.ensures
    (subst (λ n. string_bytes c.push_number.new.text ≡ string_bytes c.push_separator.new.text ++ decimal n) (c.into.ensures ∙ symbol) c.in_ok-push_number.ensures)
