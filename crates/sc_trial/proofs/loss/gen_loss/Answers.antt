use Rattle.std.proofs.Common.{◌≡◌, ℕ, length, sym, ap, ◌∙◌, subst, arith}
use Rattle.std.proofs.lemmas.Grind.{common_steps}
use Rattle.rand_pcg.specs.Lcg.{Lcg}
use Rattle.sc_channel.specs.Loss.{IsAdmissible}
use Rattle.sc_trial.specs.Draw.{generator}
use Rattle.sc_trial.specs.Loss.{generated_loss}
use Rattle.sc_trial.proofs.LossSteps.{generated_loss-is, generated_loss-admissible}
use Rattle.sc_trial.proofs.loss.gen_loss.Goals as goal

-- the flags that were drawn are handed out
is_generated : (c : goal.After-from_vec) → c.from_vec.result ≡ generated_loss (generator c.args.seed) c.args.channel.now c.args.len
is_generated c =
    let all : length c.deref_mut.result.now ≡ c.args.len = grind (arith, common_steps) in
    let whole : c.from_vec.result ≡ c.draw_flags.new.flags = grind (arith, common_steps) in
    whole ∙ c.draw_flags.ensures ∙ ap (λ (n : ℕ). generated_loss c.new-words.result c.args.channel.now n) all
    ∙ ap (λ (g : Lcg). generated_loss g c.args.channel.now c.args.len) c.new-words.ensures

pub returns-clause-flags : goal.returns-clause-flags
returns-clause-flags c = is_generated c

pub returns-clause-slots : goal.returns-clause-slots
returns-clause-slots c = generated_loss-is (generator c.args.seed) c.args.channel.now c.args.len c.from_vec.result (is_generated c)

pub returns-clause-admissible : goal.returns-clause-admissible
returns-clause-admissible c =
    subst (IsAdmissible c.args.channel.now) (sym (is_generated c)) (generated_loss-admissible (generator c.args.seed) c.args.channel.now c.args.len)
