use Rattle.std.proofs.Common.{◌∙◌}
use Rattle.std.proofs.lemmas.Result.{IfOk-weaker}
use Rattle.sc_window.proofs.decide.reduced_window.Goals as goal

pub returns-clause-cols : goal.returns-clause-cols
returns-clause-cols g c = IfOk-weaker c.of.result _ _ (λ r cols. cols ∙ c.in_ok-matrix.ensures.cols) c.of.ensures.cols

pub returns-clause-kernel : goal.returns-clause-kernel
returns-clause-kernel g c =
    IfOk-weaker c.of.result _ _ (λ r same v. (
      λ kernel. (c.in_ok-matrix.ensures.kernel v).0 ((same v).0 kernel),
      λ spells. (same v).1 ((c.in_ok-matrix.ensures.kernel v).1 spells),
    )) c.of.ensures.kernel
