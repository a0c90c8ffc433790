use Rattle.std.proofs.lemmas.Result.{IfOk-weaker}
use Rattle.serde_json.specs.View.{view}
use Rattle.sc_codefile.proofs.LossSteps.{is_file-text}
use Rattle.sc_codefile.proofs.loss.read_value.Goals as goal

pub returns-clause-file : goal.returns-clause-file
returns-clause-file c =
    IfOk-weaker c.loss_of.result _ _ (λ flags made. record {
      value = view c.in_ok-value.value;
      is_value = c.in_ok-value.ensures.value;
      is_file = is_file-text (view c.in_ok-value.value) c.in_ok-flags.flags.now flags c.in_ok-flags.ensures.text made;
    }) c.loss_of.ensures.file
