use Rattle.std.proofs.Common.{Some, ap, ◌∙◌}
use Rattle.serde_json.specs.Written.{compact_text}
use Rattle.sc_codefile.specs.LossFile.{loss_value}
use Rattle.sc_codefile.proofs.LossSteps.{loss_text-value, depth-loss, no_float-loss, is_file-loss}
use Rattle.sc_codefile.proofs.loss.print_loss.Goals as goal

pub returns-clause-text : goal.returns-clause-text
returns-clause-text c =
    let flags = c.args.loss.now in
    let is = c.in_ok-value.ensures in
    c.in_ok-to_vec.ensures.text (rw is (no_float-loss flags)) ∙ ap compact_text is ∙ loss_text-value flags

pub returns-clause-reads_back : goal.returns-clause-reads_back
returns-clause-reads_back c =
    let flags = c.args.loss.now in
    let is = c.in_ok-value.ensures in
    record {
      value = loss_value flags;
      is_value = record { utf8 = c.in_ok-to_vec.ensures.utf8; is_read = c.in_ok-to_vec.ensures.reads_back (rw is (depth-loss flags)) ∙ ap Some is };
      is_file = is_file-loss flags c.requires;
    }
