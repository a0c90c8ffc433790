use Rattle.std.proofs.Common.{Some, ap, ◌∙◌}
use Rattle.serde_json.specs.Written.{compact_text}
use Rattle.sc_codefile.specs.CodeText.{code_value}
use Rattle.sc_codefile.proofs.TextSteps.{code_text-value, depth-value, no_float-value}
use Rattle.sc_codefile.proofs.FileSteps.{is_file-value}
use Rattle.sc_codefile.proofs.print.print_code.Goals as goal

pub returns-clause-text : goal.returns-clause-text
returns-clause-text c =
    let file = c.args.file.now in
    let is = c.in_ok-value.ensures.value in
    c.in_ok-to_vec.ensures.text (rw is (no_float-value file)) ∙ ap compact_text is ∙ code_text-value file

pub returns-clause-reads_back : goal.returns-clause-reads_back
returns-clause-reads_back c =
    let file = c.args.file.now in
    let is = c.in_ok-value.ensures.value in
    record {
      value = code_value file;
      is_value = record { utf8 = c.in_ok-to_vec.ensures.utf8; is_read = c.in_ok-to_vec.ensures.reads_back (rw is (depth-value file)) ∙ ap Some is };
      is_file = is_file-value file c.in_ok-value.ensures.limits.0 c.in_ok-value.ensures.limits.1;
    }
