use Rattle.std.proofs.Common.{◌≡◌, ◌+◌, ◌++◌, take, ap, ◌∙◌, subst}
use Rattle.sc_outside.specs.Whole.{ReadFailed}
use Rattle.sc_rtpdump.specs.Preamble.{magic}
use Rattle.sc_rtpdump.proofs.PreambleSteps.{magic_missing, magic_failed, line_missing, line_failed, fields_missing, fields_failed, parts_done}
use Rattle.sc_rtpdump.proofs.preamble.read_parts.Goals as goal

pub returns-in-Ok-false : goal.returns-in-Ok-false
returns-in-Ok-false g c = magic_missing _ _ c.args.bytes.now.items (rw c.in-Ok-false.field-0-test at c.in-Ok-false.ensures)

pub returns-in-Err : goal.returns-in-Err
returns-in-Err g c = magic_failed _ _ c.args.bytes.now.items _ c.in-Err.ensures

pub returns-in-Ok-None : goal.returns-in-Ok-None
returns-in-Ok-None g c =
    line_missing _ _ _ c.args.bytes.now.items c.read_line.new.bytes (c.read_line.auto.bytes ∙ c.requires.line)
    (rw c.in-Ok-true.field-0-test at c.in-Ok-true.ensures) (rw c.in-Ok-None.field-0-is at c.in-Ok-None.ensures)

pub returns-in-Err-read_line : goal.returns-in-Err-read_line
returns-in-Err-read_line g c =
    line_failed _ _ _ c.args.bytes.now.items c.read_line.new.bytes _ (rw c.in-Ok-true.field-0-test at c.in-Ok-true.ensures) c.in-Err-read_line.ensures

pub returns-in-Ok : goal.returns-in-Ok
returns-in-Ok g c =
    fields_missing _ _ _ _ c.args.bytes.now.items c.read_line.new.bytes c.read_exact_or_end.new.buf _ _ c.read_exact_or_end.auto.buf c.in-Ok.field-0-test.1
    (rw c.in-Ok-true.field-0-test at c.in-Ok-true.ensures) (rw c.in-Ok-Some.field-0-is at c.in-Ok-Some.ensures) c.in-Ok.ensures.ok

pub returns-in-Err-read_exact_or_end : goal.returns-in-Err-read_exact_or_end
returns-in-Err-read_exact_or_end g c =
    fields_failed _ _ _ _ c.args.bytes.now.items c.read_line.new.bytes c.in-Ok-Some.place (rw c.in-Ok-true.field-0-test at c.in-Ok-true.ensures)
    (rw c.in-Ok-Some.field-0-is at c.in-Ok-Some.ensures) (subst (ReadFailed _ _) c.read_exact_or_end.auto.buf c.in-Err-read_exact_or_end.ensures.err)

pub returns : goal.returns
returns g c =
    let line = c.read_line.new.bytes in
    let i = c.in-Ok-Some.place in
    let fields = c.read_exact_or_end.new.buf in
    let first : c.extend_from_slice.new.self.items ≡ c.args.bytes.now.items ++ magic = rw c.unwrap.ensures at c.extend_from_slice.ensures.items in
    let second : c.extend_from_slice-2.new.self.items ≡ c.extend_from_slice.new.self.items ++ take (i + 1) line = rw c.unwrap-2.ensures at c.extend_from_slice-2.ensures.items in
    let third : c.extend_from_slice-3.new.self.items ≡ c.extend_from_slice-2.new.self.items ++ fields = rw c.unwrap-3.ensures at c.extend_from_slice-3.ensures.items in
    parts_done _ _ _ _ c.extend_from_slice-3.new.self.items line fields i _ (c.read_line.auto.bytes ∙ c.requires.line) c.read_exact_or_end.auto.buf c.in-Ok-eq16.field-0-test
    (rw c.in-Ok-true.field-0-test at c.in-Ok-true.ensures) (rw c.in-Ok-Some.field-0-is at c.in-Ok-Some.ensures) c.in-Ok-eq16.ensures.ok
    (third ∙ ap (λ l. l ++ fields) (second ∙ ap (λ l. l ++ take (i + 1) line) (first ∙ ap (λ l. l ++ magic) c.requires.empty)))
