use Rattle.std.proofs.Common.{◌≡◌, length, refl, sym, ap, ◌∙◌}
use Rattle.sc_echelon.specs.Steps.{times_row}
use Rattle.sc_echelon.specs.Knowledge.{act_bytes}
use Rattle.sc_echelon.proofs.Bytes.{bytes_module}
use Rattle.sc_echelon.proofs.Skipped.{times_row-one}
use Rattle.sc_echelon.proofs.equation.Equation.multiply.Goals as goal

pub returns-then-eq : goal.returns-then-eq
returns-then-eq g c =
    let x = c.args.c in
    let r = c.trim.new.self in
    let times = act_bytes g.F.Field.act in
    let one : x ≡ g.F.Field.one =
    (g.met.F.Field.exact.exact x c.one.result c.known-2.ensures c.one.ensures.element).0 (sym c.eq.ensures ∙ c.if-eq.true) ∙ c.one.ensures.value in
    c.trim.ensures
    ∙ sym (ap (λ s. times_row g.F.Field.mul times x s) (sym c.trim.ensures)
    ∙ ap (λ y. times_row g.F.Field.mul times y r) one
    ∙ times_row-one g.met.F.Field.field (bytes_module g.met.F.Field.action (length r.right)) (length r.coeffs) r
    (record { width = refl; elements = c.known.ensures.elements; value = record { width = refl; entries = c.known.ensures.bytes } })
    ∙ c.trim.ensures)
