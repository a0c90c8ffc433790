use Rattle.std.proofs.Common.{◌≡◌, ℕ, bit_xor, sym, ap, ap₂, ◌∙◌, subst, arith}
use Rattle.sc_field.specs.Gf256.{gf256_product, gf256_inverse}
use Rattle.sc_field.specs.Laws.Gf256Laws.{gf256_field}
use Rattle.sc_matrix.specs.Module.{IsByte}
use Rattle.sc_matrix.specs.Matrix.{Matrix, entry, add_row}
use Rattle.sc_matrix.specs.RowSpace.{HaveOneRowSpace}
use Rattle.sc_matrix.proofs.RowSpaceLaws.{row_space-add_row}
use Rattle.sc_check.proofs.ClearSteps.{cleared_entry, one_space-self}
use Rattle.sc_check.proofs.span.clear_row.Goals as goal

pub returns-clause-one_space : goal.returns-clause-one_space
returns-clause-one_space c =
    subst (λ (x : Matrix ℕ). HaveOneRowSpace IsByte 0 bit_xor gf256_product x c.args.m.now) (sym c.row_add.ensures)
    (row_space-add_row gf256_field c.args.m.now c.args.i c.args.last c.mul-factor.result c.known.ensures.shape c.mul-factor.ensures.element (omega (arith, c.requires.earlier, c.requires.last)) c.requires.last (λ e. absurd (omega (arith, c.requires.earlier, e))))

pub returns-clause-zero : goal.returns-clause-zero
returns-clause-zero c =
    let m : Matrix ℕ = c.args.m.now in
    let factor : c.mul-factor.result ≡ gf256_product (entry 0 m c.args.i c.args.c) (gf256_inverse (entry 0 m c.args.last c.args.c)) =
    c.mul-factor.ensures.value ∙ ap₂ gf256_product c.get-number.ensures.value (c.inv.ensures.value ∙ ap gf256_inverse c.get.ensures.value) in
    subst (λ (x : Matrix ℕ). entry 0 x c.args.i c.args.c ≡ 0) (sym (c.row_add.ensures ∙ ap (λ (f : ℕ). add_row bit_xor gf256_product m c.args.i f c.args.last) factor))
    (cleared_entry m c.args.i c.args.c c.args.last c.known.ensures.shape (omega (arith, c.requires.earlier, c.requires.last)) c.requires.last c.requires.column c.requires.pivot)

pub returns-then-eq-clause-one_space : goal.returns-then-eq-clause-one_space
returns-then-eq-clause-one_space c = one_space-self c.args.m.now c.known.ensures.shape
