use Rattle.std.proofs.Common.{ℕ, List, All, length, subst, sym, ap, ◌∙◌}
use Rattle.sc_matrix.specs.Matrix.{Matrix, IsMatrix}
use Rattle.sc_code.specs.Code.{IsInRange, HasShape}
use Rattle.sc_code.proofs.code.Code.new.Goals as goal

pub invariant_of-result : goal.invariant_of-result
invariant_of-result g c =
    let slice = c.as_slice.ensures.value in
    record {
      in_range = subst (λ (n : ℕ). IsInRange c.args.k c.args.r n) (c.len.ensures ∙ sym c.as_slice.ensures.len ∙ ap length slice) (c.is_in_range.ensures.0 c.if-not-is_in_range.false);
      shapes = subst (λ (ms : List (Matrix g.row.F.Denot)). All (HasShape c.args.k c.args.r) ms) slice (c.have_shape.ensures.shapes.0 c.if-not-have_shape.false);
      matrices = subst (λ (ms : List (Matrix g.row.F.Denot)). All (IsMatrix g.F.Field.IsElement) ms) slice (c.have_shape.ensures.matrices c.if-not-have_shape.false);
    }
