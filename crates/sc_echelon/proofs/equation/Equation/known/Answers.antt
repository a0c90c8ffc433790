use Rattle.std.proofs.Common.{All, ◌∙◌, ap, subst}
use Rattle.std.proofs.lemmas.List.Elements.{All-map}
use Rattle.sc_matrix.specs.Module.{IsByte}
use Rattle.sc_echelon.proofs.equation.Equation.known.Goals as goal

pub returns-clause-elements : goal.returns-clause-elements
returns-clause-elements g c =
    let element = g.F.Field.element in
    subst (All g.F.Field.IsElement) (ap (λ r. r.coeffs) c.self.view_is)
    (All-map g.F.Field.IsElement element c.self.inside.numbers (λ k d l. (c.self.invariant.all k d l).is_element))

pub returns-clause-bytes : goal.returns-clause-bytes
returns-clause-bytes g c = subst (All IsByte) (c.as_slice.ensures.value ∙ ap (λ r. r.right) c.self.view_is) c.known_bytes.ensures
