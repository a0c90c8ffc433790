use Rattle.std.proofs.Common.{◌≡◌, ◌*◌, All, length, bit_xor, ap, ◌∙◌, sym, subst}
use Rattle.std.proofs.lemmas.List.Elements.{All-from_get_or}
use Rattle.sc_field.specs.Gf256.{gf256_product}
use Rattle.sc_field.specs.Terms.{combined}
use Rattle.sc_matrix.specs.Module.{IsByte}
use Rattle.sc_matrix.specs.Vector.{add_vectors, combination}
use Rattle.sc_matrix.specs.Layout.{cut}
use Rattle.sc_repair.specs.Sum.{RowSum}
use Rattle.sc_repair.proofs.ColumnSteps.{are_bytes}
use Rattle.sc_repair.proofs.SumSteps.{terms_all}
use Rattle.sc_repair.proofs.sum.ParitySum.add_to.Goals as goal

pub returns-clause-sum : goal.returns-clause-sum
returns-clause-sum c =
    let e = c.self.inside in
    let sum = c.args.sum.now in
    let bytes = c.args.bytes.now in
    let view = c.self.view_is in
    subst (λ (s : RowSum). c.combine_add.new.dst ≡ add_vectors bit_xor sum (combination 0 bit_xor gf256_product s.width s.row (cut (length s.row) s.width bytes))) view
    (c.combine_add.ensures ∙ ap (λ ts. combined (λ t. gf256_product t.multiplier.coefficient) (λ t. t.at) ts sum bytes) c.as_slice.ensures.value
    ∙ terms_all (λ t. t.multiplier.coefficient) (λ t. t.at) e.width e.row.items e.terms.items c.self.invariant.are_terms bytes sum
    (subst (λ (s : RowSum). length sum ≡ s.width) (sym view) c.requires.sum) (subst (λ (s : RowSum). length bytes ≡ length s.row * s.width) (sym view) c.requires.bytes) c.are_known.ensures (are_bytes bytes c.type_inv.bytes))

pub returns-clause-elements : goal.returns-clause-elements
returns-clause-elements c =
    subst (λ (s : RowSum). All IsByte s.row) c.self.view_is (All-from_get_or IsByte c.self.inside.row.items 0 c.self.invariant.are_terms.elements)
