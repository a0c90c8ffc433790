use Rattle.std.proofs.Common.{◌≡◌, ◌↔◌, ℕ, false, length, subst, sym, ◌∙◌, ap}
use Rattle.std.proofs.lemmas.List.{with_items_is, length-replicate}
use Rattle.std.proofs.lemmas.List.Elements.{All-same}
use Rattle.std.specs.Vec.{with_items}
use Rattle.sc_echelon.specs.Table.{rows_of}
use Rattle.sc_echelon.specs.Storage.{table_of}
use Rattle.sc_echelon.specs.Echelon.{coeffs_of}
use Rattle.sc_echelon.specs.Kernel.{IsKernelVector}
use Rattle.sc_echelon.proofs.StoredReduced.{same_kernel, echelon_stored_start, kernel_stored_start}
use Rattle.sc_echelon.proofs.reduced.Reduced.of.Goals as goal

pub reduce_rows-requires-clause-stored : goal.reduce_rows-requires-clause-stored
reduce_rows-requires-clause-stored g c =
    echelon_stored_start g.met.F.Field.field _ _ _ (c.as_mut_slice-2.ensures.value ∙ c.in_ok-used.ensures.items_if_clones_equal (λ y e. e)) (ap length c.as_mut_slice.ensures.value ∙ c.in_ok-rows.ensures.count)
    (All-same (λ r. length r.coeffs ≡ c.cols-cols.result) c.as_mut_slice.result.now _ c.as_mut_slice.ensures.value c.in_ok-rows.ensures.widths)
    (All-same (λ r. length r.right ≡ 0) c.as_mut_slice.result.now _ c.as_mut_slice.ensures.value c.in_ok-rows.ensures.rights)

pub reduce_rows-requires-clause-start : goal.reduce_rows-requires-clause-start
reduce_rows-requires-clause-start g c =
    kernel_stored_start g.met.F.Field.field _ _ _ (c.as_mut_slice-2.ensures.value ∙ c.in_ok-used.ensures.items_if_clones_equal (λ y e. e)) (ap length c.as_mut_slice.ensures.value ∙ c.in_ok-rows.ensures.count)

pub returns-clause-kernel : goal.returns-clause-kernel
returns-clause-kernel g c = λ v.
    let K = IsKernelVector g.F.Field.IsElement g.F.Field.zero g.F.Field.add g.F.Field.mul in
    let m = c.args.m.now in
    let nu = c.reduce_rows.new.used in
    let nr = c.reduce_rows.new.rows in
    let iu = (with_items c.in_ok-used.used nu).items in
    let ir = (with_items c.in_ok-rows.rows nr).items in
    let is_u : iu ≡ nu = with_items_is c.in_ok-used.used nu (c.reduce_rows.ensures.flags ∙ c.as_mut_slice-2.ensures.len) in
    let is_r : ir ≡ nr = with_items_is c.in_ok-rows.rows nr (c.reduce_rows.auto.rows ∙ c.as_mut_slice.ensures.len) in
    let size : length nu ≡ m.cols =
    c.reduce_rows.ensures.flags ∙ ap length (c.as_mut_slice-2.ensures.value ∙ c.in_ok-used.ensures.items_if_clones_equal (λ y e. e)) ∙ length-replicate _ false ∙ c.cols-cols.ensures.count in
    subst (λ (k : ℕ). K (length iu) (rows_of (coeffs_of (table_of iu ir))) v ↔ K k m.rows v) size
    (subst (λ us. K (length us) (rows_of (coeffs_of (table_of us ir))) v ↔ K (length nu) m.rows v) (sym is_u)
    (subst (λ rs. K (length nu) (rows_of (coeffs_of (table_of nu rs))) v ↔ K (length nu) m.rows v) (sym is_r)
    (same_kernel g.F.Field.zero g.F.Field.add g.F.Field.mul g.F.Field.IsElement (length nu) (coeffs_of (table_of nu nr)) m.rows c.reduce_rows.ensures.kernel v)))
