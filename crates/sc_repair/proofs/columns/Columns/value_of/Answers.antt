use Rattle.std.proofs.Common.{◌≡◌, ℕ, ◌*◌, ◌+◌, ◌-◌, ◌<◌, List, [], true, false, get_or, take, drop, refl, sym, ap, ◌∙◌, subst, arith}
use Rattle.std.proofs.lemmas.List.{get_or_default}
use Rattle.sc_field.specs.Gf256.{gf256_product}
use Rattle.sc_matrix.specs.Layout.{cut}
use Rattle.sc_matrix.proofs.LayoutLaws.{row_part}
use Rattle.sc_matrix.proofs.NumberLaws.{option_account}
use Rattle.sc_echelon.specs.Knowledge.{Knowledge, IsValueAt, IsOpenAt}
use Rattle.sc_repair.specs.Columns.{all_known}
use Rattle.sc_repair.proofs.ColumnSteps.{value_where_whole, value_where_solved, open_where_open}
use Rattle.sc_repair.proofs.columns.Columns.value_of.Goals as goal

pub returns-then-index : goal.returns-then-index
returns-then-index c =
    let e = c.self.inside in
    let h = c.self.invariant.columns in
    let col = c.args.col in
    let m = c.width-m.result in
    let w = e.known.width in
    let view : all_known e.known e.whole.items e.bytes ≡ c.args.self.now = c.self.view_is in
    let lt : col < e.known.cols = subst (λ (k : Knowledge ℕ). col < k.cols) (sym view) c.requires in
    let whole_here : get_or e.whole.items col false ≡ true = get_or_default e.whole.items col false c.index.result.now (let l = h.whole_count in omega arith) ∙ sym c.index.ensures ∙ c.if-index.true in
    let bytes : get_or (cut e.known.cols w e.bytes) col [] ≡ take (col * m + m - col * m) (drop (col * m) c.as_slice.result.now) =
    sym (ap (λ (x : ℕ). take (col * x + x - col * x) (drop (col * x) c.as_slice.result.now)) c.width-m.ensures
    ∙ ap (λ (b : List ℕ). take (col * w + w - col * w) (drop (col * w) b)) c.as_slice.ensures
    ∙ row_part e.known.cols w e.bytes col (col * w) refl lt) in
    subst (λ (k : Knowledge ℕ). IsValueAt gf256_product k col (take (col * m + m - col * m) (drop (col * m) c.as_slice.result.now))) view
    (subst (λ (b : List ℕ). IsValueAt gf256_product (all_known e.known e.whole.items e.bytes) col b) bytes
    (value_where_whole e.known e.whole.items e.free.items e.bytes h col whole_here))

pub returns : goal.returns
returns c =
    let e = c.self.inside in
    let h = c.self.invariant.columns in
    let col = c.args.col in
    let view : all_known e.known e.whole.items e.bytes ≡ c.args.self.now = c.self.view_is in
    let lt : col < e.known.cols = subst (λ (k : Knowledge ℕ). col < k.cols) (sym view) c.requires in
    let not_whole : get_or e.whole.items col false ≡ false = get_or_default e.whole.items col false c.index.result.now (let l = h.whole_count in omega arith) ∙ sym c.index.ensures ∙ c.if-index.false in
    option_account c.value_of.result
    (λ x. subst (λ (k : Knowledge ℕ). IsOpenAt gf256_product k col) view (open_where_open e.known e.whole.items e.free.items e.bytes h col lt not_whole x))
    (λ b x. subst (λ (k : Knowledge ℕ). IsValueAt gf256_product k col b.now) view (value_where_solved e.known e.whole.items e.free.items e.bytes h col b.now x))
    c.value_of.ensures
