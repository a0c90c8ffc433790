use Rattle.std.proofs.Common.{◌≡◌, ◌↔◌, ℕ, ◌*◌, ◌<◌, List, true, false, length, get_or, set, sym, ap, ◌∙◌, subst, arith, inr}
use borrow.Rule.Slice.PartMut.{put_mid}
use Rattle.std.proofs.lemmas.List.{get_or_default}
use Rattle.sc_field.specs.Gf256.{gf256_product}
use Rattle.sc_echelon.specs.Knowledge.{Knowledge, IsSolution}
use Rattle.sc_repair.specs.Columns.{IsRoomyColumns, all_known}
use Rattle.sc_repair.proofs.ColumnSteps.{columns_stored, settled_value, settled_same}
use Rattle.sc_repair.proofs.columns.Columns.settle.Goals as goal

pub invariant_of-self : goal.invariant_of-self
invariant_of-self c =
    let e = c.self.inside in
    let h = c.self.invariant.columns in
    let col = c.args.col in
    let w = e.known.width in
    let src = c.in-Some.bytes.now in
    let view : all_known e.known e.whole.items e.bytes ≡ c.args.self.now = c.self.view_is in
    let lt : col < e.known.cols = subst (λ (k : Knowledge ℕ). col < k.cols) (sym view) c.requires in
    let value = settled_value e.known e.whole.items e.free.items e.bytes h col src lt c.in-Some.ensures c.known.ensures.solvable in
    let long : length src ≡ w = value.width in
    let written : c.write_at.new.self ≡ put_mid (col * w) w e.bytes src =
    c.write_at.ensures ∙ ap (λ (x : ℕ). put_mid (col * x) (length src) e.bytes src) c.width-m.ensures ∙ ap (λ (x : ℕ). put_mid (col * w) x e.bytes src) long in
    subst (λ (b : List ℕ). IsRoomyColumns e.known e.told (set e.whole.items col true) e.free.items b e.sum.items) (sym written)
    (record { columns = columns_stored e.known e.whole.items e.free.items e.bytes h col src lt long value.entries (inr c.in-Some.ensures); quiet = c.self.invariant.quiet; sum_count = c.self.invariant.sum_count })

pub returns-in-Some-clause-same : goal.returns-in-Some-clause-same
returns-in-Some-clause-same c =
    let e = c.self.inside in
    let h = c.self.invariant.columns in
    let col = c.args.col in
    let w = e.known.width in
    let src = c.in-Some.bytes.now in
    let view : all_known e.known e.whole.items e.bytes ≡ c.args.self.now = c.self.view_is in
    let lt : col < e.known.cols = subst (λ (k : Knowledge ℕ). col < k.cols) (sym view) c.requires in
    let not_whole : get_or e.whole.items col false ≡ false = get_or_default e.whole.items col false c.index.result.now (let l = h.whole_count in omega arith) ∙ sym c.index.ensures ∙ c.if-index.false in
    let value = settled_value e.known e.whole.items e.free.items e.bytes h col src lt c.in-Some.ensures c.known.ensures.solvable in
    let long : length src ≡ w = value.width in
    let written : c.write_at.new.self ≡ put_mid (col * w) w e.bytes src =
    c.write_at.ensures ∙ ap (λ (x : ℕ). put_mid (col * x) (length src) e.bytes src) c.width-m.ensures ∙ ap (λ (x : ℕ). put_mid (col * w) x e.bytes src) long in
    subst (λ (k : Knowledge ℕ). (vs : List (List ℕ)) → IsSolution gf256_product (all_known e.known (set e.whole.items col true) c.write_at.new.self) vs ↔ IsSolution gf256_product k vs) view
    (subst (λ (b : List ℕ). (vs : List (List ℕ)) → IsSolution gf256_product (all_known e.known (set e.whole.items col true) b) vs ↔ IsSolution gf256_product (all_known e.known e.whole.items e.bytes) vs) (sym written)
    (settled_same e.known e.whole.items e.free.items e.bytes h col src lt c.in-Some.ensures long not_whole))
