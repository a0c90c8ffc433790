use Rattle.std.proofs.Common.{◌≡◌, ℕ, ◌*◌, ◌<◌, List, true, false, length, get_or, set, replicate, sym, ap, ◌∙◌, subst, arith, inl}
use borrow.Rule.Slice.PartMut.{put_mid}
use Rattle.std.proofs.lemmas.List.{get_or_default}
use Rattle.sc_echelon.specs.Knowledge.{Knowledge}
use Rattle.sc_repair.specs.Equations.{Gives, Learns}
use Rattle.sc_repair.specs.Columns.{IsRoomyColumns, all_known}
use Rattle.sc_repair.proofs.ColumnSteps.{columns_stored, learns_stored, are_bytes}
use Rattle.sc_repair.proofs.columns.Columns.store.Goals as goal

pub invariant_of-self : goal.invariant_of-self
invariant_of-self c =
    let e = c.self.inside in
    let h = c.self.invariant.columns in
    let col = c.args.col in
    let w = e.known.width in
    let src = c.args.bytes.now in
    let view : all_known e.known e.whole.items e.bytes ≡ c.args.self.now = c.self.view_is in
    let lt : col < e.known.cols = subst (λ (k : Knowledge ℕ). col < k.cols) (sym view) c.requires.col in
    let long : length src ≡ w = subst (λ (k : Knowledge ℕ). length src ≡ k.width) (sym view) c.requires.bytes in
    let is_free : get_or e.free.items col false ≡ true = get_or_default e.free.items col false c.index-else-index.result.now (let l = h.free_count in omega arith) ∙ sym c.index-else-index.ensures ∙ c.if-not-index.false in
    let written : c.write_at.new.self ≡ put_mid (col * w) w e.bytes src =
    c.write_at.ensures ∙ ap (λ (x : ℕ). put_mid (col * x) (length src) e.bytes src) c.width-m.ensures ∙ ap (λ (x : ℕ). put_mid (col * w) x e.bytes src) long in
    subst (λ (b : List ℕ). IsRoomyColumns e.known e.told (set e.whole.items col true) e.free.items b e.sum.items) (sym written)
    (record { columns = columns_stored e.known e.whole.items e.free.items e.bytes h col src lt long (are_bytes src c.type_inv.bytes) (inl is_free); quiet = c.self.invariant.quiet; sum_count = c.self.invariant.sum_count })

pub returns-clause-stores : goal.returns-clause-stores
returns-clause-stores c yes' =
    let e = c.self.inside in
    let h = c.self.invariant.columns in
    let col = c.args.col in
    let w = e.known.width in
    let src = c.args.bytes.now in
    let view : all_known e.known e.whole.items e.bytes ≡ c.args.self.now = c.self.view_is in
    let lt : col < e.known.cols = subst (λ (k : Knowledge ℕ). col < k.cols) (sym view) c.requires.col in
    let long : length src ≡ w = subst (λ (k : Knowledge ℕ). length src ≡ k.width) (sym view) c.requires.bytes in
    let not_whole : get_or e.whole.items col false ≡ false = get_or_default e.whole.items col false c.index.result.now (let l = h.whole_count in omega arith) ∙ sym c.index.ensures ∙ c.if-index.false in
    let written : c.write_at.new.self ≡ put_mid (col * w) w e.bytes src =
    c.write_at.ensures ∙ ap (λ (x : ℕ). put_mid (col * x) (length src) e.bytes src) c.width-m.ensures ∙ ap (λ (x : ℕ). put_mid (col * w) x e.bytes src) long in
    subst (λ (k : Knowledge ℕ). Learns k (all_known e.known (set e.whole.items col true) c.write_at.new.self) (Gives k.width (set (replicate k.cols 0) col 1) src)) view
    (subst (λ (b : List ℕ). Learns (all_known e.known e.whole.items e.bytes) (all_known e.known (set e.whole.items col true) b) (Gives w (set (replicate e.known.cols 0) col 1) src)) (sym written)
    (learns_stored e.known e.whole.items e.free.items e.bytes h col src lt long not_whole))
