use Rattle.std.proofs.Common.{◌≡◌, ℕ, ◌+◌, ◌*◌, ◌≤◌, ◌++◌, List, Bool, true, length, take, drop, replicate, sym, ap, ◌∙◌, subst, arith}
use Rattle.std.specs.Vec.{with_items}
use borrow.Rule.Slice.PartMut.{put_mid}
use Rattle.sc_matrix.proofs.LayoutLaws.{items_written}
use Rattle.sc_echelon.specs.Knowledge.{Knowledge}
use Rattle.sc_repair.specs.Equations.{HasColumns, Learns}
use Rattle.sc_repair.specs.Columns.{IsRoomyColumns, all_known}
use Rattle.sc_repair.proofs.ColumnSteps.{are_bytes}
use Rattle.sc_repair.proofs.RunSteps.{columns_run, learns_run, run_within, unknown_run, flags_set, flags_set_is, length-flags_set}
use Rattle.sc_repair.proofs.columns.Columns.store_all.Goals as goal

pub invariant_of-self : goal.invariant_of-self
invariant_of-self c =
    let e = c.self.inside in
    let h = c.self.invariant.columns in
    let first = c.args.first in
    let count = c.args.count in
    let w = e.known.width in
    let src = c.args.bytes.now in
    let whole : List Bool = e.whole.items in
    let free : List Bool = e.free.items in
    let view : all_known e.known whole e.bytes ≡ c.args.self.now = c.self.view_is in
    let room : first + count ≤ e.known.cols = subst (λ (k : Knowledge ℕ). first + count ≤ k.cols) (sym view) c.requires.cols in
    let long : length src ≡ count * w = subst (λ (k : Knowledge ℕ). length src ≡ count * k.width) (sym view) c.requires.bytes in
    let within : first + count ≤ length whole = (let l = h.whole_count in omega arith) in
    let unknown = unknown_run whole free c.deref.result.now c.deref-2.result.now first count c.deref.ensures.value c.deref-2.ensures.value within (c.are_unknown.ensures.yes c.if-not-are_unknown.false) in
    let flags : c.set_flags.new.flags ≡ flags_set first count whole =
    c.set_flags.ensures ∙ ap (λ (x : List Bool). take first x ++ (replicate count true ++ drop (first + count) x)) c.as_mut_slice.ensures.value ∙ flags_set_is first count whole in
    let whole_is = items_written e.whole c.set_flags.new.flags (ap length flags ∙ length-flags_set first count whole within) ∙ flags in
    let written : c.write_at.new.self ≡ put_mid (first * w) (count * w) e.bytes src =
    c.write_at.ensures ∙ ap (λ (x : ℕ). put_mid (first * x) (length src) e.bytes src) c.width-m.ensures ∙ ap (λ (x : ℕ). put_mid (first * w) x e.bytes src) long in
    subst (λ (b : List ℕ). IsRoomyColumns e.known e.told (with_items e.whole c.set_flags.new.flags).items free b e.sum.items) (sym written)
    (subst (λ (x : List Bool). IsRoomyColumns e.known e.told x free (put_mid (first * w) (count * w) e.bytes src) e.sum.items) (sym whole_is)
    (record { columns = columns_run e.known whole free e.bytes h first count src room long unknown (are_bytes src c.type_inv.bytes); quiet = c.self.invariant.quiet; sum_count = c.self.invariant.sum_count }))

pub returns-clause-stores : goal.returns-clause-stores
returns-clause-stores c yes' =
    let e = c.self.inside in
    let h = c.self.invariant.columns in
    let first = c.args.first in
    let count = c.args.count in
    let w = e.known.width in
    let src = c.args.bytes.now in
    let whole : List Bool = e.whole.items in
    let free : List Bool = e.free.items in
    let view : all_known e.known whole e.bytes ≡ c.args.self.now = c.self.view_is in
    let room : first + count ≤ e.known.cols = subst (λ (k : Knowledge ℕ). first + count ≤ k.cols) (sym view) c.requires.cols in
    let long : length src ≡ count * w = subst (λ (k : Knowledge ℕ). length src ≡ count * k.width) (sym view) c.requires.bytes in
    let within : first + count ≤ length whole = (let l = h.whole_count in omega arith) in
    let unknown = unknown_run whole free c.deref.result.now c.deref-2.result.now first count c.deref.ensures.value c.deref-2.ensures.value within (c.are_unknown.ensures.yes c.if-not-are_unknown.false) in
    let flags : c.set_flags.new.flags ≡ flags_set first count whole =
    c.set_flags.ensures ∙ ap (λ (x : List Bool). take first x ++ (replicate count true ++ drop (first + count) x)) c.as_mut_slice.ensures.value ∙ flags_set_is first count whole in
    let whole_is = items_written e.whole c.set_flags.new.flags (ap length flags ∙ length-flags_set first count whole within) ∙ flags in
    let written : c.write_at.new.self ≡ put_mid (first * w) (count * w) e.bytes src =
    c.write_at.ensures ∙ ap (λ (x : ℕ). put_mid (first * x) (length src) e.bytes src) c.width-m.ensures ∙ ap (λ (x : ℕ). put_mid (first * w) x e.bytes src) long in
    subst (λ (k : Knowledge ℕ). Learns k (all_known e.known (with_items e.whole c.set_flags.new.flags).items c.write_at.new.self) (HasColumns k.cols k.width first count src)) view
    (subst (λ (b : List ℕ). Learns (all_known e.known whole e.bytes) (all_known e.known (with_items e.whole c.set_flags.new.flags).items b) (HasColumns e.known.cols w first count src)) (sym written)
    (subst (λ (x : List Bool). Learns (all_known e.known whole e.bytes) (all_known e.known x (put_mid (first * w) (count * w) e.bytes src)) (HasColumns e.known.cols w first count src)) (sym whole_is)
    (learns_run e.known whole free e.bytes h first count src room long unknown)))

pub write_at-requires : goal.write_at-requires
write_at-requires c =
    let e = c.self.inside in
    let h = c.self.invariant.columns in
    let first = c.args.first in
    let count = c.args.count in
    let src = c.args.bytes.now in
    let view : all_known e.known e.whole.items e.bytes ≡ c.args.self.now = c.self.view_is in
    let room : first + count ≤ e.known.cols = subst (λ (k : Knowledge ℕ). first + count ≤ k.cols) (sym view) c.requires.cols in
    let long : length src ≡ count * e.known.width = subst (λ (k : Knowledge ℕ). length src ≡ count * k.width) (sym view) c.requires.bytes in
    subst (λ (m : ℕ). first * m + length src ≤ length e.bytes) (sym c.width-m.ensures)
    (let within = run_within e.known.cols e.known.width first count e.bytes src h.byte_count room long in omega arith)
