use Rattle.std.proofs.Common.{◌≡◌, ℕ, ◌*◌, ◌≤◌, ◌++◌, List, Bool, All, true, false, length, drop, replicate, sym, ap, ◌∙◌, subst, arith}
use Rattle.std.specs.Vec.{with_items}
use Rattle.std.proofs.lemmas.List.Elements.{All-append, All-drop, All-replicate}
use Rattle.sc_field.specs.Gf256.{gf256_product}
use Rattle.sc_matrix.specs.Module.{IsByte}
use Rattle.sc_matrix.proofs.LayoutLaws.{items_written}
use Rattle.sc_echelon.specs.Knowledge.{Knowledge, Forgets}
use Rattle.sc_repair.specs.Columns.{IsFree, IsRoomyColumns, all_known}
use Rattle.sc_repair.proofs.ColumnSteps.{columns_forgotten, all_forgotten, free_forgotten, length_shift}
use Rattle.sc_repair.proofs.EquationSteps.{fewer_columns}
use Rattle.sc_repair.proofs.columns.Columns.forget_front.Goals as goal

pub still_told-self-inside-requires-clause-free : goal.still_told-self-inside-requires-clause-free
still_told-self-inside-requires-clause-free c =
    let e = c.self.inside in
    let h = c.self.invariant.columns in
    let count = c.args.count in
    let new = c.forget_told.new.known in
    let view : all_known e.known e.whole.items e.bytes ≡ c.args.self.now = c.self.view_is in
    let room : count ≤ e.known.cols = subst (λ (k : Knowledge ℕ). count ≤ k.cols) (sym view) c.requires in
    let lf = h.free_count in
    let flags : c.shift_flags-2.new.flags ≡ drop count e.free.items ++ replicate count true = c.shift_flags-2.ensures ∙ ap (λ (x : List Bool). drop count x ++ replicate count true) c.as_mut_slice-2.ensures.value in
    let free_is = items_written e.free c.shift_flags-2.new.flags (ap length flags ∙ length_shift e.free.items count true (omega arith)) ∙ flags in
    let moved = c.shift.ensures ∙ ap (λ (m : ℕ). drop (count * m) e.bytes ++ replicate (count * m) 0) c.width-m.ensures in
    subst (IsFree new) (sym (c.as_slice.ensures.value ∙ free_is)) (free_forgotten e.known new e.whole.items e.free.items e.bytes c.shift.new.self count h room c.forget_told.ensures.cols c.forget_told.ensures.width c.forget_told.ensures.solutions moved)

pub invariant_of-self : goal.invariant_of-self
invariant_of-self c =
    let e = c.self.inside in
    let h = c.self.invariant.columns in
    let count = c.args.count in
    let w = e.known.width in
    let new = c.forget_told.new.known in
    let view : all_known e.known e.whole.items e.bytes ≡ c.args.self.now = c.self.view_is in
    let room : count ≤ e.known.cols = subst (λ (k : Knowledge ℕ). count ≤ k.cols) (sym view) c.requires in
    let lw = h.whole_count in
    let lf = h.free_count in
    let flags : c.shift_flags.new.flags ≡ drop count e.whole.items ++ replicate count false = c.shift_flags.ensures ∙ ap (λ (x : List Bool). drop count x ++ replicate count false) c.as_mut_slice.ensures.value in
    let flags' : c.shift_flags-2.new.flags ≡ drop count e.free.items ++ replicate count true = c.shift_flags-2.ensures ∙ ap (λ (x : List Bool). drop count x ++ replicate count true) c.as_mut_slice-2.ensures.value in
    let whole_is = items_written e.whole c.shift_flags.new.flags (ap length flags ∙ length_shift e.whole.items count false (omega arith)) ∙ flags in
    let free_is = items_written e.free c.shift_flags-2.new.flags (ap length flags' ∙ length_shift e.free.items count true (omega arith)) ∙ flags' in
    let moved : c.shift.new.self ≡ drop (count * w) e.bytes ++ replicate (count * w) 0 = c.shift.ensures ∙ ap (λ (m : ℕ). drop (count * m) e.bytes ++ replicate (count * m) 0) c.width-m.ensures in
    let room' : count * w ≤ e.known.cols * w = fewer_columns count e.known.cols w room in
    let lb = h.byte_count in
    let long : length c.shift.new.self ≡ length e.bytes = ap length moved ∙ length_shift e.bytes (count * w) 0 (omega arith) in
    let bytes_ok : All IsByte c.shift.new.self = subst (λ (x : List ℕ). All IsByte x) (sym moved) (All-append IsByte (drop (count * w) e.bytes) (replicate (count * w) 0) (All-drop IsByte (count * w) e.bytes h.are_bytes) (All-replicate IsByte (count * w) 0 (omega arith))) in
    let columns = columns_forgotten e.known new e.whole.items e.free.items e.bytes c.shift.new.self count h room c.forget_told.ensures.cols c.forget_told.ensures.width c.forget_told.ensures.solutions moved long bytes_ok in
    subst (λ (x : List Bool). IsRoomyColumns new c.still_told-self-inside.result x (with_items e.free c.shift_flags-2.new.flags).items c.shift.new.self e.sum.items) (sym whole_is)
    (subst (λ (x : List Bool). IsRoomyColumns new c.still_told-self-inside.result (drop count e.whole.items ++ replicate count false) x c.shift.new.self e.sum.items) (sym free_is)
    (record { columns = columns; quiet = c.still_told-self-inside.ensures; sum_count = c.self.invariant.sum_count ∙ sym c.forget_told.ensures.width }))

pub returns-clause-solutions : goal.returns-clause-solutions
returns-clause-solutions c =
    let e = c.self.inside in
    let h = c.self.invariant.columns in
    let count = c.args.count in
    let new = c.forget_told.new.known in
    let view : all_known e.known e.whole.items e.bytes ≡ c.args.self.now = c.self.view_is in
    let room : count ≤ e.known.cols = subst (λ (k : Knowledge ℕ). count ≤ k.cols) (sym view) c.requires in
    let lw = h.whole_count in
    let flags : c.shift_flags.new.flags ≡ drop count e.whole.items ++ replicate count false = c.shift_flags.ensures ∙ ap (λ (x : List Bool). drop count x ++ replicate count false) c.as_mut_slice.ensures.value in
    let whole_is = items_written e.whole c.shift_flags.new.flags (ap length flags ∙ length_shift e.whole.items count false (omega arith)) ∙ flags in
    let moved = c.shift.ensures ∙ ap (λ (m : ℕ). drop (count * m) e.bytes ++ replicate (count * m) 0) c.width-m.ensures in
    let all = all_forgotten e.known new e.whole.items e.free.items e.bytes c.shift.new.self count h room c.forget_told.ensures.cols c.forget_told.ensures.width c.forget_told.ensures.solutions moved in
    subst (λ (k : Knowledge ℕ). Forgets gf256_product count k (all_known new (with_items e.whole c.shift_flags.new.flags).items c.shift.new.self)) view
    (subst (λ (x : List Bool). Forgets gf256_product count (all_known e.known e.whole.items e.bytes) (all_known new x c.shift.new.self)) (sym whole_is) all)
