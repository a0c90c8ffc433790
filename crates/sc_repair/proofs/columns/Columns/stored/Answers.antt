use Rattle.std.proofs.Common.{◌≡◌, ℕ, ◌+◌, ◌-◌, ◌*◌, ◌<◌, ◌≤◌, Bool, List, true, false, length, get_or, take, drop, sym, ap, ◌∙◌, subst, arith}
use Rattle.std.proofs.lemmas.List.{get_or-take, get_or-drop, length-take-le, length-drop}
use Rattle.sc_echelon.specs.Knowledge.{Knowledge}
use Rattle.sc_repair.specs.Columns.{all_known, AreValuesAt}
use Rattle.sc_repair.proofs.SumSteps.{part_long, values_where_whole}
use Rattle.sc_repair.proofs.columns.Columns.stored.Goals as goal

pub part_of-requires : goal.part_of-requires
part_of-requires c =
    let e = c.self.inside in
    let h = c.self.invariant.columns in
    let first = c.args.first in
    let count = c.args.count in
    let view : all_known e.known e.whole.items e.bytes ≡ c.args.self.now = c.self.view_is in
    let room : first + count ≤ e.known.cols = subst (λ (k : Knowledge ℕ). first + count ≤ k.cols) (sym view) c.requires in
    subst (λ (m : ℕ). first * m + count * m ≤ length c.as_slice.result.now) (sym c.width-m.ensures)
    (let long = part_long e.known.cols e.known.width first count room in let l = ap length c.as_slice.ensures in let b = h.byte_count in omega arith)

pub returns : goal.returns
returns c =
    let e = c.self.inside in
    let h = c.self.invariant.columns in
    let first = c.args.first in
    let count = c.args.count in
    let w = e.known.width in
    let whole : List Bool = e.whole.items in
    let view : all_known e.known whole e.bytes ≡ c.args.self.now = c.self.view_is in
    let room : first + count ≤ e.known.cols = subst (λ (k : Knowledge ℕ). first + count ≤ k.cols) (sym view) c.requires in
    let part : c.part_of.result.now ≡ take (count * w) (drop (first * w) e.bytes) =
    c.part_of.ensures ∙ ap (λ (m : ℕ). take (count * m) (drop (first * m) c.as_slice.result.now)) c.width-m.ensures ∙ ap (λ (b : List ℕ). take (count * w) (drop (first * w) b)) c.as_slice.ensures in
    let flags : List Bool = take ((first + count) - first) (drop first whole) in
    let long : length flags ≡ (first + count) - first = length-take-le ((first + count) - first) (drop first whole) (let l = length-drop first whole in let n = h.whole_count in omega arith) in
    let here : (i : ℕ) → i < count → get_or whole (first + i) false ≡ true =
    λ i lt. sym (ap (λ (f : List Bool). get_or (take ((first + count) - first) (drop first f)) i false) c.deref.ensures.value ∙ get_or-take ((first + count) - first) (drop first whole) i false (omega arith) ∙ get_or-drop first whole i false)
    ∙ c.has_off.ensures c.if-has_off.false i (let s = ap (λ (f : List Bool). length (take ((first + count) - first) (drop first f))) c.deref.ensures.value in omega arith) in
    subst (λ (k : Knowledge ℕ). AreValuesAt k first count c.part_of.result.now) view
    (subst (λ (b : List ℕ). AreValuesAt (all_known e.known whole e.bytes) first count b) (sym part) (values_where_whole e.known whole e.free.items e.bytes h first count room here))
