use Rattle.std.proofs.Common.{◌≡◌, ℕ, ◌*◌, ◌+◌, ◌<◌, ◌≤◌, List, true, false, length, get_or, take, drop, bit_xor, sym, ap, ap₂, ◌∙◌, subst, arith}
use Rattle.std.proofs.lemmas.List.{get_or-take, get_or-drop, length-take-le, length-drop}
use Rattle.sc_field.specs.Gf256.{gf256_product}
use Rattle.sc_matrix.specs.Vector.{add_vectors, combination}
use Rattle.sc_matrix.specs.Layout.{cut}
use Rattle.sc_echelon.specs.Knowledge.{zero_bytes}
use Rattle.sc_repair.specs.Equations.{Gives}
use Rattle.sc_repair.specs.Columns.{all_known}
use Rattle.sc_repair.specs.Sum.{placed, open_at}
use Rattle.sc_repair.proofs.SumSteps.{sum_says, within_says, open_bytes, learns_alike, refuses_alike, part_long}
use Rattle.sc_repair.proofs.ColumnSteps.{columns_less, flag_within}
use Rattle.sc_repair.proofs.columns.add_sum.Goals as goal

pub part_of-requires : goal.part_of-requires
part_of-requires c =
    let known = c.args.known.now in
    let h = c.requires.columns in
    let first = c.args.first in
    let long = part_long known.cols known.width first (length c.args.parity.now.row) c.requires.room in
    subst (λ (m : ℕ). first * m + c.cols-count.result * m ≤ length c.args.bytes.now) (sym c.requires.sum)
    (subst (λ (k : ℕ). first * known.width + k * known.width ≤ length c.args.bytes.now) (sym c.cols-count.ensures) (let b = h.byte_count in omega arith))

pub add_to-requires-clause-bytes : goal.add_to-requires-clause-bytes
add_to-requires-clause-bytes c =
    let known = c.args.known.now in
    let k = length c.args.parity.now.row in
    let long = part_long known.cols known.width c.args.first k c.requires.room in
    let b = c.requires.columns.byte_count in
    let ld = length-drop (c.args.first * known.width) c.args.bytes.now in
    let all : length (take (k * known.width) (drop (c.args.first * known.width) c.args.bytes.now)) ≡ k * known.width = length-take-le (k * known.width) (drop (c.args.first * known.width) c.args.bytes.now) (omega arith) in
    ap length (c.part_of.ensures ∙ ap₂ (λ (x m : ℕ). take (x * m) (drop (c.args.first * m) c.args.bytes.now)) c.cols-count.ensures c.requires.sum) ∙ all ∙ ap (λ (m : ℕ). k * m) (sym c.requires.parity)

pub returns-then-is_within-clause-learns : goal.returns-then-is_within-clause-learns
returns-then-is_within-clause-learns c yes' symbols =
    let known = c.args.known.now in
    let whole = c.args.whole.now in
    let bytes = c.args.bytes.now in
    let row = c.args.parity.now.row in
    let sum = c.args.sum.now in
    let first = c.args.first in
    let w = known.width in
    let is = c.add_to.ensures.sum ∙ ap₂ (λ (x : ℕ) (b : List ℕ). add_vectors bit_xor sum (combination 0 bit_xor gf256_product x row (cut (length row) x b))) c.requires.parity
    (c.part_of.ensures ∙ ap₂ (λ (k m : ℕ). take (k * m) (drop (first * m) bytes)) c.cols-count.ensures c.requires.sum) in
    let within : (i : ℕ) → i < length row → get_or whole (first + i) false ≡ false → get_or row i 0 ≡ 0 =
    λ i lt e. c.is_within.ensures c.if-is_within.true i lt (get_or-take _ (drop first whole) i false (let k = c.cols-count.ensures in omega arith) ∙ get_or-drop first whole i false ∙ e) in
    let none : zero_bytes w ≡ c.add_to.new.sum = sym (c.is_zero.ensures.yes yes' ∙ ap zero_bytes (c.add_to.auto.sum ∙ c.requires.sum)) in (
      λ s. (s, (within_says known whole c.args.free.now bytes row sum first c.requires.columns c.requires.room c.add_to.ensures.elements c.requires.sum c.add_to.new.sum within is symbols s).1 none),
      λ s. s.0,
    )

pub returns-then-is_within-clause-refuses : goal.returns-then-is_within-clause-refuses
returns-then-is_within-clause-refuses c no' symbols s g =
    let known = c.args.known.now in
    let whole = c.args.whole.now in
    let bytes = c.args.bytes.now in
    let row = c.args.parity.now.row in
    let sum = c.args.sum.now in
    let first = c.args.first in
    let is = c.add_to.ensures.sum ∙ ap₂ (λ (x : ℕ) (b : List ℕ). add_vectors bit_xor sum (combination 0 bit_xor gf256_product x row (cut (length row) x b))) c.requires.parity
    (c.part_of.ensures ∙ ap₂ (λ (k m : ℕ). take (k * m) (drop (first * m) bytes)) c.cols-count.ensures c.requires.sum) in
    let within : (i : ℕ) → i < length row → get_or whole (first + i) false ≡ false → get_or row i 0 ≡ 0 =
    λ i lt e. c.is_within.ensures c.if-is_within.true i lt (get_or-take _ (drop first whole) i false (let k = c.cols-count.ensures in omega arith) ∙ get_or-drop first whole i false ∙ e) in
    let none = (within_says known whole c.args.free.now bytes row sum first c.requires.columns c.requires.room c.add_to.ensures.elements c.requires.sum c.add_to.new.sum within is symbols s).0 g in
    c.is_zero.ensures.no no' (sym none ∙ ap zero_bytes (sym (c.add_to.auto.sum ∙ c.requires.sum)))

pub add_touched-requires-clause-elements : goal.add_touched-requires-clause-elements
add_touched-requires-clause-elements c =
    let known = c.args.known.now in
    let whole = c.args.whole.now in
    let row = c.args.parity.now.row in
    let first = c.args.first in
    let left : (i : ℕ) → i < known.cols → get_or c.write_open.new.row i 0 ≡ open_at known.cols first row whole i =
    subst (λ (n : ℕ). (i : ℕ) → i < n → get_or c.write_open.new.row i 0 ≡ open_at n first row whole i) c.requires.row c.write_open.ensures.«open» in
    open_bytes known whole c.args.free.now c.args.bytes.now row c.args.sum.now first c.requires.columns c.requires.room c.add_to.ensures.elements c.requires.sum c.write_open.new.row (c.write_open.ensures.row ∙ c.requires.row) left

pub add_touched-requires-clause-columns : goal.add_touched-requires-clause-columns
add_touched-requires-clause-columns c =
    let h = c.requires.columns in
    columns_less c.args.known.now c.args.whole.now c.args.free.now c.touch_open.new.free c.args.bytes.now h c.touch_open.ensures.count (λ i e f. c.touch_open.ensures.kept i e f) c.touch_open.ensures.less

pub add_touched-requires-clause-touched : goal.add_touched-requires-clause-touched
add_touched-requires-clause-touched c =
    let known = c.args.known.now in
    let whole = c.args.whole.now in
    let row = c.args.parity.now.row in
    let first = c.args.first in
    let left : (i : ℕ) → i < known.cols → get_or c.write_open.new.row i 0 ≡ open_at known.cols first row whole i =
    subst (λ (n : ℕ). (i : ℕ) → i < n → get_or c.write_open.new.row i 0 ≡ open_at n first row whole i) c.requires.row c.write_open.ensures.«open» in
    let count = c.requires.columns.free_count in
    let off : (i : ℕ) → get_or c.touch_open.new.free i false ≡ true → open_at known.cols first row whole i ≡ 0 =
    subst (λ (n : ℕ). (i : ℕ) → get_or c.touch_open.new.free i false ≡ true → open_at n first row whole i ≡ 0) count c.touch_open.ensures.touched in
    λ i e. (let lt = flag_within c.touch_open.new.free i e in let l = c.touch_open.ensures.count in left i (omega arith) ∙ off i e)

pub returns-clause-learns : goal.returns-clause-learns
returns-clause-learns c yes' =
    let known = c.args.known.now in
    let whole = c.args.whole.now in
    let bytes = c.args.bytes.now in
    let row = c.args.parity.now.row in
    let sum = c.args.sum.now in
    let first = c.args.first in
    let is = c.add_to.ensures.sum ∙ ap₂ (λ (x : ℕ) (b : List ℕ). add_vectors bit_xor sum (combination 0 bit_xor gf256_product x row (cut (length row) x b))) c.requires.parity
    (c.part_of.ensures ∙ ap₂ (λ (k m : ℕ). take (k * m) (drop (first * m) bytes)) c.cols-count.ensures c.requires.sum) in
    let left : (i : ℕ) → i < known.cols → get_or c.write_open.new.row i 0 ≡ open_at known.cols first row whole i =
    subst (λ (n : ℕ). (i : ℕ) → i < n → get_or c.write_open.new.row i 0 ≡ open_at n first row whole i) c.requires.row c.write_open.ensures.«open» in
    learns_alike (all_known known whole bytes) (all_known c.add_touched.new.known whole bytes) (Gives known.width (placed known.cols first row) sum) (Gives known.width c.write_open.new.row c.add_to.new.sum)
    (sum_says known whole c.args.free.now bytes row sum first c.requires.columns c.requires.room c.add_to.ensures.elements c.requires.sum c.write_open.new.row c.add_to.new.sum (c.write_open.ensures.row ∙ c.requires.row) left is) (c.add_touched.ensures.learns yes')

pub returns-clause-refuses : goal.returns-clause-refuses
returns-clause-refuses c no' =
    let known = c.args.known.now in
    let whole = c.args.whole.now in
    let bytes = c.args.bytes.now in
    let row = c.args.parity.now.row in
    let sum = c.args.sum.now in
    let first = c.args.first in
    let is = c.add_to.ensures.sum ∙ ap₂ (λ (x : ℕ) (b : List ℕ). add_vectors bit_xor sum (combination 0 bit_xor gf256_product x row (cut (length row) x b))) c.requires.parity
    (c.part_of.ensures ∙ ap₂ (λ (k m : ℕ). take (k * m) (drop (first * m) bytes)) c.cols-count.ensures c.requires.sum) in
    let left : (i : ℕ) → i < known.cols → get_or c.write_open.new.row i 0 ≡ open_at known.cols first row whole i =
    subst (λ (n : ℕ). (i : ℕ) → i < n → get_or c.write_open.new.row i 0 ≡ open_at n first row whole i) c.requires.row c.write_open.ensures.«open» in
    refuses_alike (all_known known whole bytes) (Gives known.width (placed known.cols first row) sum) (Gives known.width c.write_open.new.row c.add_to.new.sum)
    (sum_says known whole c.args.free.now bytes row sum first c.requires.columns c.requires.room c.add_to.ensures.elements c.requires.sum c.write_open.new.row c.add_to.new.sum (c.write_open.ensures.row ∙ c.requires.row) left is) (c.add_touched.ensures.refuses no')
