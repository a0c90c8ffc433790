-- The least index over parts that stand side by side.
use Rattle.std.proofs.Common.{◌≡◌, ℕ, ◌+◌, ◌*◌, ◌/◌, ◌<◌, ◌≤◌, ◌↔◌, bit_xor, min, Bool, true, false, cond, List, [], Option, Some, None, MatchOption, Result, Ok, Err, IfOk, IsTrue, refl, sym, ap, ◌∙◌, subst, arith, inl, inr}
use Rattle.std.proofs.lemmas.Bool.{cases_lt, cases_order, false≢true}
use Rattle.std.proofs.lemmas.List.{get_or_default}
use Rattle.std.proofs.lemmas.Nat.{le-div, mul-le}
use Rattle.std.proofs.Math.Nat.{div-mul-le_self, mul-div_cancel_left}
use Rattle.sc_field.specs.Gf256.{gf256_product}
use Rattle.sc_channel.specs.Channel.{ChannelNumbers}
use Rattle.sc_channel.specs.Classes.{classes_of, class_count}
use Rattle.sc_channel.proofs.ClassLaws.{length-classes_of}
use Rattle.sc_code.specs.Code.{Code}
use Rattle.sc_code.specs.Determined.{IsDecided}
use Rattle.sc_code.specs.Elements.{IsDecidedOver}
use Rattle.sc_code.proofs.ElementLaws.{IsDecidedOver-iff_bytes}
use Rattle.sc_channel.specs.Flags.{IsSet}
use Rattle.sc_channel.proofs.SetCountSteps.{IsSet-in_range}
use Rattle.sc_matrix.specs.Module.{IsByte}
use Rattle.sc_check.specs.Failing.{DecidesAt, DecidesAll, IsFirstIn, FirstIn, FirstBehind, IsFirstFailing, least_found}

-- one class more
pub decides-more : (code : Code ℕ) (channel : ChannelNumbers) (from index : ℕ) → ((i : ℕ) → from ≤ i → i < index → DecidesAt code channel i) → DecidesAt code channel index → (i : ℕ) → from ≤ i → i < index + 1 → DecidesAt code channel i
decides-more code channel from index before here i low lt =
    elim (cases_lt i index) [
      | inl below ↦ before i low below
      | inr past ↦
          let same : index ≡ i = omega arith in
          let P : ℕ → Type 0 = λ k. DecidesAt code channel k in
          subst P same here
    ]

-- of two parts side by side the lesser answer is that of both
pub FirstIn-least : (code : Code ℕ) (channel : ChannelNumbers) (from middle to : ℕ) (left right : Option ℕ) → from ≤ middle → middle ≤ to → FirstIn code channel from middle left → FirstIn code channel middle to right → FirstIn code channel from to (least_found left right)
FirstIn-least code channel from middle to None None low high l r = λ i le lt.
    elim (cases_lt i middle) [ inl below ↦ l i le below | inr past ↦ r i past lt ]
FirstIn-least code channel from middle to None (Some b) low high l r =
    record {
      from_on = omega (arith, r.from_on);
      below = r.below;
      fails = r.fails;
      earlier = λ i le lt. elim (cases_lt i middle) [ inl below ↦ l i le below | inr past ↦ r.earlier i past lt ];
    }
FirstIn-least code channel from middle to (Some a) None low high l r =
    record { from_on = l.from_on; below = omega (arith, l.below); fails = l.fails; earlier = l.earlier }
FirstIn-least code channel from middle to (Some a) (Some b) low high l r =
    let first : min a b ≡ a = omega (arith, l.below, r.from_on) in
    let P : ℕ → Type 0 = λ k. IsFirstIn code channel from to k in
    subst P (sym first) (record { from_on = l.from_on; below = omega (arith, l.below); fails = l.fails; earlier = l.earlier })

-- all parts are all classes
pub first-of_all : (code : Code ℕ) (channel : ChannelNumbers) (from to : ℕ) (found : Option ℕ) → from ≡ 0 → to ≡ class_count channel → FirstIn code channel from to found → MatchOption found (DecidesAll code channel) (IsFirstFailing code channel)
first-of_all code channel from to None start end all = λ i d lt.
    let long = length-classes_of channel in
    let P : List Bool → Type 0 = λ class. IsDecided 0 gf256_product code class in
    subst P (get_or_default (classes_of channel) i [] d lt) (all i (omega arith) (omega (arith, lt)))
first-of_all code channel from to (Some index) start end first =
    record {
      in_range = omega (arith, first.below);
      fails = first.fails;
      earlier = λ i lt. first.earlier i (omega arith) lt;
    }

-- there is one such answer
decides-from_all : (code : Code ℕ) (channel : ChannelNumbers) (index : ℕ) → DecidesAll code channel → index < class_count channel → DecidesAt code channel index
decides-from_all code channel index all lt = all index [] (omega (arith, length-classes_of channel))

pub first_failing-one : (code : Code ℕ) (channel : ChannelNumbers) (a b : Option ℕ) → MatchOption a (DecidesAll code channel) (IsFirstFailing code channel) → MatchOption b (DecidesAll code channel) (IsFirstFailing code channel) → a ≡ b
first_failing-one code channel None None x y = refl
first_failing-one code channel None (Some j) x y = absurd (y.fails (decides-from_all code channel j x y.in_range))
first_failing-one code channel (Some i) None x y = absurd (x.fails (decides-from_all code channel i y x.in_range))
first_failing-one code channel (Some i) (Some j) x y =
    elim (cases_order i j) [
      | inl same ↦ ap (λ (k : ℕ). Some k) same
      | inr apart ↦ elim apart [ inl less ↦ absurd (x.fails (y.earlier i less)) | inr more ↦ absurd (y.fails (x.earlier j more)) ]
    ]

parts-told : (code : Code ℕ) (channel : ChannelNumbers) (parts : ℕ) (found : Option ℕ) → 0 < parts → DecidesAt code channel 0
    → FirstBehind code channel (0 * class_count channel / parts) (parts * class_count channel / parts) found → MatchOption found (DecidesAll code channel) (IsFirstFailing code channel)
parts-told code channel parts found some burst told =
    let nothing : 0 * class_count channel ≡ parts * 0 = omega arith in
    let start : 0 * class_count channel / parts ≡ 0 = ap (λ (k : ℕ). k / parts) nothing ∙ mul-div_cancel_left 0 some in
    first-of_all code channel (0 * class_count channel / parts) (parts * class_count channel / parts) found start (mul-div_cancel_left (class_count channel) some) (told burst)

-- Where class 0 doesn't decide, it is the first.
pub all-told : (code : Code ℕ) (channel : ChannelNumbers) (parts : ℕ) (burst : Bool) (found first : Option ℕ) → 0 < parts → IsTrue burst ↔ DecidesAt code channel 0
    → FirstBehind code channel (0 * class_count channel / parts) (parts * class_count channel / parts) found → first ≡ cond burst found (Some 0) → MatchOption first (DecidesAll code channel) (IsFirstFailing code channel)
all-told code channel parts true found first some is told e =
    subst (λ (o : Option ℕ). MatchOption o (DecidesAll code channel) (IsFirstFailing code channel)) (sym e) (parts-told code channel parts found some (is.0 refl) told)
all-told code channel parts false found first some is told e =
    subst (λ (o : Option ℕ). MatchOption o (DecidesAll code channel) (IsFirstFailing code channel)) (sym e)
    (record { in_range = omega arith; fails = λ decided. false≢true (is.1 decided); earlier = λ i lt. absurd (omega arith) })

-- a later part begins no earlier
pub start-mono : (a b count parts : ℕ) → 0 < parts → a ≤ b → a * count / parts ≤ b * count / parts
start-mono a b count parts some le =
    le-div (a * count / parts) (b * count) parts some (omega (arith, div-mul-le_self (a * count) parts, mul-le a count b count le (omega arith)))

-- what decides elements of GF(256) decides bytes
pub bytes-told : {E : Type 0} (code : Code ℕ) (class : List Bool) (r : Result Bool E) → IsSet class 0 → IfOk r (λ decided. IsTrue decided ↔ IsDecidedOver IsByte 0 bit_xor gf256_product code class) → IfOk r (λ decided. IsTrue decided ↔ IsDecided 0 gf256_product code class)
bytes-told code class (Err e) set told = told
bytes-told code class (Ok decided) set told =
    let same = IsDecidedOver-iff_bytes gf256_product code class (IsSet-in_range class 0 set) in
    (λ is. same.0 (told.0 is), λ is. told.1 (same.1 is))
