-- The classes that begin with the same flags: those that go on with a lost slot, and those that go on with a kept one.
use Rattle.std.proofs.Common.{◌≡◌, ℕ, zero as none, suc, ◌+◌, ◌-◌, ◌*◌, ◌/◌, ◌<◌, ◌≤◌, Bool, true, false, List, [], ◌∷◌, ◌++◌, length, get_or, map, replicate, take, set, Option, Some, None, min, max, Result, Ok, Err, IfOk, IsTrue, ◌↔◌, refl, sym, ap, ap₂, ◌∙◌, subst, arith, inl, inr}
use Rattle.std.proofs.lemmas.Bool.{cases_lt, false≢true}
use Rattle.std.proofs.lemmas.List.{append_assoc, append-nil, take_all, take_more, get_or-map, get_or_default, get_or_append_left, take-set, length-take-le, length-append, length-replicate, get_or-replicate, get_or-append_right}
use Rattle.std.proofs.Math.Nat.{zero-div}
use Rattle.std.specs.Option.{is_some}
use Rattle.sc_field.specs.Gf256.{gf256_product}
use Rattle.sc_channel.specs.Channel.{ChannelNumbers}
use Rattle.sc_channel.specs.Flags.{IsSet}
use Rattle.sc_channel.specs.Classes.{choose, flags_with, class_count, burst_class}
use Rattle.sc_channel.proofs.ChooseSteps.{ways_with_first-is}
use Rattle.sc_channel.proofs.OrderSteps.{flags_at, length-flags_with, IsWritten-start, IsWritten-set, IsWritten-clear, first-within}
use Rattle.sc_channel.proofs.SetCountSteps.{IsSet-in_range}
use Rattle.sc_code.specs.Code.{Code}
use Rattle.sc_code.specs.Determined.{IsKept, IsDecided}
use Rattle.sc_code.proofs.MeetsLaws.{DecidesColumns-from_decided, IsKept-in_range}
use Rattle.sc_code.proofs.ElementLaws.{decided_from_DecidesColumns}
use Rattle.sc_check.specs.Failing.{class_at, DecidesAt, IsFirstIn, FirstIn}
use Rattle.sc_check.specs.Walk.{IsFrontOf, IsRoom}
use Rattle.std.specs.Prelude.{All}
use Rattle.std.proofs.lemmas.List.Elements.{All-append}
use Rattle.std.specs.List.{range_with_len}
use Rattle.std.proofs.lemmas.Nat.{div-mul-add, mod-mul-add, mul-add-lt}
use Rattle.std.proofs.lemmas.List.FromFn.{get_or-map-range_with_len}
use Rattle.sc_matrix.specs.Module.{IsByte}
use Rattle.sc_matrix.specs.Matrix.{Matrix, IsMatrix, entry, row, row_count}
use Rattle.sc_code.specs.Code.{IsCode}
use Rattle.sc_check.specs.Span.{image, unit_stream, unit_image, IsSpan, IsCleared, AreUnitImages}
use Rattle.sc_check.proofs.SpanSteps.{map_range-same, IsSpan-lost, IsSpan-kept, decides-span}

-- ---- the lists for m places of which n are set
-- how many of them have the first flag set
pub first_set : (m n ways : ℕ) → 0 < m → ways ≡ choose m n → 0 < ways → ways * n / m ≤ ways
first_set m n ways some count has =
    let all : m - 0 ≡ m = omega arith in
    subst (λ (d : ℕ). ways * n / d ≤ ways) all (first-within m n 0 [] 0 n ways 0 some (IsWritten-start m n 0 ways [] count has))

at_set : (m n ways before : ℕ) → 0 < m → ways ≡ choose m n → before < ways → before < ways * n / m
    → (flags_at m n before ≡ true ∷ flags_at (m - 1) (n - 1) before) × (ways * n / m ≡ choose (m - 1) (n - 1))
at_set m n ways before some count lt low =
    let all : m - 0 ≡ m = omega arith in
    let low' : before < ways * n / (m - 0) = subst (λ (d : ℕ). before < ways * n / d) (sym all) low in
    let step = IsWritten-set m n before (true ∷ []) 0 n ways before some (omega arith) (IsWritten-start m n before ways (true ∷ []) count lt) low' in
    (sym step.list, ap (λ (d : ℕ). ways * n / d) (sym all) ∙ step.count)

at_clear : (m n ways before : ℕ) → 0 < m → ways ≡ choose m n → before < ways → ways * n / m ≤ before
    → (flags_at m n before ≡ false ∷ flags_at (m - 1) n (before - ways * n / m)) × (ways - ways * n / m ≡ choose (m - 1) n)
at_clear m n ways before some count lt past =
    let all : m - 0 ≡ m = omega arith in
    let past' : ways * n / (m - 0) ≤ before = subst (λ (d : ℕ). ways * n / d ≤ before) (sym all) past in
    let step = IsWritten-clear m n before (true ∷ []) 0 n ways before some (omega arith) (IsWritten-start m n before ways (true ∷ []) count lt) past' in
    (sym step.list ∙ ap (λ (d : ℕ). false ∷ flags_at (m - 1) n (before - ways * n / d)) all, ap (λ (d : ℕ). ways - ways * n / d) (sym all) ∙ step.count)

-- ---- fronts
pub IsFrontOf-same : (channel : ChannelNumbers) (flags more : List Bool) (done left first ways : ℕ) → take done more ≡ take done flags → IsFrontOf channel flags done left first ways → IsFrontOf channel more done left first ways
IsFrontOf-same channel flags more done left first ways same front =
    record {
      first_lost = subst (λ (xs : List Bool). IsSet xs 0) (sym same) front.first_lost;
      within = front.within;
      count = front.count;
      in_range = front.in_range;
      classes = λ i lt. front.classes i lt ∙ ap (λ (xs : List Bool). xs ++ flags_at (channel.t + 1 - done) left i) (sym same);
    }

set_more : (flags : List Bool) (done : ℕ) → done < length flags → IsSet (take done flags) 0 → IsSet (take (done + 1) flags) 0
set_more flags done lt is =
    let some : 0 < length (take done flags) = IsSet-in_range (take done flags) 0 is in
    ap (λ (xs : List Bool). get_or xs 0 false) (take_more flags done false lt) ∙ get_or_append_left (take done flags) (get_or flags done false ∷ []) false 0 some ∙ is

-- the classes of a front with one flag more
go_on : (channel : ChannelNumbers) (flags : List Bool) (done m left i index : ℕ) (flag : Bool) (rest : List Bool) → done < length flags → get_or flags done false ≡ flag
    → class_at channel index ≡ take done flags ++ flags_at m left i → flags_at m left i ≡ flag ∷ rest → class_at channel index ≡ take (done + 1) flags ++ rest
go_on channel flags done m left i index flag rest lt is class next =
    class
    ∙ ap (λ (xs : List Bool). take done flags ++ xs) next
    ∙ sym (append_assoc (take done flags) (flag ∷ []) rest)
    ∙ ap (λ (f : Bool). (take done flags ++ f ∷ []) ++ rest) (sym is)
    ∙ ap (λ (xs : List Bool). xs ++ rest) (sym (take_more flags done false lt))

pub IsFrontOf-lost : (channel : ChannelNumbers) (flags : List Bool) (done left first ways places middle : ℕ) → length flags ≡ channel.t + 1 → places ≡ channel.t + 1 - done → done < length flags → get_or flags done false ≡ true
    → middle ≡ first + ways * left / places → first < middle → IsFrontOf channel flags done left first ways → IsFrontOf channel flags (done + 1) (left - 1) first (middle - first)
IsFrontOf-lost channel flags done left first ways places middle long e lt lost mid some front =
    let rest : places - 1 ≡ channel.t + 1 - (done + 1) = omega arith in
    let count : ways ≡ choose places left = front.count ∙ ap (λ (p : ℕ). choose p left) (sym e) in
    let has : 0 < ways = positive ways left places (omega arith) in
    let most : ways * left / places ≤ ways = first_set places left ways (omega arith) count has in
    let here = at_set places left ways 0 (omega arith) count has (omega arith) in
    record {
      first_lost = set_more flags done lt front.first_lost;
      within = omega arith;
      count = (omega arith) ∙ here.1 ∙ ap (λ (p : ℕ). choose p (left - 1)) rest;
      in_range = omega (arith, front.in_range);
      classes = λ i low.
          let next = at_set places left ways i (omega arith) count (omega arith) (omega arith) in
          go_on channel flags done places left i (first + i) true (flags_at (channel.t + 1 - (done + 1)) (left - 1) i) lt lost
          (front.classes i (omega arith) ∙ ap (λ (p : ℕ). take done flags ++ flags_at p left i) (sym e))
          (next.0 ∙ ap (λ (p : ℕ). true ∷ flags_at p (left - 1) i) rest);
    }
  where
    positive : (ways left places : ℕ) → 0 < ways * left / places → 0 < ways
    positive none left places h =
        let nothing : 0 * left ≡ 0 = omega arith in
        absurd (omega (arith, ap (λ (k : ℕ). k / places) nothing, zero-div places, h))
    positive (suc ways) left places h = omega arith

pub IsFrontOf-kept : (channel : ChannelNumbers) (flags : List Bool) (done left first ways places middle : ℕ) → length flags ≡ channel.t + 1 → places ≡ channel.t + 1 - done → done < length flags → get_or flags done true ≡ false
    → middle ≡ first + ways * left / places → middle ≤ first + ways → IsFrontOf channel flags done left first ways → IsFrontOf channel flags (done + 1) left middle (ways - (middle - first))
IsFrontOf-kept channel flags done left first ways places middle long e lt kept mid within front =
    let rest : places - 1 ≡ channel.t + 1 - (done + 1) = omega arith in
    let count : ways ≡ choose places left = front.count ∙ ap (λ (p : ℕ). choose p left) (sym e) in
    let others = count_clear places left ways (omega arith) count in
    record {
      first_lost = set_more flags done lt front.first_lost;
      within = omega arith;
      count = (omega arith) ∙ others ∙ ap (λ (p : ℕ). choose p left) rest;
      in_range = omega (arith, front.in_range);
      classes = λ i low.
          let next = at_clear places left ways (ways * left / places + i) (omega arith) count (omega arith) (omega arith) in
          let behind : ways * left / places + i - ways * left / places ≡ i = omega arith in
          let at : first + (ways * left / places + i) ≡ middle + i = omega arith in
          go_on channel flags done places left (ways * left / places + i) (middle + i) false (flags_at (channel.t + 1 - (done + 1)) left i) lt (other_default flags done lt kept)
          (ap (class_at channel) (sym at) ∙ front.classes (ways * left / places + i) (omega arith) ∙ ap (λ (p : ℕ). take done flags ++ flags_at p left (ways * left / places + i)) (sym e))
          (next.0 ∙ ap (λ (j : ℕ). false ∷ flags_at (places - 1) left j) behind ∙ ap (λ (p : ℕ). false ∷ flags_at p left i) rest);
    }
  where
    count_clear : (m n ways : ℕ) → 0 < m → ways ≡ choose m n → ways - ways * n / m ≡ choose (m - 1) n
    count_clear none n ways some count = absurd (omega arith)
    count_clear (suc m) none ways some count =
        let with_first = ways_with_first-is m none in
        let one : suc m - 1 ≡ m = omega arith in
        let same : ways * none / suc m ≡ 0 = ap (λ (w : ℕ). w * none / suc m) count ∙ with_first in
        (omega (arith, same, count)) ∙ ap (λ (p : ℕ). choose p none) (sym one)
    count_clear (suc m) (suc n) ways some count =
        let with_first = ways_with_first-is m (suc n) in
        let one : suc m - 1 ≡ m = omega arith in
        let same : ways * suc n / suc m ≡ choose m n = ap (λ (w : ℕ). w * suc n / suc m) count ∙ with_first in
        (omega (arith, same, count)) ∙ ap (λ (p : ℕ). choose p (suc n)) (sym one)

    other_default : (flags : List Bool) (done : ℕ) → done < length flags → get_or flags done true ≡ false → get_or flags done false ≡ false
    other_default flags done lt is = get_or_default flags done false true lt ∙ is

-- the front of all classes behind the first
pub IsFrontOf-start : (channel : ChannelNumbers) (flags : List Bool) (left ways : ℕ) → length flags ≡ channel.t + 1 → IsSet flags 0 → left ≡ channel.n - 1 → ways ≡ class_count channel - 1 → IsFrontOf channel flags 1 left 1 ways
IsFrontOf-start channel [] left ways long set e count = absurd (omega (arith, IsSet-in_range [] 0 set))
IsFrontOf-start channel (flag ∷ flags) left ways long set e count =
    let places : channel.t + 1 - 1 ≡ channel.t = omega arith in
    let all : ways ≡ choose channel.t (channel.n - 1) = omega arith in
    let lists = flags_with channel.t (channel.n - 1) in
    record {
      first_lost = set;
      within = omega arith;
      count = all ∙ ap (λ (n : ℕ). choose channel.t n) (sym e) ∙ ap (λ (p : ℕ). choose p left) (sym places);
      in_range = omega arith;
      classes = λ i lt.
          let next : 1 + i ≡ suc i = omega arith in
          let P : List Bool = flag ∷ [] in
          ap (λ (k : ℕ). class_at channel k) next
          ∙ get_or-map (λ flags. true ∷ flags) lists i [] [] (omega (arith, length-flags_with channel.t (channel.n - 1)))
          ∙ ap (λ (f : Bool). f ∷ get_or lists i []) (sym set)
          ∙ ap (λ (n : ℕ). flag ∷ get_or (flags_with channel.t n) i []) (sym e)
          ∙ ap (λ (p : ℕ). flag ∷ get_or (flags_with p left) i []) (sym places);
    }

-- ---- what the first flags decide
-- Where the first flags of a class decide, so does the class: its parities up to there are of blocks up to there.
decided_longer : (code : Code ℕ) (flags rest : List Bool) → 0 < length flags → IsDecided 0 gf256_product code flags → IsDecided 0 gf256_product code (flags ++ rest)
decided_longer code flags rest some decided =
    decided_from_DecidesColumns 0 gf256_product code (flags ++ rest) (omega (arith, length-append flags rest)) (record {
      decides = λ f hf zeros. (DecidesColumns-from_decided 0 gf256_product code flags some decided).decides f hf (λ t kept. zeros t (longer t kept));
    })
  where
    longer : (t : ℕ) → IsKept flags t → IsKept (flags ++ rest) t
    longer t kept = get_or_append_left flags rest true t (IsKept-in_range flags t kept) ∙ kept

pub decides-front : (code : Code ℕ) (channel : ChannelNumbers) (flags : List Bool) (done left first ways from to : ℕ) → IsFrontOf channel flags done left first ways → first ≤ from → to ≤ first + ways
    → IsDecided 0 gf256_product code (take done flags) → (i : ℕ) → from ≤ i → i < to → DecidesAt code channel i
decides-front code channel flags done left first ways from to front low high decided i le lt =
    let at : first + (i - first) ≡ i = omega arith in
    let class : class_at channel i ≡ take done flags ++ flags_at (channel.t + 1 - done) left (i - first) = ap (class_at channel) (sym at) ∙ front.classes (i - first) (omega arith) in
    subst (IsDecided 0 gf256_product code) (sym class)
    (decided_longer code (take done flags) (flags_at (channel.t + 1 - done) left (i - first)) (IsSet-in_range (take done flags) 0 front.first_lost) decided)

-- ---- classes that lose slots of class 0 alone
clear_flags : (m : ℕ) → flags_with m 0 ≡ replicate m false ∷ []
clear_flags none = refl
clear_flags (suc m) = ap (map (λ (flags : List Bool). false ∷ flags)) (clear_flags m)

-- A kept slot of class 0 lies behind the burst.
kept-burst : (channel : ChannelNumbers) (k : ℕ) → channel.b ≤ channel.t → IsKept (burst_class channel) k → (channel.b ≤ k) × (k < channel.t + 1)
kept-burst channel k le kept =
    let ones : List Bool = replicate channel.b true in
    let rest : List Bool = replicate (channel.t + 1 - channel.b) false in
    let long : length (replicate channel.b true ++ replicate (channel.t + 1 - channel.b) false) ≡ channel.b + (channel.t + 1 - channel.b) =
    length-append ones rest ∙ ap₂ (λ (a b : ℕ). a + b) (length-replicate channel.b true) (length-replicate (channel.t + 1 - channel.b) false) in
    let within : k < channel.t + 1 = omega (arith, IsKept-in_range (burst_class channel) k kept, long) in
    elim (cases_lt k channel.b) [
      | inl below ↦
          absurd (false≢true (sym kept ∙ get_or_append_left ones rest true k (omega (arith, length-replicate channel.b true)) ∙ get_or-replicate channel.b k true true below))
      | inr past ↦ (past, within)
    ]

-- where no flag is left to be set, the one class behind `done` flags keeps all slots from there on
kept-behind : (flags : List Bool) (done m k : ℕ) → done ≤ length flags → done ≤ k → k < done + m → IsKept (take done flags ++ replicate m false) k
kept-behind flags done m k le low high =
    let here : length (take done flags) ≡ done = length-take-le done flags le in
    get_or-append_right (take done flags) (replicate m false) done k true here low ∙ get_or-replicate m (k - done) false true (omega arith)

-- More losses determine less: where class 0 is decided, so is a class all of whose lost slots class 0 loses.
decides_fewer : (code : Code ℕ) (more fewer : List Bool) → length fewer ≡ length more → ((k : ℕ) → IsKept more k → IsKept fewer k) → IsDecided 0 gf256_product code more → IsDecided 0 gf256_product code fewer
decides_fewer code more fewer same kept decided = λ xs stream long zeros. decided xs stream (long ∙ same) (λ i is. zeros i (kept i is))

pub decides-within_burst : (code : Code ℕ) (channel : ChannelNumbers) (flags : List Bool) (done left first ways from to : ℕ) → channel.b ≤ channel.t → length flags ≡ channel.t + 1 → IsFrontOf channel flags done left first ways
    → left ≡ 0 → done ≤ channel.b → first ≤ from → to ≤ first + ways → DecidesAt code channel 0 → (i : ℕ) → from ≤ i → i < to → DecidesAt code channel i
decides-within_burst code channel flags done left first ways from to ordered long front none_left within low high burst i le lt =
    let m : ℕ = channel.t + 1 - done in
    let at : first + 0 ≡ i = omega (arith, one_way) in
    let class : class_at channel i ≡ take done flags ++ replicate (channel.t + 1 - done) false =
    ap (class_at channel) (sym at) ∙ front.classes 0 (omega arith)
    ∙ ap (λ (n : ℕ). take done flags ++ get_or (flags_with (channel.t + 1 - done) n) 0 []) none_left
    ∙ ap (λ (lists : List (List Bool)). take done flags ++ get_or lists 0 []) (clear_flags (channel.t + 1 - done)) in
    let ones : List Bool = replicate channel.b true in
    let rest : List Bool = replicate (channel.t + 1 - channel.b) false in
    let long_burst : length (burst_class channel) ≡ channel.b + (channel.t + 1 - channel.b) =
    length-append ones rest ∙ ap₂ (λ (a b : ℕ). a + b) (length-replicate channel.b true) (length-replicate (channel.t + 1 - channel.b) false) in
    let long_class : length (take done flags ++ replicate (channel.t + 1 - done) false) ≡ done + (channel.t + 1 - done) =
    length-append (take done flags) (replicate (channel.t + 1 - done) false) ∙ ap₂ (λ (a b : ℕ). a + b) (length-take-le done flags (omega arith)) (length-replicate (channel.t + 1 - done) false) in
    subst (IsDecided 0 gf256_product code) (sym class)
    (decides_fewer code (burst_class channel) (take done flags ++ replicate (channel.t + 1 - done) false) (omega (arith, long_burst, long_class))
    (λ k kept. let behind = kept-burst channel k ordered kept in kept-behind flags done (channel.t + 1 - done) k (omega arith) (omega (arith, behind.0)) (omega (arith, behind.1)))
    burst)
  where
    one_way : ways ≡ 1
    one_way = front.count ∙ ap (choose (channel.t + 1 - done)) none_left

-- where no slot is to come, a front has one class: its flags
no_flags : (left i : ℕ) → flags_at 0 left i ≡ []
no_flags none none = refl
no_flags none (suc i) = refl
no_flags (suc left) i = refl

pub class-last : (channel : ChannelNumbers) (flags : List Bool) (done left first ways index : ℕ) → IsFrontOf channel flags done left first ways → length flags ≡ channel.t + 1 → done ≡ length flags → first ≤ index → index < first + ways
    → class_at channel index ≡ flags
class-last channel flags done left first ways index front long all low high =
    let at : first + (index - first) ≡ index = omega arith in
    let none_left : channel.t + 1 - done ≡ 0 = omega arith in
    ap (class_at channel) (sym at)
    ∙ front.classes (index - first) (omega arith)
    ∙ ap (λ (xs : List Bool). xs ++ flags_at (channel.t + 1 - done) left (index - first)) (take_all done flags (omega arith))
    ∙ ap (λ (m : ℕ). flags ++ flags_at m left (index - first)) none_left
    ∙ ap (λ (xs : List Bool). flags ++ xs) (no_flags left (index - first))
    ∙ append-nil flags

pub fails-last : (code : Code ℕ) (channel : ChannelNumbers) (flags : List Bool) (done left first ways from to : ℕ) → IsFrontOf channel flags done left first ways → length flags ≡ channel.t + 1 → done ≡ length flags
    → first ≤ from → to ≤ first + ways → from < to → (IsDecided 0 gf256_product code flags → ⊥) → IsFirstIn code channel from to from
fails-last code channel flags done left first ways from to front long all low high some fails =
    record {
      from_on = omega arith;
      below = some;
      fails = λ decided. fails (subst (IsDecided 0 gf256_product code) (class-last channel flags done left first ways from front long all low (omega arith)) decided);
      earlier = λ i le lt. absurd (omega arith);
    }

-- ---- the classes of a front: first those that lose the next slot
pub FirstIn-lost : (code : Code ℕ) (channel : ChannelNumbers) (from to middle index : ℕ) → IsFirstIn code channel from (min to middle) index → IsFirstIn code channel from to index
FirstIn-lost code channel from to middle index first =
    record { from_on = first.from_on; below = omega (arith, first.below); fails = first.fails; earlier = first.earlier }

pub FirstIn-kept : (code : Code ℕ) (channel : ChannelNumbers) (from to middle : ℕ) (found : Option ℕ) → ((i : ℕ) → from ≤ i → i < min to middle → DecidesAt code channel i)
    → FirstIn code channel (max from middle) to found → FirstIn code channel from to found
FirstIn-kept code channel from to middle None lost kept = λ i le lt.
    elim (cases_lt i middle) [ inl below ↦ lost i le (omega arith) | inr past ↦ kept i (omega arith) lt ]
FirstIn-kept code channel from to middle (Some index) lost kept =
    record {
      from_on = omega (arith, kept.from_on);
      below = kept.below;
      fails = kept.fails;
      earlier = λ i le lt. elim (cases_lt i middle) [ inl below ↦ lost i le (omega (arith, kept.below)) | inr past ↦ kept.earlier i (omega arith) lt ];
    }

pub lost_within : (m n ways : ℕ) → 0 < m → ways ≡ choose m n → ways * n / m ≤ ways
lost_within m n none some count =
    let nothing : 0 * n ≡ 0 = omega arith in
    omega (arith, ap (λ (k : ℕ). k / m) nothing, zero-div m)
lost_within m n (suc ways) some count = first_set m n (suc ways) some count (omega arith)

pub FirstIn-told : {E : Type 0} (code : Code ℕ) (channel : ChannelNumbers) (from to middle high low : ℕ) (lost : Option ℕ) (r : Result (Option ℕ) E) → high ≡ min to middle → low ≡ max from middle → false ≡ is_some lost
    → FirstIn code channel from high lost → IfOk r (FirstIn code channel low to) → IfOk r (FirstIn code channel from to)
FirstIn-told code channel from to middle high low lost (Err e) same behind not l k = k
FirstIn-told code channel from to middle high low (Some index) (Ok found) same behind not l k = absurd (false≢true not)
FirstIn-told code channel from to middle high low None (Ok found) same behind not l k =
    FirstIn-kept code channel from to middle found (λ i le lt. l i le (omega arith)) (subst (λ (n : ℕ). FirstIn code channel n to found) behind k)

-- ---- the flags that a front begins with stay
take_twice : (n : ℕ) (xs : List Bool) → take n (take (suc n) xs) ≡ take n xs
take_twice none xs = refl
take_twice (suc n) [] = refl
take_twice (suc n) (x ∷ xs) = ap (λ (ys : List Bool). x ∷ ys) (take_twice n xs)

pub kept_flags : (flags new : List Bool) (done next : ℕ) (flag : Bool) → next ≡ done + 1 → take next new ≡ take next (set flags done flag) → take done new ≡ take done flags
kept_flags flags new done next flag e same =
    let more : next ≡ suc done = omega arith in
    sym (take_twice done new)
    ∙ ap (λ (n : ℕ). take done (take n new)) (sym more)
    ∙ ap (take done) same
    ∙ ap (λ (n : ℕ). take done (take n (set flags done flag))) more
    ∙ take_twice done (set flags done flag)
    ∙ take-set flags done flag

-- ---- what is open at a front
pub IsSpan-next_lost : (code : Code ℕ) (slots : ℕ) (flags : List Bool) (done : ℕ) (old new images : Matrix ℕ) → IsCode IsByte code → length flags ≡ slots → IsMatrix IsByte new → done < length flags → get_or flags done false ≡ true → AreUnitImages code slots images
    → IsSpan code slots (take done flags) old → new.cols ≡ old.cols → new.rows ≡ old.rows ++ map (λ p. row images (done * code.k + p)) (range_with_len 0 code.k) → IsSpan code slots (take (done + 1) flags) new
IsSpan-next_lost code slots flags done old new images hc long hm lt lost units span cols rows =
    let here : length (take done flags) ≡ done = length-take-le done flags (omega arith) in
    let unit : (p : ℕ) → p < code.k → row images (done * code.k + p) ≡ image code slots (unit_stream (length (take done flags)) p) = λ p hp.
    ap (λ (rs : List (List ℕ)). get_or rs (done * code.k + p) []) units.rows
    ∙ get_or-map-range_with_len (unit_image code slots) 0 (slots * code.k) (done * code.k + p) (done * code.k + p) [] (omega (arith, mul-add-lt done code.k p slots (omega arith) hp)) (omega arith)
    ∙ ap₂ (λ (a b : ℕ). image code slots (unit_stream a b)) (div-mul-add done code.k p hp) (mod-mul-add done code.k p hp)
    ∙ ap (λ (s : ℕ). image code slots (unit_stream s p)) (sym here) in
    subst (λ (xs : List Bool). IsSpan code slots xs new) (ap (λ (f : Bool). take done flags ++ f ∷ []) (sym lost) ∙ sym (take_more flags done false lt))
    (IsSpan-lost code slots hc (take done flags) old new hm span cols (rows ∙ ap (λ (us : List (List ℕ)). old.rows ++ us) (map_range-same _ _ code.k unit)))

pub IsSpan-next_kept : (code : Code ℕ) (slots : ℕ) (flags : List Bool) (done : ℕ) (old new : Matrix ℕ) → IsCode IsByte code → length flags ≡ slots → IsMatrix IsByte new → done < length flags → get_or flags done true ≡ false → IsSpan code slots (take done flags) old
    → IsCleared old new (done * code.r) (done * code.r + code.r) → IsSpan code slots (take (done + 1) flags) new
IsSpan-next_kept code slots flags done old new hc long hm lt kept span cleared =
    let here : length (take done flags) ≡ done = length-take-le done flags (omega arith) in
    subst (λ (xs : List Bool). IsSpan code slots xs new) (ap (λ (f : Bool). take done flags ++ f ∷ []) (sym kept) ∙ sym (take_more flags done true lt))
    (IsSpan-kept code slots hc (take done flags) old new (omega arith) hm span (subst (λ (s : ℕ). IsCleared old new (s * code.r) (s * code.r + code.r)) (sym here) cleared))

pub known-span : (code : Code ℕ) (slots : ℕ) (flags : List Bool) (m : Matrix ℕ) (known : Bool) → IsCode IsByte code → IsMatrix IsByte m → 0 < length flags → IsSpan code slots flags m
    → (IsTrue known ↔ ((k c : ℕ) → k < row_count m → slots * code.r ≤ c → c < m.cols → entry 0 m k c ≡ 0)) → IsTrue known ↔ IsDecided 0 gf256_product code flags
known-span code slots flags m known hc hm some span told =
    let law = decides-span code slots hc flags m hm some span in (
      λ is. law.0 (λ k i h hi. told.0 is k (slots * code.r + i) h (omega arith) (omega (arith, span.cols))),
      λ decided.
          told.1 (λ k c h low high.
          let place : slots * code.r + (c - slots * code.r) ≡ c = omega arith in
          ap (λ (n : ℕ). entry 0 m k n) (sym place) ∙ law.1 decided k (c - slots * code.r) h (omega (arith, span.cols))),
    )

pub fails-known : (code : Code ℕ) (channel : ChannelNumbers) (flags : List Bool) (done left first ways from to : ℕ) (known : Bool) → IsFrontOf channel flags done left first ways → length flags ≡ channel.t + 1 → done ≡ length flags
    → first ≤ from → to ≤ first + ways → from < to → IsTrue known ↔ IsDecided 0 gf256_product code (take done flags) → known ≡ false → IsFirstIn code channel from to from
fails-known code channel flags done left first ways from to known front long all low high some told not =
    fails-last code channel flags done left first ways from to front long all low high some (λ decided.
    false≢true (sym not ∙ told.1 (subst (IsDecided 0 gf256_product code) (sym (take_all done flags (omega arith))) decided)))

-- ---- spare matrices: one more
pub IsRoom-more : (width n : ℕ) (spare more : List (Matrix ℕ)) (m : Matrix ℕ) → more ≡ spare ++ m ∷ [] → m.cols ≡ width → IsRoom width n spare → IsRoom width (n + 1) more
IsRoom-more width n spare more m e cols room =
    let long : length more ≡ length spare + 1 = ap length e ∙ length-append spare (m ∷ []) in
    record {
      enough = omega (arith, room.enough);
      widths = subst (All (λ (x : Matrix ℕ). x.cols ≡ width)) (sym e) (All-append (λ (x : Matrix ℕ). x.cols ≡ width) spare (m ∷ []) room.widths all_one);
    }
  where
    all_one : All (λ (x : Matrix ℕ). x.cols ≡ width) (m ∷ [])
    all_one none d lt = cols
    all_one (suc k) d lt = absurd (omega arith)
