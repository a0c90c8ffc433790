-- A list of flags with so many set, by its index: flag after flag.
use Rattle.std.proofs.Common.{◌≡◌, ℕ, zero as none, suc, ◌+◌, ◌-◌, ◌*◌, ◌/◌, ◌<◌, ◌≤◌, Bool, true, false, nat_lt, List, [], ◌∷◌, ◌++◌, length, get_or, map, take, drop, set, replicate, refl, sym, ap, ap₂, ◌∙◌, arith, inl, inr}
use Rattle.std.proofs.lemmas.List.{append_assoc, append-nil, length-append, length-map, get_or-map, get_or_append_left, get_or-append_right, get_or-replicate, length-replicate, ext_get_or, drop_all, take_all, take_more_set}
use Rattle.std.proofs.lemmas.Bool.{cases_lt, lt-ltb, le-ltb}
use borrow.Rule.Slice.PartMut.{put_mid}
use Rattle.sc_channel.specs.Channel.{ChannelNumbers}
use Rattle.sc_channel.specs.Classes.{choose, flags_with, classes_of, class_count, SetsFirst}
use Rattle.sc_channel.proofs.ChooseSteps.{ways_with_first, ways_with_first-is, choose-within}

pub length-flags_with : (places n : ℕ) → length (flags_with places n) ≡ choose places n
length-flags_with none none = refl
length-flags_with none (suc n) = refl
length-flags_with (suc places) none = length-map (flags_with places none) (λ flags. false ∷ flags) ∙ length-flags_with places none
length-flags_with (suc places) (suc n) =
    length-append (map (λ flags. true ∷ flags) (flags_with places n)) (map (λ flags. false ∷ flags) (flags_with places (suc n)))
    ∙ ap₂ (λ (a b : ℕ). a + b) (length-map (flags_with places n) (λ flags. true ∷ flags) ∙ length-flags_with places n) (length-map (flags_with places (suc n)) (λ flags. false ∷ flags) ∙ length-flags_with places (suc n))

-- list `index` of the lists for so many places of which n are set
abbrev pub flags_at : ℕ → ℕ → ℕ → List Bool
flags_at places n index = get_or (flags_with places n) index []

-- the first ones have their first flag set
flags_at-set : (places n index : ℕ) → index < ways_with_first places n → flags_at (suc places) n index ≡ true ∷ flags_at places (n - 1) index
flags_at-set places none index lt = absurd (omega arith)
flags_at-set places (suc n) index lt =
    let same : suc n - 1 ≡ n = omega arith in
    let within : index < length (flags_with places n) = omega (arith, length-flags_with places n) in
    let long = length-map (flags_with places n) (λ flags. true ∷ flags) in
    get_or_append_left (map (λ flags. true ∷ flags) (flags_with places n)) (map (λ flags. false ∷ flags) (flags_with places (suc n))) [] index (omega arith)
    ∙ get_or-map (λ flags. true ∷ flags) (flags_with places n) index [] [] within
    ∙ ap (λ (m : ℕ). true ∷ flags_at places m index) (sym same)

-- and the others have it clear
flags_at-clear : (places n index : ℕ) → ways_with_first places n ≤ index → index < choose (suc places) n → flags_at (suc places) n index ≡ false ∷ flags_at places n (index - ways_with_first places n)
flags_at-clear places none index past lt =
    let same : index - 0 ≡ index = omega arith in
    get_or-map (λ flags. false ∷ flags) (flags_with places none) index [] [] (omega (arith, length-flags_with places none))
    ∙ ap (λ (i : ℕ). false ∷ flags_at places none i) (sym same)
flags_at-clear places (suc n) index past lt =
    let long : length (map (λ flags. true ∷ flags) (flags_with places n)) ≡ choose places n = length-map (flags_with places n) (λ flags. true ∷ flags) ∙ length-flags_with places n in
    get_or-append_right (map (λ flags. true ∷ flags) (flags_with places n)) (map (λ flags. false ∷ flags) (flags_with places (suc n))) (choose places n) index [] long past
    ∙ get_or-map (λ flags. false ∷ flags) (flags_with places (suc n)) (index - choose places n) [] [] (omega (arith, length-flags_with places (suc n)))

-- how many have the first flag clear
ways_clear : (places n : ℕ) → choose (suc places) n ≡ ways_with_first places n + choose places n
ways_clear places none = refl
ways_clear places (suc n) = refl

-- how many set it and go on with one flag fewer
ways_set : (places n index : ℕ) → index < ways_with_first places n → ways_with_first places n ≡ choose places (n - 1)
ways_set places none index lt = absurd (omega arith)
ways_set places (suc n) index lt = let same : n ≡ suc n - 1 = omega arith in ap (λ (m : ℕ). choose places m) same

-- The first i flags of list `index` are written, and the rest is list `before` of the lists for the places that are left with
-- `left` flags to set, of which there are `ways`.
pub record IsWritten (places n index : ℕ) (flags : List Bool) (i left ways before : ℕ) : Type 0 where
  pub list : take i flags ++ flags_at (places - i) left before ≡ flags_at places n index
  pub count : ways ≡ choose (places - i) left
  pub in_range : before < ways

pub IsWritten-start : (places n index ways : ℕ) (flags : List Bool) → ways ≡ choose places n → index < ways → IsWritten places n index flags 0 n ways index
IsWritten-start places n index ways flags count lt =
    let all : places - 0 ≡ places = omega arith in
    record { list = ap (λ (k : ℕ). flags_at k n index) all; count = count ∙ ap (λ (k : ℕ). choose k n) (sym all); in_range = lt }

-- how many of them have the next flag set
pub first_ways : (places n index : ℕ) (flags : List Bool) (i left ways before : ℕ) → i < places → IsWritten places n index flags i left ways before → ways * left / (places - i) ≡ ways_with_first (places - (i + 1)) left
first_ways places n index flags i left ways before lt written =
    let more : places - i ≡ suc (places - (i + 1)) = omega arith in
    let count : ways ≡ choose (suc (places - (i + 1))) left = written.count ∙ ap (λ (k : ℕ). choose k left) more in
    rw (more, count) (ways_with_first-is (places - (i + 1)) left)

pub first-within : (places n index : ℕ) (flags : List Bool) (i left ways before : ℕ) → i < places → IsWritten places n index flags i left ways before → ways * left / (places - i) ≤ ways
first-within places n index flags i left ways before lt written =
    let more : places - i ≡ suc (places - (i + 1)) = omega arith in
    let count : ways ≡ choose (suc (places - (i + 1))) left = written.count ∙ ap (λ (k : ℕ). choose k left) more in
    omega (arith, first_ways places n index flags i left ways before lt written, ways_clear (places - (i + 1)) left)

-- no more flags are to be set than there are places
pub left-within : (places n index : ℕ) (flags : List Bool) (i left ways before : ℕ) → IsWritten places n index flags i left ways before → left ≤ places - i
left-within places n index flags i left ways before written =
    choose-within (places - i) left (omega (arith, written.count, written.in_range))

list-next : (places n index : ℕ) (flags : List Bool) (i left before : ℕ) (flag : Bool) (left' before' : ℕ) → i < length flags
    → take i flags ++ flags_at (places - i) left before ≡ flags_at places n index
    → flags_at (places - i) left before ≡ flag ∷ flags_at (places - (i + 1)) left' before'
    → take (i + 1) (set flags i flag) ++ flags_at (places - (i + 1)) left' before' ≡ flags_at places n index
list-next places n index flags i left before flag left' before' within list next =
    let rest = flags_at (places - (i + 1)) left' before' in
    ap (λ (xs : List Bool). xs ++ rest) (take_more_set flags i flag within)
    ∙ append_assoc (take i flags) (flag ∷ []) rest
    ∙ ap (λ (xs : List Bool). take i flags ++ xs) (sym next)
    ∙ list

pub IsWritten-set : (places n index : ℕ) (flags : List Bool) (i left ways before : ℕ) → i < places → i < length flags → IsWritten places n index flags i left ways before
    → before < ways * left / (places - i) → IsWritten places n index (set flags i true) (i + 1) (left - 1) (ways * left / (places - i)) before
IsWritten-set places n index flags i left ways before lt within written below =
    let more : places - i ≡ suc (places - (i + 1)) = omega arith in
    let first = first_ways places n index flags i left ways before lt written in
    let low : before < ways_with_first (places - (i + 1)) left = omega arith in
    record {
      list = list-next places n index flags i left before true (left - 1) before within written.list
          (ap (λ (k : ℕ). flags_at k left before) more ∙ flags_at-set (places - (i + 1)) left before low);
      count = first ∙ ways_set (places - (i + 1)) left before low;
      in_range = below;
    }

pub IsWritten-clear : (places n index : ℕ) (flags : List Bool) (i left ways before : ℕ) → i < places → i < length flags → IsWritten places n index flags i left ways before
    → ways * left / (places - i) ≤ before → IsWritten places n index (set flags i false) (i + 1) left (ways - ways * left / (places - i)) (before - ways * left / (places - i))
IsWritten-clear places n index flags i left ways before lt within written past =
    let more : places - i ≡ suc (places - (i + 1)) = omega arith in
    let first = first_ways places n index flags i left ways before lt written in
    let count : ways ≡ choose (suc (places - (i + 1))) left = written.count ∙ ap (λ (k : ℕ). choose k left) more in
    let split = ways_clear (places - (i + 1)) left in
    let after : before - ways_with_first (places - (i + 1)) left ≡ before - ways * left / (places - i) = ap (λ (k : ℕ). before - k) (sym first) in
    record {
      list = list-next places n index flags i left before false left (before - ways * left / (places - i)) within written.list
          (ap (λ (k : ℕ). flags_at k left before) more
          ∙ flags_at-clear (places - (i + 1)) left before (omega arith) (omega (arith, written.in_range))
          ∙ ap (λ (k : ℕ). false ∷ flags_at (places - (i + 1)) left k) after);
      count = omega arith;
      in_range = omega (arith, written.in_range);
    }

-- no place is left
flags_at-none : (n index : ℕ) → flags_at 0 n index ≡ []
flags_at-none none none = refl
flags_at-none none (suc index) = refl
flags_at-none (suc n) index = refl

pub IsWritten-end : (places n index : ℕ) (flags : List Bool) (i left ways before : ℕ) → places ≤ i → length flags ≤ i → IsWritten places n index flags i left ways before → flags ≡ flags_at places n index
IsWritten-end places n index flags i left ways before all long written =
    let over : places - i ≡ 0 = omega arith in
    sym (append-nil flags)
    ∙ ap (λ (xs : List Bool). xs ++ []) (sym (take_all i flags long))
    ∙ ap (λ (xs : List Bool). take i flags ++ xs) (sym (flags_at-none left before) ∙ ap (λ (k : ℕ). flags_at k left before) (sym over))
    ∙ written.list

-- the first b flags are set and the others are clear
pub burst-written : (flags old : List Bool) (b i : ℕ) → length flags ≡ length old → length old ≤ i → b ≤ length old → ((k : ℕ) → k < i → get_or flags k false ≡ nat_lt k b)
    → flags ≡ replicate b true ++ replicate (length old - b) false
burst-written flags old b i same end within written =
    let ones = replicate b true in
    let zeros = replicate (length old - b) false in
    let long : length flags ≡ length (ones ++ zeros) = omega (arith, same, length-append ones zeros, length-replicate b true, length-replicate (length old - b) false) in
    ext_get_or false flags (ones ++ zeros) long (λ k lt.
    written k (omega arith)
    ∙ elim (cases_lt k b) [
      | inl below ↦
          lt-ltb k b below ∙ sym (get_or_append_left ones zeros false k (omega (arith, length-replicate b true)) ∙ get_or-replicate b k true false below)
      | inr past ↦
          le-ltb k b past
          ∙ sym (get_or-append_right ones zeros b k false (length-replicate b true) past ∙ get_or-replicate (length old - b) (k - b) false false (omega arith))
    ])

-- a class after the first: flag 0, and then a list of flags
pub class-written : (channel : ChannelNumbers) (n index places : ℕ) (flags new : List Bool) → length flags ≡ channel.t + 1 → 0 < index → index < class_count channel → n ≡ channel.n → places ≡ channel.t → length new ≡ places
    → new ≡ flags_at places (n - 1) (index - 1) → put_mid 1 (length (set flags 0 true) - 1) (set flags 0 true) new ≡ get_or (classes_of channel) index []
class-written channel n none places flags new long some in_range same_n same_t size e = absurd (omega arith)
class-written channel n (suc index) places [] new long some in_range same_n same_t size e = absurd (omega arith)
class-written channel n (suc index) places (flag ∷ flags) new long some in_range same_n same_t size e =
    let others = flags_with channel.t (channel.n - 1) in
    let within : index < length others = omega (arith, length-flags_with channel.t (channel.n - 1)) in
    let k : suc (length flags) - 1 ≡ length flags = omega arith in
    let rest : drop (length (true ∷ flags) - 1) flags ≡ [] = drop_all (length (true ∷ flags) - 1) flags (omega arith) in
    let same : suc index - 1 ≡ index = omega arith in
    let listed : new ≡ get_or others index [] = rw (same_t, same_n, same) at e in
    ap (λ (xs : List Bool). true ∷ (new ++ xs)) rest
    ∙ ap (λ (xs : List Bool). true ∷ xs) (append-nil new ∙ listed)
    ∙ sym (get_or-map (λ flags. true ∷ flags) others index [] [] within)

-- ---- the lists are in lexicographic order

before-cons : (flag : Bool) (a b : List Bool) → SetsFirst a b → SetsFirst (flag ∷ a) (flag ∷ b)
before-cons flag a b h =
    record {
      place = suc h.place;
      same = same_cons h.same;
      set_in_a = h.set_in_a;
      clear_in_b = h.clear_in_b;
    }
  where
    same_cons : {place : ℕ} → ((i : ℕ) → i < place → get_or a i false ≡ get_or b i false) → (i : ℕ) → i < suc place → get_or (flag ∷ a) i false ≡ get_or (flag ∷ b) i false
    same_cons same none lt = refl
    same_cons same (suc i) lt = same i (omega arith)

before_at_once : (a b : List Bool) → SetsFirst (true ∷ a) (false ∷ b)
before_at_once a b = record { place = 0; same = λ i lt. absurd (omega arith); set_in_a = refl; clear_in_b = refl }

before_of : (a b c d : List Bool) → a ≡ c → b ≡ d → SetsFirst c d → SetsFirst a b
before_of a b c d e f h = rw (e, f) h

pub flags_at-before : (places n i j : ℕ) → i < j → j < choose places n → SetsFirst (flags_at places n i) (flags_at places n j)
flags_at-before none none i j lt within = absurd (omega arith)
flags_at-before none (suc n) i j lt within = absurd (omega arith)
flags_at-before (suc places) n i j lt within =
    let first = ways_with_first places n in
    elim (cases_lt j first) [
      | inl below ↦
          let low : i < first = omega arith in
          before_of _ _ _ _ (flags_at-set places n i low) (flags_at-set places n j below)
          (before-cons true _ _ (flags_at-before places (n - 1) i j lt (omega (arith, ways_set places n j below))))
      | inr past ↦ elim (cases_lt i first) [
        | inl low ↦ before_of _ _ _ _ (flags_at-set places n i low) (flags_at-clear places n j past within) (before_at_once _ _)
        | inr high ↦
            let split = ways_clear places n in
            before_of _ _ _ _ (flags_at-clear places n i high (omega arith)) (flags_at-clear places n j past within)
            (before-cons false _ _ (flags_at-before places n (i - first) (j - first) (omega arith) (omega arith)))
      ]
    ]

-- the class of an index after the first
class_at-spread : (channel : ChannelNumbers) (index : ℕ) → index < choose channel.t (channel.n - 1) → get_or (classes_of channel) (suc index) [] ≡ true ∷ flags_at channel.t (channel.n - 1) index
class_at-spread channel index lt =
    get_or-map (λ flags. true ∷ flags) (flags_with channel.t (channel.n - 1)) index [] [] (omega (arith, length-flags_with channel.t (channel.n - 1)))

pub classes-before : (channel : ChannelNumbers) (i j : ℕ) → 0 < i → i < j → j < class_count channel → SetsFirst (get_or (classes_of channel) i []) (get_or (classes_of channel) j [])
classes-before channel none j some lt within = absurd (omega arith)
classes-before channel (suc i) none some lt within = absurd (omega arith)
classes-before channel (suc i) (suc j) some lt within =
    before_of _ _ _ _ (class_at-spread channel i (omega arith)) (class_at-spread channel j (omega arith))
    (before-cons true _ _ (flags_at-before channel.t (channel.n - 1) i j (omega arith) (omega arith)))
