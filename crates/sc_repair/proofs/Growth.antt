-- How what repairing owes goes on as more comes: texts, bad blocks, refusals and taken slots of a list and of more behind it.
use Rattle.std.proofs.Common.{◌≡◌, ℕ, zero as naught, suc, ◌+◌, ◌<◌, ◌≤◌, inl, inr, not, nat_lt, nat_le, Bool, true, false, cond, max, List, [], ◌∷◌, ◌++◌, length, take, map, position, Option, Some, None, option_map, if◌then◌else◌, refl, sym, ap, ap₂, ◌∙◌, arith}
use Rattle.std.specs.List.{position_or_len}
use Rattle.std.proofs.lemmas.Bool.{cases_lt, cond-true, cond-false, lt-ltb, le-ltb, le-leb, lt-leb}
use Rattle.std.proofs.lemmas.Option.{none-some}
use Rattle.std.proofs.lemmas.List.{append-nil, length-append, length_push, take_at, take-take, take-append-le, get_or-take, get_or_append_left, get_or_push, map-append}
use Rattle.std.proofs.lemmas.List.Concat.{flat_map-append}
use Rattle.std.proofs.lemmas.List.Quantifiers.{position-Some}
use Rattle.sc_rtpdump.specs.Record.{Record, empty_record}
use Rattle.sc_code.specs.FirstBytes.{first_there}
use Rattle.sc_code.specs.declared.code.CodeFile.{CodeFile}
use Rattle.sc_slots.specs.Slot.{Slot}
use Rattle.sc_slots.specs.Taken.{Taken, taken_slot, taken_from, one_past}
use Rattle.sc_slots.specs.Text.{written}
use Rattle.sc_repair.specs.declared.repair.RepairEnd.TheVariants.{BadBlock}
use Rattle.sc_repair.specs.Readings.{block_text}
use Rattle.sc_repair.specs.Repairing.{Refusal, first_of, slots_of, values_text, is_bad_value, bad_among, read_as, slots_in, taken_of, refusal, refusal_at, first_below, first_refused}

-- ---- the first place that passes

module _ {X : Type 0} (p : X → Bool) where
  place_by : (here : Bool) (n l : ℕ) → cond (nat_lt (cond (not here) (1 + n) 0) (suc l)) (Some (cond (not here) (1 + n) 0)) None ≡ cond here (Some 0) (option_map (λ i. suc i) (cond (nat_lt n l) (Some n) None))
  place_by true n l = cond-true (nat_lt 0 (suc l)) (Some 0) None (lt-ltb 0 (suc l) (omega arith))
  place_by false n l =
      let e : 1 + n ≡ suc n = omega arith in
      elim (cases_lt n l) [
        | inl within ↦
            cond-true (nat_lt (1 + n) (suc l)) (Some (1 + n)) None (lt-ltb (1 + n) (suc l) (omega arith)) ∙ ap Some e
            ∙ sym (ap (option_map (λ i. suc i)) (cond-true (nat_lt n l) (Some n) None (lt-ltb n l within)))
        | inr past ↦
            cond-false (nat_lt (1 + n) (suc l)) (Some (1 + n)) None (le-ltb (1 + n) (suc l) (omega arith))
            ∙ sym (ap (option_map (λ i. suc i)) (cond-false (nat_lt n l) (Some n) None (le-ltb n l past)))
      ]

  -- the first place of a list that is not empty
  pub position-cons : (x : X) (xs : List X) → position p (x ∷ xs) ≡ cond (p x) (Some 0) (option_map (λ i. suc i) (position p xs))
  position-cons x xs = place_by (p x) (position_or_len p xs) (length xs)

  shifted : (here : Bool) (o q : Option ℕ) (n : ℕ) → cond here (Some 0) (option_map (λ i. suc i) (first_there o (option_map (λ i. n + i) q))) ≡ first_there (cond here (Some 0) (option_map (λ i. suc i) o)) (option_map (λ i. suc n + i) q)
  shifted true o q n = refl
  shifted false (Some i) q n = refl
  shifted false None None n = refl
  shifted false None (Some i) n = ap Some (omega arith)

  unmoved : (q : Option ℕ) → q ≡ option_map (λ i. 0 + i) q
  unmoved None = refl
  unmoved (Some i) = ap Some (omega arith)

  -- the first place of two lists is that of the first, or else that of the second behind all of the first
  pub position-append : (xs ys : List X) → position p (xs ++ ys) ≡ first_there (position p xs) (option_map (λ i. length xs + i) (position p ys))
  position-append [] ys = unmoved (position p ys)
  position-append (x ∷ xs) ys =
      position-cons x (xs ++ ys) ∙ ap (λ o. cond (p x) (Some 0) (option_map (λ i. suc i) o)) (position-append xs ys)
      ∙ shifted (p x) (position p xs) (position p ys) (length xs)
      ∙ ap (λ o. first_there o (option_map (λ i. suc (length xs) + i) (position p ys))) (sym (position-cons x xs))

-- ---- what values write, and the first bad block among them

pub values_text-append : (a b : List (Option (List (List ℕ)))) → values_text (a ++ b) ≡ values_text a ++ values_text b
values_text-append a b = flat_map-append (written block_text) a b

take_past : {X : Type 0} (xs ys : List X) (n : ℕ) → take (length xs + n) (xs ++ ys) ≡ xs ++ take n ys
take_past [] ys n = let e : 0 + n ≡ n = omega arith in rw e refl
take_past (x ∷ xs) ys n = let e : suc (length xs) + n ≡ suc (length xs + n) = omega arith in rw e (ap (λ l. x ∷ l) (take_past xs ys n))

-- the bad block at this place of values that come behind others
abbrev pub bad_behind : List (Option (List (List ℕ))) → List (Option (List (List ℕ))) → ℕ → Refusal
bad_behind a b t = record { fault = BadBlock (length a + t); values = a ++ take t b }

bad_first : (a b : List (Option (List (List ℕ)))) (o q : Option ℕ) → position is_bad_value a ≡ o
    → option_map (λ t. let r : Refusal = record { fault = BadBlock t; values = take t (a ++ b) } in r) (first_there o (option_map (λ i. length a + i) q))
    ≡ first_of (option_map (λ t. record { fault = BadBlock t; values = take t a }) o) (option_map (bad_behind a b) q)
bad_first a b (Some t) q is =
    let within = (position-Some is_bad_value a t None is).0 in
    ap (λ l. let r : Refusal = record { fault = BadBlock t; values = l } in Some r) (take-append-le t a b (omega (arith, within)))
bad_first a b None None is = refl
bad_first a b None (Some t) is = ap (λ l. let r : Refusal = record { fault = BadBlock (length a + t); values = l } in Some r) (take_past a b t)

-- The first bad block among values and more behind them is that of the values, or else that of what comes behind, with its
-- place moved and the values in front.
pub bad_among-append : (a b : List (Option (List (List ℕ)))) → bad_among (a ++ b) ≡ first_of (bad_among a) (option_map (bad_behind a b) (position is_bad_value b))
bad_among-append a b =
    ap (option_map (λ t. let r : Refusal = record { fault = BadBlock t; values = take t (a ++ b) } in r)) (position-append is_bad_value a b)
    ∙ bad_first a b (position is_bad_value a) (position is_bad_value b) refl

pub bad_among-front : (a b : List (Option (List (List ℕ)))) (r : Refusal) → bad_among a ≡ Some r → bad_among (a ++ b) ≡ Some r
bad_among-front a b r is = bad_among-append a b ∙ ap (λ o. first_of o (option_map (bad_behind a b) (position is_bad_value b))) is

pub bad_among-behind : (a b : List (Option (List (List ℕ)))) → bad_among a ≡ None → bad_among (a ++ b) ≡ option_map (bad_behind a b) (position is_bad_value b)
bad_among-behind a b none = bad_among-append a b ∙ ap (λ o. first_of o (option_map (bad_behind a b) (position is_bad_value b))) none

none_by : {X Y : Type 0} (f : X → Y) (o : Option X) → option_map f o ≡ None → o ≡ None
none_by f None h = refl
none_by f (Some x) h = absurd (cc)

-- no block is bad exactly where no place has a bad value
pub bad_among-none : (a : List (Option (List (List ℕ)))) → bad_among a ≡ None → position is_bad_value a ≡ None
bad_among-none a none = none_by (λ t. let r : Refusal = record { fault = BadBlock t; values = take t a } in r) (position is_bad_value a) none

pub bad_among-lacks : (a : List (Option (List (List ℕ)))) → position is_bad_value a ≡ None → bad_among a ≡ None
bad_among-lacks a none = ap (option_map (λ t. let r : Refusal = record { fault = BadBlock t; values = take t a } in r)) none

one_place : (a : List (Option (List (List ℕ)))) (v : Option (List (List ℕ))) (here : Bool) → option_map (bad_behind a (v ∷ [])) (cond here (Some 0) None) ≡ (if here then Some (record { fault = BadBlock (length a); values = a }) else None)
one_place a v true = let n : length a + 0 ≡ length a = omega arith in rw (n, append-nil a) refl
one_place a v false = refl

-- one value more
pub bad_among-push : (a : List (Option (List (List ℕ)))) (v : Option (List (List ℕ))) → bad_among a ≡ None
    → bad_among (a ++ v ∷ []) ≡ (if is_bad_value v then Some (record { fault = BadBlock (length a); values = a }) else None)
bad_among-push a v none =
    bad_among-behind a (v ∷ []) none ∙ ap (option_map (bad_behind a (v ∷ []))) (position-cons is_bad_value v [])
    ∙ one_place a v (is_bad_value v)

-- ---- taken slots

module _ {A : Type 0} where
  taken_from-push : (least : ℕ) (slots : List (Taken A)) (slot : Taken A) → max least (one_past (taken_from least slots)) ≤ slot.number
      → taken_from least (slots ++ slot ∷ []) ≡ taken_from least slots ++ slot ∷ []
  taken_from-push least [] slot above = cond-true (nat_le least slot.number) (slot ∷ []) [] (le-leb least slot.number (omega arith))
  taken_from-push least (first ∷ slots) slot above =
      elim (cases_lt first.number least) [
        | inl lower ↦ (let off = lt-leb least first.number lower in rw off (taken_from-push least slots slot (rw off at above)))
        | inr fine ↦ (
            let on = le-leb least first.number fine in
            let h : max least (max (first.number + 1) (one_past (taken_from (first.number + 1) slots))) ≤ slot.number = rw on at above in
            rw on (ap (λ l. first ∷ l) (taken_from-push (first.number + 1) slots slot (omega arith))))
      ]

  taken_from-repeat : (least : ℕ) (slots : List (Taken A)) (slot : Taken A) → slot.number < max least (one_past (taken_from least slots))
      → taken_from least (slots ++ slot ∷ []) ≡ taken_from least slots
  taken_from-repeat least [] slot below = cond-false (nat_le least slot.number) (slot ∷ []) [] (lt-leb least slot.number (omega arith))
  taken_from-repeat least (first ∷ slots) slot below =
      elim (cases_lt first.number least) [
        | inl lower ↦ (let off = lt-leb least first.number lower in rw off (taken_from-repeat least slots slot (rw off at below)))
        | inr fine ↦ (
            let on = le-leb least first.number fine in
            let h : slot.number < max least (max (first.number + 1) (one_past (taken_from (first.number + 1) slots))) = rw on at below in
            rw on (ap (λ l. first ∷ l) (taken_from-repeat (first.number + 1) slots slot (omega arith))))
      ]

-- ---- refusals

first_of-none : (o : Option Refusal) → o ≡ first_of o None
first_of-none None = refl
first_of-none (Some r) = refl

first_of-assoc : (a b c : Option Refusal) → first_of (first_of a b) c ≡ first_of a (first_of b c)
first_of-assoc None b c = refl
first_of-assoc (Some r) b c = refl

module _ (file : CodeFile) where
  -- a slot behind others is taken where its number is beyond all of them, and repeats where it isn't
  pub taken_of-push : (slots : List Slot) (s : Slot) → one_past (taken_of file slots) ≤ s.number → taken_of file (slots ++ s ∷ []) ≡ taken_of file slots ++ taken_slot file.code s ∷ []
  taken_of-push slots s above =
      ap (taken_from 0) (map-append (taken_slot file.code) slots (s ∷ []))
      ∙ taken_from-push 0 (map (taken_slot file.code) slots) (taken_slot file.code s) (omega arith)

  pub taken_of-repeat : (slots : List Slot) (s : Slot) → s.number < one_past (taken_of file slots) → taken_of file (slots ++ s ∷ []) ≡ taken_of file slots
  taken_of-repeat slots s below =
      ap (taken_from 0) (map-append (taken_slot file.code) slots (s ∷ []))
      ∙ taken_from-repeat 0 (map (taken_slot file.code) slots) (taken_slot file.code s) (omega arith)

  pub slots_in-append : (records more : List Record) → slots_in file (records ++ more) ≡ slots_in file records ++ slots_in file more
  slots_in-append records more = flat_map-append (λ e. slots_of (read_as file e)) records more

  pub slots_in-push : (records : List Record) (e : Record) → slots_in file (records ++ e ∷ []) ≡ slots_in file records ++ slots_of (read_as file e)
  slots_in-push records e = slots_in-append records (e ∷ []) ∙ ap (λ l. slots_in file records ++ l) (append-nil (slots_of (read_as file e)))

  -- the refusals among the first n records are the same where these records are
  first_below-same : (records others : List Record) (n : ℕ) → ((i : ℕ) → i < n → refusal_at file records i ≡ refusal_at file others i) → first_below file records n ≡ first_below file others n
  first_below-same records others naught each = refl
  first_below-same records others (suc n) each = ap₂ first_of (first_below-same records others n (λ i lt. each i (omega arith))) (each n (omega arith))

  pub first_below-take : (records : List Record) (n v : ℕ) → n ≤ v → first_below file (take v records) n ≡ first_below file records n
  first_below-take records n v le =
      first_below-same (take v records) records n (λ i lt.
      ap₂ (λ l e. refusal file i (slots_in file l) e) (take-take i v records (omega arith)) (get_or-take v records i empty_record (omega arith)))

  pub first_below-append : (records more : List Record) (n : ℕ) → n ≤ length records → first_below file (records ++ more) n ≡ first_below file records n
  first_below-append records more n le =
      first_below-same (records ++ more) records n (λ i lt.
      ap₂ (λ l e. refusal file i (slots_in file l) e) (take-append-le i records more (omega arith)) (get_or_append_left records more empty_record i (omega arith)))

  -- one record more
  pub first_refused-push : (records : List Record) (e : Record) → first_refused file (records ++ e ∷ []) ≡ first_of (first_refused file records) (refusal file (length records) (slots_in file records) e)
  first_refused-push records e =
      let n = length records in
      let count : length (records ++ e ∷ []) ≡ suc n = length_push records e ∙ omega arith in
      ap (first_below file (records ++ e ∷ [])) count
      ∙ ap₂ first_of (first_below-append records (e ∷ []) n (omega arith))
      (ap₂ (λ l x. refusal file n (slots_in file l) x) (take_at records (e ∷ []) n refl) (get_or_push records e empty_record n refl))

  -- the refusals of more records come behind
  first_below-more : (records : List Record) (n d : ℕ) → (rest : Option Refusal) × (first_below file records (n + d) ≡ first_of (first_below file records n) rest)
  first_below-more records n naught = (None, (let e : n + 0 ≡ n = omega arith in ap (first_below file records) e ∙ first_of-none (first_below file records n)))
  first_below-more records n (suc d) =
      let earlier = first_below-more records n d in
      let e : n + suc d ≡ suc (n + d) = omega arith in (
        first_of earlier.0 (refusal_at file records (n + d)),
        ap (first_below file records) e ∙ ap (λ o. first_of o (refusal_at file records (n + d))) earlier.1
            ∙ first_of-assoc (first_below file records n) earlier.0 (refusal_at file records (n + d)),
      )

  pub first_refused-append : (records more : List Record) → (rest : Option Refusal) × (first_refused file (records ++ more) ≡ first_of (first_refused file records) rest)
  first_refused-append records more =
      let behind = first_below-more (records ++ more) (length records) (length more) in (
        behind.0,
        ap (first_below file (records ++ more)) (length-append records more) ∙ behind.1
            ∙ ap (λ o. first_of o behind.0) (first_below-append records more (length records) (omega arith)),
      )

  -- what is refused stays refused
  pub first_refused-stays : (records more : List Record) (r : Refusal) → first_refused file records ≡ Some r → first_refused file (records ++ more) ≡ Some r
  first_refused-stays records more r is =
      let behind = first_refused-append records more in
      behind.1 ∙ ap (λ o. first_of o behind.0) is

  -- where nothing is refused, nothing is among fewer records
  pub first_refused-earlier : (records more : List Record) → first_refused file (records ++ more) ≡ None → first_refused file records ≡ None
  first_refused-earlier records more none = by (first_refused file records) refl
    where
      by : (o : Option Refusal) → first_refused file records ≡ o → o ≡ None
      by None is = refl
      by (Some r) is = absurd (none-some r (sym none ∙ first_refused-stays records more r is))
