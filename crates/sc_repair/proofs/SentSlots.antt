-- What a loss leaves of the slots of a protected capture: how its records are read, and which slots are taken.
use Rattle.std.proofs.Common.{◌≡◌, ◌⊎◌, inl, inr, ℕ, zero as naught, suc, ◌+◌, ◌-◌, ◌<◌, ◌≤◌, ◌&&◌, nat_eq, nat_le, nat_lt, Bool, true, false, cond, max, List, [], ◌∷◌, ◌++◌, length, get_or, drop, map, Contains, Some, None, refl, sym, ap, ap₂, ◌∙◌, subst, arith}
use Rattle.std.specs.List.{range_with_len}
use Rattle.std.proofs.lemmas.Bool.{cases_Bool, cases_lt, and_from, eqb-true, eqb-false, eq-eqb, ne_eqb, lt-ltb, le-leb, cond-true, cond-false}
use Rattle.sc_rtpdump.specs.Record.{Record}
use Rattle.sc_rtpdump.specs.Thin.{kept}
use Rattle.sc_code.specs.declared.code.CodeFile.{CodeFile}
use Rattle.sc_slots.specs.Slot.{Slot, IsSlot, stranger, wrong_code, bad_shape, slot, slot_behind, slot_head_of, slot_record}
use Rattle.sc_slots.specs.Taken.{Taken, AllBelow, claimed, least_end}
use Rattle.sc_slots.specs.Sent.{HasEnds, left_by}
use Rattle.sc_slots.proofs.HeadLaws.{slot_head_of-spelled, behind-spelled}
use Rattle.sc_slots.proofs.SlotLaws.{well_shaped-there}
use Rattle.sc_slots.proofs.LeftLaws.{in_cons}
use Rattle.sc_repair.specs.Readings.{is_protected, has_bad_shape, reading_behind, record_reading}
use Rattle.sc_repair.specs.Repairing.{slots_of, read_as, slots_in, end_fits}
use Rattle.sc_repair.proofs.ReadingLaws.{protected-is, bad_shape-Decides}

-- ---- the record of a slot is read as the slot

module _ (k r deadline : ℕ) where
  pub record_reading-slot : (offset : ℕ) (s : Slot) → k < 256 → r < 256 → IsSlot k r deadline s → record_reading k r deadline (slot_record k r offset s) ≡ slot s
  unfolding record_reading
  record_reading-slot offset s small_k small_r is =
      let e = slot_record k r offset s in
      let w = well_shaped-there k r deadline offset s small_k small_r is in
      let h = w.0 in
      let rest = w.1 in
      let p = w.2 in
      let well : has_bad_shape k r deadline h rest ≡ false = elim (cases_Bool (has_bad_shape k r deadline h rest)) [
        | inl wrong ↦ absurd (w.5 ((bad_shape-Decides k r deadline h rest).0 wrong))
        | inr fine ↦ fine
      ] in
      cond-true (is_protected e) (reading_behind k r deadline (slot_head_of e.body) (drop 24 e.body)) stranger (protected-is e h rest p)
      ∙ ap₂ (reading_behind k r deadline) (ap slot_head_of p.parts ∙ slot_head_of-spelled h rest p.fits) (ap (drop 24) p.parts ∙ behind-spelled h rest)
      ∙ cond-true (nat_eq h.k k && nat_eq h.r r) (cond (has_bad_shape k r deadline h rest) bad_shape (slot (slot_behind k h rest))) wrong_code
      (and_from (nat_eq h.k k) (nat_eq h.r r) (eq-eqb h.k k w.3) (eq-eqb h.r r w.4))
      ∙ cond-false (has_bad_shape k r deadline h rest) bad_shape (slot (slot_behind k h rest)) well
      ∙ ap slot (sym w.6)

-- ---- what a loss leaves of a list

pub kept-is : (flags : List Bool) (es : List Record) → kept flags es ≡ left_by flags es
kept-is [] es = refl
kept-is (flag ∷ flags) [] = refl
kept-is (true ∷ flags) (e ∷ es) = kept-is flags es
kept-is (false ∷ flags) (e ∷ es) = ap (λ l. e ∷ l) (kept-is flags es)

module _ {X : Type 0} where
  pub left_by-none : (flags : List Bool) → left_by flags (let l : List X = [] in l) ≡ []
  left_by-none [] = refl
  left_by-none (flag ∷ flags) = refl

  pub left_by-le : (flags : List Bool) (xs : List X) → length (left_by flags xs) ≤ length xs
  left_by-le [] xs = omega arith
  left_by-le (flag ∷ flags) [] = omega arith
  left_by-le (true ∷ flags) (x ∷ xs) = let le = left_by-le flags xs in omega arith
  left_by-le (false ∷ flags) (x ∷ xs) = let le = left_by-le flags xs in omega arith

  pub left_by-append : (flags : List Bool) (xs ys : List X) → left_by flags (xs ++ ys) ≡ left_by flags xs ++ left_by (drop (length xs) flags) ys
  left_by-append [] [] ys = refl
  left_by-append [] (x ∷ xs) ys = refl
  left_by-append (flag ∷ flags) [] ys = refl
  left_by-append (true ∷ flags) (x ∷ xs) ys = left_by-append flags xs ys
  left_by-append (false ∷ flags) (x ∷ xs) ys = ap (λ l. x ∷ l) (left_by-append flags xs ys)

  pub left_by-map : {Y : Type 0} (f : X → Y) (flags : List Bool) (xs : List X) → map f (left_by flags xs) ≡ left_by flags (map f xs)
  left_by-map f [] xs = refl
  left_by-map f (flag ∷ flags) [] = refl
  left_by-map f (true ∷ flags) (x ∷ xs) = left_by-map f flags xs
  left_by-map f (false ∷ flags) (x ∷ xs) = ap (λ l. f x ∷ l) (left_by-map f flags xs)

  -- where the n-th flag isn't set, the n-th comes last
  pub left_by-kept : (flags : List Bool) (n : ℕ) (x : X) → get_or flags n true ≡ false → left_by (drop n flags) (x ∷ []) ≡ x ∷ []
  left_by-kept [] n x h = absurd (cc)
  left_by-kept (true ∷ flags) naught x h = absurd (cc)
  left_by-kept (false ∷ flags) naught x h = ap (λ l. x ∷ l) (left_by-none flags)
  left_by-kept (flag ∷ flags) (suc n) x h = left_by-kept flags n x h

  pub left_by-lost : (flags : List Bool) (n : ℕ) (x : X) → get_or flags n true ≡ true → left_by (drop n flags) (x ∷ []) ≡ []
  left_by-lost [] naught x h = refl
  left_by-lost [] (suc n) x h = refl
  left_by-lost (true ∷ flags) naught x h = left_by-none flags
  left_by-lost (false ∷ flags) naught x h = absurd (cc)
  left_by-lost (flag ∷ flags) (suc n) x h = left_by-lost flags n x h

  -- what is left of a range comes from there
  pub left_in : (f : ℕ → X) (flags : List Bool) (a n : ℕ) (x : X) → Contains (left_by flags (map f (range_with_len a n))) x → (i : ℕ) × (a ≤ i) × (i < a + n) × (f i ≡ x)
  left_in f [] a n x c = let lt : c.0 < 0 = c.1 in absurd (omega arith)
  left_in f (flag ∷ flags) a naught x c = let lt : c.0 < 0 = c.1 in absurd (omega arith)
  left_in f (true ∷ flags) a (suc n) x c =
      let later = left_in f flags (a + 1) n x c in
      let low : a + 1 ≤ later.0 = later.1 in
      let high : later.0 < a + 1 + n = later.2 in
      (later.0, omega arith, omega arith, later.3)
  left_in f (false ∷ flags) a (suc n) x c =
      elim (in_cons (f a) (left_by flags (map f (range_with_len (a + 1) n))) x c) [
        | inl same ↦ (a, omega arith, omega arith, same)
        | inr rest ↦ (
            let later = left_in f flags (a + 1) n x rest in
            let low : a + 1 ≤ later.0 = later.1 in
            let high : later.0 < a + 1 + n = later.2 in
            (later.0, omega arith, omega arith, later.3))
      ]

-- ---- records that are read as slots

module _ (file : CodeFile) (rec : ℕ → Record) (s : ℕ → Slot) where
  pub slots_kept : (flags : List Bool) (a n : ℕ) → ((i : ℕ) → i < a + n → read_as file (rec i) ≡ slot (s i)) → slots_in file (kept flags (map rec (range_with_len a n))) ≡ left_by flags (map s (range_with_len a n))
  slots_kept [] a n h = refl
  slots_kept (flag ∷ flags) a naught h = refl
  slots_kept (true ∷ flags) a (suc n) h = slots_kept flags (a + 1) n (λ i lt. h i (omega arith))
  slots_kept (false ∷ flags) a (suc n) h =
      ap₂ (λ x l. slots_of x ++ l) (h a (omega arith)) (slots_kept flags (a + 1) n (λ i lt. h i (omega arith)))

-- ---- ends

-- where the end bytes are those of a stream of so many blocks, no end is claimed, or that one
pub claimed-sent : (blocks : ℕ) (taken : List (Taken ℕ)) → HasEnds blocks taken → (claimed taken ≡ None) ⊎ (claimed taken ≡ Some blocks)
claimed-sent blocks [] h = inl refl
claimed-sent blocks (x ∷ taken) h =
    let e : x.end ≡ x.number + 1 - blocks = h x (0, omega arith, refl) in
    elim (cases_Bool (nat_eq x.end 0)) [
      | inl source ↦ (
          let is = cond-true (nat_eq x.end 0) (claimed taken) (Some (x.number + 1 - x.end)) source in
          elim (claimed-sent blocks taken (λ y c. h y (suc c.0, omega (arith, c.1), c.2))) [
            | inl none ↦ inl (is ∙ none)
            | inr some ↦ inr (is ∙ some)
          ])
      | inr flush ↦ (
          let other = eqb-false x.end 0 flush in
          let number : x.number + 1 - x.end ≡ blocks = omega arith in
          inr (cond-false (nat_eq x.end 0) (claimed taken) (Some (x.number + 1 - x.end)) flush ∙ ap Some number))
    ]

-- no flush slot is below the end
pub claimed-none : (blocks : ℕ) (taken : List (Taken ℕ)) → HasEnds blocks taken → AllBelow taken blocks → claimed taken ≡ None
claimed-none blocks [] h below = refl
claimed-none blocks (x ∷ taken) h below =
    let e : x.end ≡ x.number + 1 - blocks = h x (0, omega arith, refl) in
    let low : x.number < blocks = below x (0, omega arith, refl) in
    let source : nat_eq x.end 0 ≡ true = eq-eqb x.end 0 (omega arith) in
    cond-true (nat_eq x.end 0) (claimed taken) (Some (x.number + 1 - x.end)) source
    ∙ claimed-none blocks taken (λ y c. h y (suc c.0, omega (arith, c.1), c.2)) (λ y c. below y (suc c.0, omega (arith, c.1), c.2))

-- and no source slot is beyond it
pub least_end-sent : (blocks : ℕ) (taken : List (Taken ℕ)) → HasEnds blocks taken → least_end taken ≤ blocks
least_end-sent blocks [] h = omega arith
least_end-sent blocks (x ∷ taken) h =
    let e : x.end ≡ x.number + 1 - blocks = h x (0, omega arith, refl) in
    let rest = least_end-sent blocks taken (λ y c. h y (suc c.0, omega (arith, c.1), c.2)) in
    elim (cases_Bool (nat_eq x.end 0)) [
      | inl source ↦ (
          let zero_end = eqb-true x.end 0 source in
          subst (λ n. n ≤ blocks) (sym (cond-true (nat_eq x.end 0) (max (x.number + 1) (least_end taken)) (least_end taken) source)) (omega arith))
      | inr flush ↦ subst (λ n. n ≤ blocks) (sym (cond-false (nat_eq x.end 0) (max (x.number + 1) (least_end taken)) (least_end taken) flush)) rest
    ]

-- so the next slot of the stream fits those before it
pub end_fits-sent : (blocks n : ℕ) (taken : List (Taken ℕ)) → HasEnds blocks taken → AllBelow taken n → end_fits (claimed taken) (least_end taken) n (n + 1 - blocks) ≡ true
end_fits-sent blocks n taken h below =
    let least = least_end taken in
    let end = n + 1 - blocks in
    elim (cases_lt n blocks) [
      | inl source ↦ (
          let zero_end : nat_eq (n + 1 - blocks) 0 ≡ true = eq-eqb (n + 1 - blocks) 0 (omega arith) in
          ap (λ o. end_fits o least n end) (claimed-none blocks taken h (λ x c. (let low : x.number < n = below x c in omega arith)))
          ∙ cond-true (nat_eq end 0) true (nat_le least (n + 1 - end)) zero_end)
      | inr flush ↦ elim (claimed-sent blocks taken h) [
        | inl none ↦ (
            let le : least_end taken ≤ blocks = least_end-sent blocks taken h in
            let some_end : nat_eq (n + 1 - blocks) 0 ≡ false = ne_eqb (n + 1 - blocks) 0 (λ e. omega (arith, e, flush)) in
            ap (λ o. end_fits o least n end) none
            ∙ cond-false (nat_eq end 0) true (nat_le least (n + 1 - end)) some_end
            ∙ le-leb least (n + 1 - (n + 1 - blocks)) (omega arith))
        | inr some ↦
            ap (λ o. end_fits o least n end) some
            ∙ and_from (nat_lt 0 end) (nat_eq (n + 1 - end) blocks) (lt-ltb 0 (n + 1 - blocks) (omega arith)) (eq-eqb (n + 1 - (n + 1 - blocks)) blocks (omega arith))
      ]
    ]
