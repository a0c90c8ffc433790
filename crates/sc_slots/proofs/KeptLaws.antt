-- What is kept stands for the taken slots, through every step of a repairer: free places appended, a slot that is taken, and
-- places that are given up. So what all streams that fit say of a kept place is told by what is kept, and a clash is
-- where nothing is kept.
use Rattle.std.proofs.Common.{◌≡◌, ℕ, ◌+◌, ◌-◌, ◌<◌, ◌≤◌, ◌↔◌, List, [], ◌∷◌, ◌++◌, length, take, drop, replicate, refl, sym, ap, ◌∙◌, subst, arith, inl, inr}
use Rattle.std.proofs.lemmas.List.{length-take-le, length-drop, get_or-drop, append-nil, append_assoc, take-append-drop, take_at, drop-append-le, drop-drop, drop-take, nil_from_length}
use Rattle.std.proofs.lemmas.List.Elements.{Contains-push, All-nil, All-drop}
use Rattle.sc_code.specs.Code.{Code}
use Rattle.sc_code.specs.Stream.{IsBlock, IsStream, zero_block, block_at}
use Rattle.sc_code.specs.Parity.{parity}
use Rattle.sc_code.proofs.LastBlocksLaws.{parity-drop}
use Rattle.sc_slots.specs.Taken.{Taken, AllBelow}
use Rattle.sc_slots.specs.Repair.{Fits, IsConsistent, HasNoClash, AllHave, IsClash}
use Rattle.sc_slots.specs.Kept.{StandsFor, IsAfterFree, IsAfterTake, IsAfterForget, IsFirstOf, IsWithinReach, Step, Free, Take, Forget, taken_in, end_after, front_after, MayGo, kept_after}
use Rattle.sc_slots.proofs.FitLaws.{AllBelow-push, AllBelow-with, AllFrom-one, Fits-take, Fits-append, Fits-zeros, Fits-push, Fits-pushed}
use Rattle.sc_slots.proofs.SettledLaws.{HasNoClash-later, IsConsistent-longer, IsConsistent-shorter, AllHave-longer, AllHave-shorter}

-- a block at its kept place
pub block_at-kept : (t front : ℕ) (xs : List (List (List ℕ))) → front ≤ t → block_at (drop front xs) (t - front) ≡ block_at xs t
block_at-kept t front xs le =
    let place : front + (t - front) ≡ t = omega arith in
    get_or-drop front xs (t - front) [] ∙ ap (λ (n : ℕ). block_at xs n) place

module _ {A : Type 0} (zero : A) (act : A → ℕ → ℕ) where
  -- the parity of a slot is told by the kept places, where they are within reach
  pub parity-kept : (code : Code A) (m w front : ℕ) (xs : List (List (List ℕ))) → IsWithinReach code w front → front ≤ w → parity zero act code m (drop front xs) (w - front) ≡ parity zero act code m xs w
  parity-kept code m w front xs (inl e) le =
      let place : w - front ≡ w = omega arith in
      ap (λ (n : ℕ). parity zero act code m (drop n xs) (w - front)) e ∙ ap (λ (n : ℕ). parity zero act code m xs n) place
  parity-kept code m w front xs (inr reach) le =
      let place : front + (w - front) ≡ w = omega arith in
      parity-drop zero act code m front xs (w - front) (omega arith) ∙ ap (λ (n : ℕ). parity zero act code m xs n) place

  module _ (k m : ℕ) where
    -- ---- the steps

    -- at the start: no place
    pub StandsFor-start : StandsFor zero act k m [] 0 0 (λ blocks. blocks ≡ [])
    StandsFor-start =
        record {
          sound = λ blocks e. ([], record { is_stream = All-nil (IsBlock k m); count = refl; slots = λ slot c lt. absurd (omega arith) }, sym e);
          complete = λ stream h. (let n = h.count in nil_from_length stream (omega arith));
        }

    -- or v free places, of which each list of v blocks is kept
    pub StandsFor-start_free : (v : ℕ) → StandsFor zero act k m [] v 0 (λ blocks. IsStream k m blocks × (length blocks ≡ v))
    StandsFor-start_free v =
        record {
          sound = λ blocks h. (blocks, record { is_stream = h.0; count = h.1; slots = λ slot c. (let lt : c.0 < 0 = c.1 in absurd (omega arith)) }, refl);
          complete = λ stream h. (h.is_stream, h.count);
        }

    -- the same set, said otherwise
    pub StandsFor-same : (taken : List (Taken A)) (v front : ℕ) (kept other : List (List (List ℕ)) → Type 0) → ((blocks : List (List (List ℕ))) → kept blocks ↔ other blocks)
        → StandsFor zero act k m taken v front kept → StandsFor zero act k m taken v front other
    StandsFor-same taken v front kept other same h =
        record {
          sound = λ blocks x. h.sound blocks ((same blocks).1 x);
          complete = λ stream f. (same (drop front stream)).0 (h.complete stream f);
        }

    -- n free places more
    pub StandsFor-free : (taken : List (Taken A)) (v front n : ℕ) (kept : List (List (List ℕ)) → Type 0) → AllBelow taken v → front ≤ v
        → StandsFor zero act k m taken v front kept → StandsFor zero act k m taken (v + n) front (IsAfterFree k m n kept)
    StandsFor-free taken v front n kept below le h =
        record {
          sound = λ blocks x.
              let found = h.sound x.before x.is_kept in
              let fits : Fits zero act k m taken v found.0 = found.1 in
              let count : length found.0 ≡ v = fits.count in (
                found.0 ++ x.more,
                Fits-append zero act k m taken v (v + n) found.0 x.more fits x.is_stream (ap (λ (c : ℕ). v + c) x.count) (λ slot c lt. below slot c),
                drop-append-le front found.0 x.more (omega arith) ∙ ap (λ (ys : List (List (List ℕ))). ys ++ x.more) found.2 ∙ sym x.appended,
              );
          complete = λ stream f.
              let count : length stream ≡ v + n = f.count in
              let split : stream ≡ take v stream ++ drop v stream = sym (take-append-drop v stream) in
              record {
                before = drop front (take v stream);
                more = drop v stream;
                is_kept = h.complete (take v stream) (Fits-take zero act k m taken (v + n) v stream (omega arith) f);
                is_stream = All-drop (IsBlock k m) v stream f.is_stream;
                count = omega (arith, length-drop v stream);
                appended = ap (drop front) split ∙ drop-append-le front (take v stream) (drop v stream) (omega (arith, length-take-le v stream));
              };
        }

    -- a slot is taken
    pub StandsFor-take : (taken : List (Taken A)) (slot : Taken A) (v front : ℕ) (kept : List (List (List ℕ)) → Type 0) → front ≤ slot.number → slot.number < v → IsWithinReach slot.code slot.number front
        → StandsFor zero act k m taken v front kept → StandsFor zero act k m (taken ++ slot ∷ []) v front (IsAfterTake zero act m slot (slot.number - front) kept)
    StandsFor-take taken slot v front kept le lt reach h =
        record {
          sound = λ blocks x.
              let found = h.sound blocks x.is_kept in (
                found.0,
                Fits-push zero act k m taken slot v found.0 found.1 (record {
                  same_block = sym (block_at-kept slot.number front found.0 le) ∙ ap (λ (ys : List (List (List ℕ))). block_at ys (slot.number - front)) found.2 ∙ x.same_block;
                  same_parity = sym (parity-kept slot.code m slot.number front found.0 reach le) ∙ ap (λ (ys : List (List (List ℕ))). parity zero act slot.code m ys (slot.number - front)) found.2 ∙ x.same_parity;
                }),
                found.2,
              );
          complete = λ stream f.
              let both = Fits-pushed zero act k m taken slot v stream lt f in
              record {
                is_kept = h.complete stream both.0;
                same_block = block_at-kept slot.number front stream le ∙ both.1.same_block;
                same_parity = parity-kept slot.code m slot.number front stream reach le ∙ both.1.same_parity;
              };
        }

    -- the first n places are given up
    pub StandsFor-forget : (taken : List (Taken A)) (v front n : ℕ) (kept : List (List (List ℕ)) → Type 0)
        → StandsFor zero act k m taken v front kept → StandsFor zero act k m taken v (front + n) (IsAfterForget n kept)
    StandsFor-forget taken v front n kept h =
        record {
          sound = λ blocks x.
              let found = h.sound x.longer x.is_kept in
              (found.0, found.1, sym (drop-drop n front found.0) ∙ ap (drop n) found.2 ∙ x.cut);
          complete = λ stream f. record { longer = drop front stream; is_kept = h.complete stream f; cut = drop-drop n front stream };
        }

    -- the places from w on are left out, where all that was taken is below w
    pub StandsFor-first : (taken : List (Taken A)) (v w front : ℕ) (kept : List (List (List ℕ)) → Type 0) → AllBelow taken w → w ≤ v → front ≤ w
        → StandsFor zero act k m taken v front kept → StandsFor zero act k m taken w front (IsFirstOf (w - front) kept)
    StandsFor-first taken v w front kept below le within h =
        let place : front + (w - front) ≡ w = omega arith in
        record {
          sound = λ blocks x.
              let found = h.sound x.longer x.is_kept in (
                take w found.0,
                Fits-take zero act k m taken v w found.0 le found.1,
                ap (λ (n : ℕ). drop front (take n found.0)) (sym place) ∙ drop-take front (w - front) found.0 ∙ ap (take (w - front)) found.2 ∙ x.cut,
              );
          complete = λ stream f.
              let count : length stream ≡ w = f.count in
              let zeros = replicate (v - w) (zero_block k m) in
              record {
                longer = drop front (stream ++ zeros);
                is_kept = h.complete (stream ++ zeros) (Fits-zeros zero act k m taken w v stream f le (λ slot c lt. below slot c));
                cut =
                    sym (drop-take front (w - front) (stream ++ zeros)) ∙ ap (λ (n : ℕ). drop front (take n (stream ++ zeros))) place
                    ∙ ap (drop front) (take_at stream zeros w count);
              };
        }

    -- After any such steps, what is kept stands for all that was taken.
    pub StandsFor-run : (steps : List (Step A)) (taken : List (Taken A)) (v front : ℕ) (kept : List (List (List ℕ)) → Type 0) → AllBelow taken v → MayGo steps v front
        → StandsFor zero act k m taken v front kept
        → StandsFor zero act k m (taken ++ taken_in steps) (end_after steps v) (front_after steps front) (kept_after zero act k m steps front kept)
    StandsFor-run [] taken v front kept below may h =
        subst (λ (all : List (Taken A)). StandsFor zero act k m all v front kept) (sym (append-nil taken)) h
    StandsFor-run (Free n ∷ steps) taken v front kept below may h =
        StandsFor-run steps taken (v + n) front (IsAfterFree k m n kept) (λ slot c. (let lt : slot.number < v = below slot c in omega arith)) may.1 (StandsFor-free taken v front n kept below may.0 h)
    StandsFor-run (Take slot ∷ steps) taken v front kept below may h =
        subst (λ (all : List (Taken A)). StandsFor zero act k m all (end_after steps v) (front_after steps front) (kept_after zero act k m steps front (IsAfterTake zero act m slot (slot.number - front) kept)))
        (append_assoc taken (slot ∷ []) (taken_in steps))
        (StandsFor-run steps (taken ++ slot ∷ []) v front (IsAfterTake zero act m slot (slot.number - front) kept) (AllBelow-with taken slot v below may.0.1) may.1
        (StandsFor-take taken slot v front kept may.0.0 may.0.1 may.0.2 h))
    StandsFor-run (Forget n ∷ steps) taken v front kept below may h =
        StandsFor-run steps taken v (front + n) (IsAfterForget n kept) below may (StandsFor-forget taken v front n kept h)

    -- from the start on
    pub StandsFor-steps : (steps : List (Step A)) → MayGo steps 0 0
        → StandsFor zero act k m (taken_in steps) (end_after steps 0) (front_after steps 0) (kept_after zero act k m steps 0 (λ blocks. blocks ≡ []))
    StandsFor-steps steps may = StandsFor-run steps [] 0 0 (λ blocks. blocks ≡ []) (λ slot c. (let lt : c.0 < 0 = c.1 in absurd (omega arith))) may StandsFor-start

    -- ---- what is told by what is kept

    -- All streams that fit have a block at a kept place exactly where all kept lists have it.
    pub AllHave-iff_kept : (taken : List (Taken A)) (v front t : ℕ) (b : List (List ℕ)) (kept : List (List (List ℕ)) → Type 0) → StandsFor zero act k m taken v front kept → front ≤ t
        → AllHave zero act k m taken v t b ↔ ((blocks : List (List (List ℕ))) → kept blocks → block_at blocks (t - front) ≡ b)
    AllHave-iff_kept taken v front t b kept h le = (
      λ all blocks x.
          let found = h.sound blocks x in
          sym (ap (λ (ys : List (List (List ℕ))). block_at ys (t - front)) found.2) ∙ block_at-kept t front found.0 le ∙ all found.0 found.1,
      λ all stream f. sym (block_at-kept t front stream le) ∙ all (drop front stream) (h.complete stream f),
    )

    -- The same of the streams of w blocks, where all that was taken is below w.
    pub AllHave-iff_kept_below : (taken : List (Taken A)) (w v front t : ℕ) (b : List (List ℕ)) (kept : List (List (List ℕ)) → Type 0) → AllBelow taken w → w ≤ v → StandsFor zero act k m taken v front kept → front ≤ t → t < w
        → AllHave zero act k m taken w t b ↔ ((blocks : List (List (List ℕ))) → kept blocks → block_at blocks (t - front) ≡ b)
    AllHave-iff_kept_below taken w v front t b kept below le h within lt =
        let both = AllHave-iff_kept taken v front t b kept h within in
        (λ all. both.0 (AllHave-longer zero act k m taken w v t b lt le all), λ all. AllHave-shorter zero act k m taken w v t b below lt le (both.1 all))

    -- Some stream fits exactly where something is kept.
    pub IsConsistent-iff_kept : (taken : List (Taken A)) (v front : ℕ) (kept : List (List (List ℕ)) → Type 0) → StandsFor zero act k m taken v front kept
        → IsConsistent zero act k m taken v ↔ ((blocks : List (List (List ℕ))) × kept blocks)
    IsConsistent-iff_kept taken v front kept h =
        (λ some. (drop front some.0, h.complete some.0 some.1), λ some. (let found = h.sound some.0 some.1 in (found.0, found.1)))

    -- A slot that is taken at w, above all others, is a clash exactly where nothing is kept after it.
    pub IsClash-iff_none_kept : (taken : List (Taken A)) (slot : Taken A) (w v front : ℕ) (kept : List (List (List ℕ)) → Type 0) → AllBelow taken w → front ≤ w → w < v → slot.number ≡ w → IsWithinReach slot.code w front
        → HasNoClash zero act k m taken w → StandsFor zero act k m taken v front kept
        → IsClash zero act k m (taken ++ slot ∷ []) w ↔ ((blocks : List (List (List ℕ))) → ¬ IsAfterTake zero act m slot (slot.number - front) kept blocks)
    IsClash-iff_none_kept taken slot w v front kept below le lt e reach none h =
        let reach_it : IsWithinReach slot.code slot.number front = subst (λ (n : ℕ). IsWithinReach slot.code n front) (sym e) reach in
        let after = StandsFor-take taken slot v front kept (omega arith) (omega arith) reach_it h in
        let both = IsConsistent-iff_kept (taken ++ slot ∷ []) v front (IsAfterTake zero act m slot (slot.number - front) kept) after in
        let all : AllBelow (taken ++ slot ∷ []) (w + 1) = AllBelow-push taken slot w below e in (
          λ clash blocks x. clash.none_fits (IsConsistent-shorter zero act k m (taken ++ slot ∷ []) (w + 1) v (omega arith) (both.1 (blocks, x))),
          λ empty. record {
            is_taken = (slot, Contains-push taken slot, e);
            none_fits = λ some. (let x = both.0 (IsConsistent-longer zero act k m (taken ++ slot ∷ []) (w + 1) v all (omega arith) some) in empty x.0 x.1);
            first = (HasNoClash-later zero act k m taken (slot ∷ []) w (AllFrom-one slot w (omega arith))).1 none;
          },
        )
