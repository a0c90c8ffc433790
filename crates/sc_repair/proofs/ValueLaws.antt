-- The functions of specs/Values are what the definitions of repair say: streams that fit, blocks that all of them have, slots
-- that are settled and put out, and outcomes.
use Rattle.std.proofs.Common.{◌≡◌, ℕ, zero as naught, suc, ◌+◌, ◌*◌, ◌<◌, ◌≤◌, ◌&&◌, ◌||◌, not, nat_lt, Bool, true, false, min, List, [], ◌∷◌, ◌++◌, length, get_or, take, drop, map, All, Contains, Decides, Option, Some, None, is_some, is_none, refl, sym, ap, ap₂, ◌∙◌, subst, arith, inl, inr}
use Rattle.std.specs.List.{concat, range_with_len}
use Rattle.std.proofs.lemmas.Bool.{cases_Bool, cases_lt, both_ways, not-true, not-false, not_from_true, not_from_false, and_parts, and_cases, or_left, or_right, lt-ltb, ltb-true, cond-true}
use Rattle.std.proofs.lemmas.Bool.Decides.{Decides-and, Decides-like}
use Rattle.std.proofs.lemmas.Option.{none-some, same_Some, cond_some}
use Rattle.std.proofs.lemmas.Slice.Eq.{bytes_eq-Decides, slice_eq-Decides}
use Rattle.std.proofs.lemmas.List.{length-append, length-map, take_at, drop_at}
use Rattle.std.proofs.lemmas.List.Elements.{All-nil, All-append, All-head, All-tail, All-map, All-contains, Contains-get_or}
use Rattle.std.proofs.lemmas.List.Sums.{AllPass-from_list_all, list_all-from_AllPass}
use Rattle.std.proofs.lemmas.List.FromFn.{length-map-range_with_len, get_or-map-range_with_len, take-map-range_with_len}
use Rattle.sc_field.specs.Gf256.{gf256_product}
use Rattle.sc_matrix.specs.Module.{IsByte}
use Rattle.sc_matrix.specs.Vector.{IsVector}
use Rattle.sc_matrix.specs.Layout.{cut}
use Rattle.sc_matrix.proofs.LayoutLaws.{length-cut, vectors-cut}
use Rattle.sc_code.specs.FirstBytes.{first_bytes}
use Rattle.sc_code.specs.Stream.{IsBlock, IsStream, block_at}
use Rattle.sc_code.proofs.FirstBytesLaws.{option_map-none, option_map-some, first_bytes-none, first_bytes-passes}
use Rattle.sc_slots.specs.Taken.{Taken, AllBelow}
use Rattle.sc_slots.specs.Repair.{IsMatch, Fits, IsConsistent, HasNoClash, AllHave, IsSettled, IsOutcome, IsPut}
use Rattle.sc_slots.specs.Text.{AreSettled, AreOutcomes}
use Rattle.sc_slots.proofs.FitLaws.{AllFrom}
use Rattle.sc_slots.proofs.SettledLaws.{HasNoClash-iff_consistent, HasNoClash-earlier, HasNoClash-later, IsConsistent-shorter, IsConsistent-longer, IsSettled-unique, IsSettled-stays, IsSettled-later, IsOutcome-unique, IsOutcome-from_settled, IsPut-monotone, IsPut-later}
use Rattle.sc_repair.specs.Values.{same_block, while_there, stream_of, first_stream, has_slot, does_fit, is_consistent, is_only, only_block_in, only_block, settled_by, value_at, put_values, outcome_at, outcomes}

-- ---- options

none_from_is_none : {X : Type 0} (o : Option X) → is_none o ≡ true → o ≡ None
none_from_is_none None h = refl
none_from_is_none (Some x) h = absurd (cc)

is_none-by : {X : Type 0} (o : Option X) → ((x : X) → o ≡ Some x → ⊥) → is_none o ≡ true
is_none-by None h = refl
is_none-by (Some x) h = absurd (h x refl)

pub none-by : {X : Type 0} (o : Option X) → ((x : X) → o ≡ Some x → ⊥) → o ≡ None
none-by None h = refl
none-by (Some x) h = absurd (h x refl)

some_from_is_some : {X : Type 0} (o : Option X) → is_some o ≡ true → (x : X) × (o ≡ Some x)
some_from_is_some None h = absurd (cc)
some_from_is_some (Some x) h = (x, refl)

none_from_not_some : {X : Type 0} (o : Option X) → is_some o ≡ false → o ≡ None
none_from_not_some None h = refl
none_from_not_some (Some x) h = absurd (cc)

or_second : (a b : Bool) → (a || b) ≡ true → a ≡ false → b ≡ true
or_second true b h off = absurd (cc)
or_second false b h off = h

-- ---- the bytes of a stream

concat-bytes : (c : ℕ) (xs : List (List ℕ)) → All (IsVector IsByte c) xs → IsVector IsByte (length xs * c) (concat xs)
concat-bytes c [] h = record { width = omega arith; entries = All-nil IsByte }
concat-bytes c (x ∷ xs) h =
    let first = All-head (IsVector IsByte c) x xs h in
    let rest = concat-bytes c xs (All-tail (IsVector IsByte c) x xs h) in
    let w = first.width in
    let n = rest.width in
    record { width = omega (arith, length-append x (concat xs), w, n); entries = All-append IsByte x (concat xs) first.entries rest.entries }

cut-concat : (c : ℕ) (xs : List (List ℕ)) → All (IsVector IsByte c) xs → cut (length xs) c (concat xs) ≡ xs
cut-concat c [] h = refl
cut-concat c (x ∷ xs) h =
    let w = (All-head (IsVector IsByte c) x xs h).width in
    rw (take_at x (concat xs) c w, drop_at x (concat xs) c w, cut-concat c xs (All-tail (IsVector IsByte c) x xs h)) refl

module _ (k m : ℕ) where
  pub block-bytes : (block : List (List ℕ)) → IsBlock k m block → IsVector IsByte (k * m) (concat block)
  block-bytes block h = subst (λ (n : ℕ). IsVector IsByte (n * m) (concat block)) h.width (concat-bytes m block h.entries)

  cut-block : (block : List (List ℕ)) → IsBlock k m block → cut k m (concat block) ≡ block
  cut-block block h = subst (λ (n : ℕ). cut n m (concat block) ≡ block) h.width (cut-concat m block h.entries)

  IsBlock-cut : (bytes : List ℕ) → IsVector IsByte (k * m) bytes → IsBlock k m (cut k m bytes)
  IsBlock-cut bytes h = record { width = length-cut k m bytes; entries = vectors-cut IsByte k m bytes h.width h.entries }

  -- all bytes of a stream, one after the other
  abbrev stream_bytes : List (List (List ℕ)) → List ℕ
  stream_bytes stream = concat (map concat stream)

  blocks-bytes : (stream : List (List (List ℕ))) → IsStream k m stream → All (IsVector IsByte (k * m)) (map concat stream)
  blocks-bytes stream h = All-map (IsVector IsByte (k * m)) concat stream (λ i d lt. block-bytes (get_or stream i d) (h i d lt))

  stream_bytes-bytes : (w : ℕ) (stream : List (List (List ℕ))) → IsStream k m stream → length stream ≡ w → IsVector IsByte (w * (k * m)) (stream_bytes stream)
  stream_bytes-bytes w stream h count =
      subst (λ (n : ℕ). IsVector IsByte (n * (k * m)) (stream_bytes stream)) (length-map stream concat ∙ count) (concat-bytes (k * m) (map concat stream) (blocks-bytes stream h))

  cut-blocks : (stream : List (List (List ℕ))) → IsStream k m stream → map (cut k m) (map concat stream) ≡ stream
  cut-blocks [] h = refl
  cut-blocks (block ∷ stream) h =
      ap₂ (λ b s. b ∷ s) (cut-block block (All-head (IsBlock k m) block stream h)) (cut-blocks stream (All-tail (IsBlock k m) block stream h))

  -- a stream is that of its bytes
  stream_of-bytes : (w : ℕ) (stream : List (List (List ℕ))) → IsStream k m stream → length stream ≡ w → stream_of k m w (stream_bytes stream) ≡ stream
  stream_of-bytes w stream h count =
      let whole : cut w (k * m) (stream_bytes stream) ≡ map concat stream =
      subst (λ (n : ℕ). cut n (k * m) (stream_bytes stream) ≡ map concat stream) (length-map stream concat ∙ count) (cut-concat (k * m) (map concat stream) (blocks-bytes stream h)) in
      ap (map (cut k m)) whole ∙ cut-blocks stream h

  IsStream-stream_of : (w : ℕ) (bytes : List ℕ) → IsVector IsByte (w * (k * m)) bytes → IsStream k m (stream_of k m w bytes)
  IsStream-stream_of w bytes h =
      let rows = vectors-cut IsByte w (k * m) bytes h.width h.entries in
      All-map (IsBlock k m) (cut k m) (cut w (k * m) bytes) (λ i d lt. IsBlock-cut (get_or (cut w (k * m) bytes) i d) (rows i d lt))

  -- ---- the first stream that passes

  pub first_stream-some : (w : ℕ) (test : List (List (List ℕ)) → Bool) (stream : List (List (List ℕ))) → first_stream k m w test ≡ Some stream
      → IsStream k m stream × (length stream ≡ w) × (test stream ≡ true)
  unfolding first_stream
  first_stream-some w test stream is =
      let mapped = option_map-some (stream_of k m w) (first_bytes (w * (k * m)) (λ bytes. test (stream_of k m w bytes))) stream is in
      let found = first_bytes-passes (w * (k * m)) (λ bytes. test (stream_of k m w bytes)) mapped.from mapped.there in
      subst (λ s. IsStream k m s × (length s ≡ w) × (test s ≡ true)) mapped.is
      (IsStream-stream_of w mapped.from found.bytes, length-map (cut w (k * m) mapped.from) (cut k m) ∙ length-cut w (k * m) mapped.from, found.passes)

  pub first_stream-none : (w : ℕ) (test : List (List (List ℕ)) → Bool) → first_stream k m w test ≡ None
      → (stream : List (List (List ℕ))) → IsStream k m stream → length stream ≡ w → test stream ≡ false
  unfolding first_stream
  first_stream-none w test none stream h count =
      let no_bytes = option_map-none (stream_of k m w) (first_bytes (w * (k * m)) (λ bytes. test (stream_of k m w bytes))) none in
      subst (λ s. test s ≡ false) (stream_of-bytes w stream h count)
      (first_bytes-none (w * (k * m)) (λ bytes. test (stream_of k m w bytes)) no_bytes (stream_bytes stream) (stream_bytes-bytes w stream h count))

-- ---- tests

same_block-Decides : (a b : List (List ℕ)) → Decides (same_block a b) (a ≡ b)
same_block-Decides a b = slice_eq-Decides bytes_eq-Decides a b (same_block a b) refl

module _ (k m : ℕ) where
  has_slot-Decides : (stream : List (List (List ℕ))) (slot : Taken ℕ) → Decides (has_slot k m stream slot) (IsMatch 0 gf256_product m stream slot)
  has_slot-Decides stream slot =
      let both = Decides-and _ _ (same_block-Decides _ _) (same_block-Decides _ _) in
      Decides-like (has_slot k m stream slot) (λ h. record { same_block = h.0; same_parity = h.1 }) (λ h. (h.same_block, h.same_parity)) both

  abbrev slot_test : ℕ → List (List (List ℕ)) → Taken ℕ → Bool
  slot_test w stream slot = not (nat_lt slot.number w) || has_slot k m stream slot

  -- the test of a stream says that it fits
  pub does_fit-true : (taken : List (Taken ℕ)) (w : ℕ) (stream : List (List (List ℕ))) → IsStream k m stream → length stream ≡ w → does_fit k m taken w stream ≡ true → Fits 0 gf256_product k m taken w stream
  does_fit-true taken w stream h count passes =
      record {
        is_stream = h;
        count = count;
        slots = λ slot c lt.
            let at : slot_test w stream slot ≡ true = All-contains (λ s. slot_test w stream s ≡ true) taken slot (AllPass-from_list_all (slot_test w stream) taken passes) c in
            (has_slot-Decides stream slot).0 (or_second (not (nat_lt slot.number w)) (has_slot k m stream slot) at (not_from_true (nat_lt slot.number w) (lt-ltb slot.number w lt)));
      }

  slot_test-true : (taken : List (Taken ℕ)) (w : ℕ) (stream : List (List (List ℕ))) (slot : Taken ℕ) → Fits 0 gf256_product k m taken w stream → Contains taken slot → slot_test w stream slot ≡ true
  slot_test-true taken w stream slot f c =
      elim (cases_Bool (nat_lt slot.number w)) [
        | inl below ↦ or_right (not (nat_lt slot.number w)) (has_slot k m stream slot) ((has_slot-Decides stream slot).1 (f.slots slot c (ltb-true slot.number w below)))
        | inr above ↦ or_left (not (nat_lt slot.number w)) (has_slot k m stream slot) (not_from_false (nat_lt slot.number w) above)
      ]

  pub does_fit-is : (taken : List (Taken ℕ)) (w : ℕ) (stream : List (List (List ℕ))) → Fits 0 gf256_product k m taken w stream → does_fit k m taken w stream ≡ true
  does_fit-is taken w stream f =
      list_all-from_AllPass (slot_test w stream) taken (λ i d lt. slot_test-true taken w stream (get_or taken i d) f (Contains-get_or taken i d lt))

  -- ---- what fits

  pub is_consistent-true : (taken : List (Taken ℕ)) (w : ℕ) → is_consistent k m taken w ≡ true → IsConsistent 0 gf256_product k m taken w
  is_consistent-true taken w is =
      let found = some_from_is_some (first_stream k m w (does_fit k m taken w)) is in
      let parts = first_stream-some k m w (does_fit k m taken w) found.0 found.1 in
      (found.0, does_fit-true taken w found.0 parts.0 parts.1 parts.2)

  pub is_consistent-false : (taken : List (Taken ℕ)) (w : ℕ) → is_consistent k m taken w ≡ false → IsConsistent 0 gf256_product k m taken w → ⊥
  is_consistent-false taken w is some =
      let none = none_from_not_some (first_stream k m w (does_fit k m taken w)) is in
      both_ways (does_fit k m taken w some.0) (first_stream-none k m w (does_fit k m taken w) none some.0 some.1.is_stream some.1.count) (does_fit-is taken w some.0 some.1)

  pub is_consistent-there : (taken : List (Taken ℕ)) (w : ℕ) → IsConsistent 0 gf256_product k m taken w → is_consistent k m taken w ≡ true
  is_consistent-there taken w some =
      elim (cases_Bool (is_consistent k m taken w)) [
        | inl is ↦ is
        | inr isnt ↦ absurd (is_consistent-false taken w isnt some)
      ]

  pub is_consistent-lacks : (taken : List (Taken ℕ)) (w : ℕ) → (IsConsistent 0 gf256_product k m taken w → ⊥) → is_consistent k m taken w ≡ false
  is_consistent-lacks taken w none =
      elim (cases_Bool (is_consistent k m taken w)) [
        | inl is ↦ absurd (none (is_consistent-true taken w is))
        | inr isnt ↦ isnt
      ]

  -- ---- what all that fit have

  -- a stream fits and has another block t
  abbrev other_test : List (Taken ℕ) → ℕ → ℕ → List (List ℕ) → List (List (List ℕ)) → Bool
  other_test taken w t block stream = does_fit k m taken w stream && not (same_block (block_at stream t) block)

  is_only-true : (taken : List (Taken ℕ)) (w t : ℕ) (block : List (List ℕ)) → is_only k m taken w t block ≡ true → AllHave 0 gf256_product k m taken w t block
  is_only-true taken w t block is stream f =
      let none = none_from_is_none (first_stream k m w (other_test taken w t block)) is in
      let fails = first_stream-none k m w (other_test taken w t block) none stream f.is_stream f.count in
      elim (and_cases (does_fit k m taken w stream) (not (same_block (block_at stream t) block)) fails) [
        | inl misfit ↦ absurd (both_ways (does_fit k m taken w stream) misfit (does_fit-is taken w stream f))
        | inr same ↦ (same_block-Decides (block_at stream t) block).0 (not-false (same_block (block_at stream t) block) same)
      ]

  is_only-is : (taken : List (Taken ℕ)) (w t : ℕ) (block : List (List ℕ)) → AllHave 0 gf256_product k m taken w t block → is_only k m taken w t block ≡ true
  is_only-is taken w t block all =
      is_none-by (first_stream k m w (other_test taken w t block)) (λ stream found.
      let parts = first_stream-some k m w (other_test taken w t block) stream found in
      let both = and_parts (does_fit k m taken w stream) (not (same_block (block_at stream t) block)) parts.2 in
      let same = all stream (does_fit-true taken w stream parts.0 parts.1 both.0) in
      both_ways (same_block (block_at stream t) block) (not-true (same_block (block_at stream t) block) both.1) ((same_block-Decides (block_at stream t) block).1 same))

  only-some_by : (taken : List (Taken ℕ)) (w t : ℕ) (b : List (List ℕ)) (found : Option (List (List (List ℕ)))) → first_stream k m w (does_fit k m taken w) ≡ found
      → only_block_in k m taken w t found ≡ Some b → IsConsistent 0 gf256_product k m taken w × AllHave 0 gf256_product k m taken w t b
  only-some_by taken w t b None is h = absurd (none-some b h)
  only-some_by taken w t b (Some stream) is h =
      let parts = first_stream-some k m w (does_fit k m taken w) stream is in
      let both = cond_some (is_only k m taken w t (block_at stream t)) (block_at stream t) b h in (
        (stream, does_fit-true taken w stream parts.0 parts.1 parts.2),
        subst (AllHave 0 gf256_product k m taken w t) both.1 (is_only-true taken w t (block_at stream t) both.0),
      )

  pub only_block-some : (taken : List (Taken ℕ)) (w t : ℕ) (b : List (List ℕ)) → only_block k m taken w t ≡ Some b → IsConsistent 0 gf256_product k m taken w × AllHave 0 gf256_product k m taken w t b
  unfolding only_block
  only_block-some taken w t b is = only-some_by taken w t b (first_stream k m w (does_fit k m taken w)) refl is

  only-there_by : (taken : List (Taken ℕ)) (w t : ℕ) (b : List (List ℕ)) (found : Option (List (List (List ℕ)))) → first_stream k m w (does_fit k m taken w) ≡ found
      → IsConsistent 0 gf256_product k m taken w → AllHave 0 gf256_product k m taken w t b → only_block_in k m taken w t found ≡ Some b
  only-there_by taken w t b None is some all =
      absurd (both_ways (does_fit k m taken w some.0) (first_stream-none k m w (does_fit k m taken w) is some.0 some.1.is_stream some.1.count) (does_fit-is taken w some.0 some.1))
  only-there_by taken w t b (Some stream) is some all =
      let parts = first_stream-some k m w (does_fit k m taken w) stream is in
      let same = all stream (does_fit-true taken w stream parts.0 parts.1 parts.2) in
      let only = is_only-is taken w t (block_at stream t) (subst (AllHave 0 gf256_product k m taken w t) (sym same) all) in
      cond-true (is_only k m taken w t (block_at stream t)) (Some (block_at stream t)) None only ∙ ap Some same

  pub only_block-there : (taken : List (Taken ℕ)) (w t : ℕ) (b : List (List ℕ)) → IsConsistent 0 gf256_product k m taken w → AllHave 0 gf256_product k m taken w t b → only_block k m taken w t ≡ Some b
  unfolding only_block
  only_block-there taken w t b some all = only-there_by taken w t b (first_stream k m w (does_fit k m taken w)) refl some all

  pub only_block-none : (taken : List (Taken ℕ)) (w t : ℕ) → only_block k m taken w t ≡ None → IsConsistent 0 gf256_product k m taken w → (b : List (List ℕ)) → AllHave 0 gf256_product k m taken w t b → ⊥
  only_block-none taken w t none some b all = none-some b (sym none ∙ only_block-there taken w t b some all)

  -- where no block is the only one there is none
  pub only_block-lacks : (taken : List (Taken ℕ)) (w t : ℕ) → ((b : List (List ℕ)) → AllHave 0 gf256_product k m taken w t b → ⊥) → only_block k m taken w t ≡ None
  only_block-lacks taken w t not_one = none-by (only_block k m taken w t) (λ b is. not_one b (only_block-some taken w t b is).1)

-- ---- the values from the front on

module _ {X : Type 0} where
  while_there-le : (xs : List (Option X)) → length (while_there xs) ≤ length xs
  while_there-le [] = omega arith
  while_there-le (None ∷ xs) = omega arith
  while_there-le (Some x ∷ xs) = let le = while_there-le xs in omega arith

  while_there-at : (xs : List (Option X)) (i : ℕ) (d : X) (e : Option X) → i < length (while_there xs) → get_or xs i e ≡ Some (get_or (while_there xs) i d)
  while_there-at [] i d e lt = absurd (omega arith)
  while_there-at (None ∷ xs) i d e lt = absurd (omega arith)
  while_there-at (Some x ∷ xs) naught d e lt = refl
  while_there-at (Some x ∷ xs) (suc i) d e lt = while_there-at xs i d e (omega arith)

  while_there-stops : (xs : List (Option X)) (e : Option X) → length (while_there xs) < length xs → get_or xs (length (while_there xs)) e ≡ None
  while_there-stops [] e lt = absurd (omega arith)
  while_there-stops (None ∷ xs) e lt = refl
  while_there-stops (Some x ∷ xs) e lt = while_there-stops xs e (omega arith)

  while_there-is : (xs : List (Option X)) (values : List X) (d : X) (e : Option X) → length values ≤ length xs → ((i : ℕ) → i < length values → get_or xs i e ≡ Some (get_or values i d))
      → (length values < length xs → get_or xs (length values) e ≡ None) → while_there xs ≡ values
  while_there-is [] [] d e le each stops = refl
  while_there-is [] (v ∷ values) d e le each stops = absurd (omega arith)
  while_there-is (None ∷ xs) [] d e le each stops = refl
  while_there-is (None ∷ xs) (v ∷ values) d e le each stops = absurd (none-some v (each 0 (omega arith)))
  while_there-is (Some x ∷ xs) [] d e le each stops = absurd (none-some x (sym (stops (omega arith))))
  while_there-is (Some x ∷ xs) (v ∷ values) d e le each stops =
      ap₂ (λ y ys. y ∷ ys) (same_Some x v (each 0 (omega arith))) (while_there-is xs values d e (omega arith) (λ i lt. each (suc i) (omega arith)) (λ lt. stops (omega arith)))

  -- a list that has another at its front
  pub begins : (d : X) (xs ys : List X) → length xs ≤ length ys → ((i : ℕ) → i < length xs → get_or xs i d ≡ get_or ys i d) → ys ≡ xs ++ drop (length xs) ys
  begins d [] ys le each = refl
  begins d (x ∷ xs) [] le each = absurd (omega arith)
  begins d (x ∷ xs) (y ∷ ys) le each = ap₂ (λ z zs. z ∷ zs) (sym (each 0 (omega arith))) (begins d xs ys (omega arith) (λ i lt. each (suc i) (omega arith)))

module _ (k m deadline : ℕ) where
  -- ---- how a slot is settled

  abbrev Settled : List (Taken ℕ) → ℕ → ℕ → Option (List (List ℕ)) → Type 0
  Settled taken w t x = IsSettled 0 gf256_product k m deadline taken w t x

  -- the slots below the last that is looked at are consistent
  consistent_by : (taken : List (Taken ℕ)) (w n : ℕ) → HasNoClash 0 gf256_product k m taken w → n ≤ w → IsConsistent 0 gf256_product k m taken n
  consistent_by taken w n none le = IsConsistent-shorter 0 gf256_product k m taken n w le ((HasNoClash-iff_consistent 0 gf256_product k m taken w).0 none)

  settled_by-some : (taken : List (Taken ℕ)) (w t : ℕ) (x : Option (List (List ℕ))) (over : Bool) (o : Option (List (List ℕ))) → nat_lt (t + deadline) w ≡ over
      → only_block k m taken (min w (t + deadline + 1)) t ≡ o → HasNoClash 0 gf256_product k m taken w → t < w → settled_by over o ≡ Some x → Settled taken w t x
  settled_by-some taken w t x over (Some b) over_is is none lt h =
      subst (Settled taken w t) (same_Some (Some b) x h) (record {
        is_passed = lt;
        no_clash = none;
        all_have = (only_block-some k m taken (min w (t + deadline + 1)) t b is).1;
      })
  settled_by-some taken w t x true None over_is is none lt h =
      subst (Settled taken w t) (same_Some None x h) (record {
        is_over = ltb-true (t + deadline) w over_is;
        no_clash = none;
        not_one = only_block-none k m taken (min w (t + deadline + 1)) t is (consistent_by taken w (min w (t + deadline + 1)) none (omega arith));
      })
  settled_by-some taken w t x false None over_is is none lt h = absurd (none-some x h)

  pub value_at-settled : (taken : List (Taken ℕ)) (w t : ℕ) (x : Option (List (List ℕ))) → HasNoClash 0 gf256_product k m taken w → t < w → value_at k m deadline taken w t ≡ Some x
      → IsSettled 0 gf256_product k m deadline taken w t x
  value_at-settled taken w t x none lt h =
      settled_by-some taken w t x (nat_lt (t + deadline) w) (only_block k m taken (min w (t + deadline + 1)) t) refl refl none lt h

  pub value_at-there : (taken : List (Taken ℕ)) (w t : ℕ) (x : Option (List (List ℕ))) → IsSettled 0 gf256_product k m deadline taken w t x → t < w → value_at k m deadline taken w t ≡ Some x
  value_at-there taken w t (Some b) h lt =
      ap (settled_by (nat_lt (t + deadline) w)) (only_block-there k m taken (min w (t + deadline + 1)) t b (consistent_by taken w (min w (t + deadline + 1)) h.no_clash (omega arith)) h.all_have)
  value_at-there taken w t None h lt =
      ap₂ settled_by (lt-ltb (t + deadline) w h.is_over) (only_block-lacks k m taken (min w (t + deadline + 1)) t h.not_one)

  pub value_at-none : (taken : List (Taken ℕ)) (w t : ℕ) → value_at k m deadline taken w t ≡ None → HasNoClash 0 gf256_product k m taken w → t < w
      → (x : Option (List (List ℕ))) → IsSettled 0 gf256_product k m deadline taken w t x → ⊥
  value_at-none taken w t is none lt x h = none-some x (sym is ∙ value_at-there taken w t x h lt)

  -- ---- the slots that are put out

  listed : (taken : List (Taken ℕ)) (w i : ℕ) → i < w → get_or (map (value_at k m deadline taken w) (range_with_len 0 w)) i None ≡ value_at k m deadline taken w i
  listed taken w i lt = get_or-map-range_with_len (value_at k m deadline taken w) 0 w i i None lt (omega arith)

  pub put_values-le : (taken : List (Taken ℕ)) (w : ℕ) → length (put_values k m deadline taken w) ≤ w
  unfolding put_values
  put_values-le taken w =
      let le = while_there-le (map (value_at k m deadline taken w) (range_with_len 0 w)) in
      let n = length-map-range_with_len (value_at k m deadline taken w) 0 w in
      omega arith

  put_values-at_by : (taken : List (Taken ℕ)) (w i : ℕ) → i < length (put_values k m deadline taken w)
      → get_or (map (value_at k m deadline taken w) (range_with_len 0 w)) i None ≡ Some (get_or (put_values k m deadline taken w) i None)
  unfolding put_values
  put_values-at_by taken w i lt = while_there-at (map (value_at k m deadline taken w) (range_with_len 0 w)) i None None lt

  pub put_values-at : (taken : List (Taken ℕ)) (w i : ℕ) → i < length (put_values k m deadline taken w) → value_at k m deadline taken w i ≡ Some (get_or (put_values k m deadline taken w) i None)
  put_values-at taken w i lt = let le = put_values-le taken w in sym (listed taken w i (omega arith)) ∙ put_values-at_by taken w i lt

  put_values-stops_by : (taken : List (Taken ℕ)) (w : ℕ) → length (put_values k m deadline taken w) < w
      → get_or (map (value_at k m deadline taken w) (range_with_len 0 w)) (length (put_values k m deadline taken w)) None ≡ None
  unfolding put_values
  put_values-stops_by taken w lt =
      let n = length-map-range_with_len (value_at k m deadline taken w) 0 w in
      while_there-stops (map (value_at k m deadline taken w) (range_with_len 0 w)) None (omega arith)

  pub put_values-stops : (taken : List (Taken ℕ)) (w : ℕ) → length (put_values k m deadline taken w) < w → value_at k m deadline taken w (length (put_values k m deadline taken w)) ≡ None
  put_values-stops taken w lt = sym (listed taken w (length (put_values k m deadline taken w)) lt) ∙ put_values-stops_by taken w lt

  -- what a list of values is to satisfy
  pub put_values-is : (taken : List (Taken ℕ)) (w : ℕ) (values : List (Option (List (List ℕ)))) → length values ≤ w
      → ((i : ℕ) → i < length values → value_at k m deadline taken w i ≡ Some (get_or values i None))
      → (length values < w → value_at k m deadline taken w (length values) ≡ None) → put_values k m deadline taken w ≡ values
  unfolding put_values
  put_values-is taken w values le each stops =
      let n = length-map-range_with_len (value_at k m deadline taken w) 0 w in
      while_there-is (map (value_at k m deadline taken w) (range_with_len 0 w)) values None None (omega arith)
      (λ i lt. listed taken w i (omega arith) ∙ each i lt)
      (λ lt. listed taken w (length values) (omega arith) ∙ stops (omega arith))

  pub put_values-one : (taken : List (Taken ℕ)) (w t : ℕ) → HasNoClash 0 gf256_product k m taken w → t < length (put_values k m deadline taken w)
      → IsSettled 0 gf256_product k m deadline taken w t (get_or (put_values k m deadline taken w) t None)
  put_values-one taken w t none lt =
      let le = put_values-le taken w in
      value_at-settled taken w t (get_or (put_values k m deadline taken w) t None) none (omega arith) (put_values-at taken w t lt)

  pub put_values-put : (taken : List (Taken ℕ)) (w : ℕ) → HasNoClash 0 gf256_product k m taken w → IsPut 0 gf256_product k m deadline taken w (length (put_values k m deadline taken w))
  put_values-put taken w none =
      record {
        in_range = put_values-le taken w;
        below = λ t lt. (get_or (put_values k m deadline taken w) t None, put_values-one taken w t none lt);
        greatest = λ lt. value_at-none taken w (length (put_values k m deadline taken w)) (put_values-stops taken w lt) none lt;
      }

  pub put_values-settled : (taken : List (Taken ℕ)) (w : ℕ) → HasNoClash 0 gf256_product k m taken w
      → AreSettled 0 gf256_product k m deadline taken w (length (put_values k m deadline taken w)) (put_values k m deadline taken w)
  put_values-settled taken w none = record { count = refl; each = λ t lt. put_values-one taken w t none lt }

  pub put_values-unique : (taken : List (Taken ℕ)) (w p : ℕ) (values : List (Option (List (List ℕ)))) → IsPut 0 gf256_product k m deadline taken w p
      → AreSettled 0 gf256_product k m deadline taken w p values → HasNoClash 0 gf256_product k m taken w → put_values k m deadline taken w ≡ values
  put_values-unique taken w p values put settled none =
      let n : length values ≡ p = settled.count in
      let within : p ≤ w = put.in_range in
      put_values-is taken w values (omega arith)
      (λ i lt. value_at-there taken w i (get_or values i None) (settled.each i (omega arith)) (omega arith))
      (λ lt. none-by (value_at k m deadline taken w (length values)) (λ x is.
      put.greatest (omega arith) x (subst (λ (t : ℕ). IsSettled 0 gf256_product k m deadline taken w t x) n (value_at-settled taken w (length values) x none lt is))))

  -- once more slots are passed, more values follow
  pub put_values-grow : (taken : List (Taken ℕ)) (v w : ℕ) → v ≤ w → HasNoClash 0 gf256_product k m taken w
      → (rest : List (Option (List (List ℕ)))) × (put_values k m deadline taken w ≡ put_values k m deadline taken v ++ rest)
  put_values-grow taken v w le none =
      let earlier = HasNoClash-earlier 0 gf256_product k m taken v w le none in
      let a = put_values k m deadline taken v in
      let b = put_values k m deadline taken w in
      let more : length a ≤ length b =
      IsPut-monotone 0 gf256_product k m deadline taken v w (length a) (length b) le none (put_values-put taken v earlier) (put_values-put taken w none) in (
        drop (length a) b,
        begins None a b more (λ i lt. IsSettled-unique 0 gf256_product k m deadline taken w i (get_or a i None) (get_or b i None)
            (IsSettled-stays 0 gf256_product k m deadline taken v w i (get_or a i None) le none (put_values-one taken v i earlier lt))
            (put_values-one taken w i none (omega arith))),
      )

  -- slots that are taken from w on change none of them
  pub put_values-later : (taken more : List (Taken ℕ)) (w : ℕ) → AllFrom more w → HasNoClash 0 gf256_product k m taken w → put_values k m deadline (taken ++ more) w ≡ put_values k m deadline taken w
  put_values-later taken more w from none =
      let p = length (put_values k m deadline taken w) in
      let values = put_values k m deadline taken w in
      put_values-unique (taken ++ more) w p values
      ((IsPut-later 0 gf256_product k m deadline taken more w p from).1 (put_values-put taken w none))
      (record {
        count = refl;
        each = λ t lt. (IsSettled-later 0 gf256_product k m deadline taken more w t (get_or values t None) from).1 (put_values-one taken w t none lt);
      })
      ((HasNoClash-later 0 gf256_product k m taken more w from).1 none)

  -- ---- outcomes

  pub outcomes-length : (taken : List (Taken ℕ)) (n : ℕ) → length (outcomes k m deadline taken n) ≡ n
  unfolding outcomes
  outcomes-length taken n = length-map-range_with_len (outcome_at k m deadline taken) 0 n

  pub outcomes-at : (taken : List (Taken ℕ)) (n t : ℕ) → t < n → get_or (outcomes k m deadline taken n) t None ≡ outcome_at k m deadline taken t
  unfolding outcomes
  outcomes-at taken n t lt = get_or-map-range_with_len (outcome_at k m deadline taken) 0 n t t None lt (omega arith)

  pub outcomes-take : (taken : List (Taken ℕ)) (v n : ℕ) → v ≤ n → take v (outcomes k m deadline taken n) ≡ outcomes k m deadline taken v
  unfolding outcomes
  outcomes-take taken v n le = take-map-range_with_len (outcome_at k m deadline taken) 0 n v le

  outcome_by : (taken : List (Taken ℕ)) (t : ℕ) (o : Option (List (List ℕ))) → only_block k m taken (t + deadline + 1) t ≡ o → IsOutcome 0 gf256_product k m deadline taken t o
  outcome_by taken t (Some b) is =
      let both = only_block-some k m taken (t + deadline + 1) t b is in
      record { consistent = both.0; all_have = both.1 }
  outcome_by taken t None is = λ b r. only_block-none k m taken (t + deadline + 1) t is r.consistent b r.all_have

  pub outcome_at-is : (taken : List (Taken ℕ)) (t : ℕ) → IsOutcome 0 gf256_product k m deadline taken t (outcome_at k m deadline taken t)
  outcome_at-is taken t = outcome_by taken t (only_block k m taken (t + deadline + 1) t) refl

  pub outcome_at-there : (taken : List (Taken ℕ)) (t : ℕ) (x : Option (List (List ℕ))) → IsOutcome 0 gf256_product k m deadline taken t x → outcome_at k m deadline taken t ≡ x
  outcome_at-there taken t x h = IsOutcome-unique 0 gf256_product k m deadline taken t (outcome_at k m deadline taken t) x (outcome_at-is taken t) h

  pub outcomes-are : (taken : List (Taken ℕ)) (n : ℕ) → AreOutcomes 0 gf256_product k m deadline taken n (outcomes k m deadline taken n)
  outcomes-are taken n =
      record {
        count = outcomes-length taken n;
        each = λ t lt. subst (IsOutcome 0 gf256_product k m deadline taken t) (sym (outcomes-at taken n t lt)) (outcome_at-is taken t);
      }

  -- where all that is taken is below w, there is no clash anywhere
  pub no_clash_at_end : (taken : List (Taken ℕ)) (w n : ℕ) → AllBelow taken w → HasNoClash 0 gf256_product k m taken w → HasNoClash 0 gf256_product k m taken n
  no_clash_at_end taken w n below none =
      elim (cases_lt n w) [
        | inl earlier ↦ HasNoClash-earlier 0 gf256_product k m taken n w (omega arith) none
        | inr later ↦ (HasNoClash-iff_consistent 0 gf256_product k m taken n).1
            (IsConsistent-longer 0 gf256_product k m taken w n below later ((HasNoClash-iff_consistent 0 gf256_product k m taken w).0 none))
      ]

  -- at the end of the input what was put out is the front of what is left
  pub outcomes-begin : (taken : List (Taken ℕ)) (w : ℕ) → AllBelow taken w → HasNoClash 0 gf256_product k m taken w
      → (rest : List (Option (List (List ℕ)))) × (outcomes k m deadline taken w ≡ put_values k m deadline taken w ++ rest)
  outcomes-begin taken w below none =
      let a = put_values k m deadline taken w in
      let le : length a ≤ w = put_values-le taken w in
      let n = outcomes-length taken w in (
        drop (length a) (outcomes k m deadline taken w),
        begins None a (outcomes k m deadline taken w) (omega arith) (λ t lt.
            sym (outcomes-at taken w t (omega arith)
            ∙ outcome_at-there taken t (get_or a t None)
            (IsOutcome-from_settled 0 gf256_product k m deadline taken w t (get_or a t None) (no_clash_at_end taken w (t + deadline + 1) below none) (put_values-one taken w t none lt)))),
      )
