-- The reading of bytes grows with them: the preamble and the whole records that begin them begin all that goes on with them.
use Rattle.std.proofs.Common.{◌≡◌, ℕ, zero, suc, ◌+◌, ◌<◌, ◌≤◌, ◌==◌, false, Some, List, ◌∷◌, ◌++◌, length, take, drop, refl, sym, ap, ◌∙◌, arith, length-append, length-drop, take-append-drop}
use Rattle.std.proofs.lemmas.List.{take-append-le, drop-append-le}
use Rattle.std.proofs.lemmas.Bool.{ltb-false, le-ltb, false_from_ne_true, eqb-true}
use Rattle.std.specs.Int.{w16, w32, from_be_bytes}
use Rattle.sc_rtpdump.specs.Record.{Record, length_field, record_at, Front, ends, breaks, starts, front_of}
use Rattle.sc_rtpdump.specs.Preamble.{IsPreamble, preamble_len}
use Rattle.sc_rtpdump.specs.Capture.{parts_within, parts_of}
use Rattle.sc_rtpdump.proofs.CaptureLaws.{front_of-is, chosen-last, after_front, length_field-front}
use Rattle.sc_rtpdump.proofs.ReadingLaws.{chosen-starts, preamble_front}

-- what a record at the front tells of its bytes
pub record IsFound (bytes : List ℕ) (e : Record) (rest : List ℕ) : Type 0 where
  pub eight : 8 ≤ length bytes
  pub least : 8 ≤ length_field bytes
  pub within : length_field bytes ≤ length bytes
  pub is : record_at bytes ≡ e
  pub behind : drop (length_field bytes) bytes ≡ rest

pub found : (bytes : List ℕ) (e : Record) (rest : List ℕ) → front_of bytes ≡ starts e rest → IsFound bytes e rest
found bytes e rest h =
    let c = chosen-starts _ _ _ _ (record_at bytes) e (drop (length_field bytes) bytes) rest (sym (front_of-is bytes) ∙ h) in
    record {
      eight = ltb-false _ _ c.0;
      least = ltb-false _ _ c.1;
      within = ltb-false _ _ c.2;
      is = c.3;
      behind = c.4;
    }

not_empty : (n : ℕ) → 0 < n → (n == 0) ≡ false
not_empty n h = false_from_ne_true (n == 0) (λ e. absurd (omega (arith, eqb-true n 0 e)))

-- the record at the front of bytes is at the front of all that goes on with them
same_record_at : (bytes more : List ℕ) → 8 ≤ length bytes → length_field bytes ≤ length bytes → record_at (bytes ++ more) ≡ record_at bytes
same_record_at bytes more eight within =
    let field = length_field-front bytes more (omega arith) in
    let second : take 2 (drop 2 (bytes ++ more)) ≡ take 2 (drop 2 bytes) =
    ap (take 2) (drop-append-le 2 bytes more (omega arith)) ∙ take-append-le 2 (drop 2 bytes) more (omega (arith, length-drop 2 bytes)) in
    let third : take 4 (drop 4 (bytes ++ more)) ≡ take 4 (drop 4 bytes) =
    ap (take 4) (drop-append-le 4 bytes more (omega arith)) ∙ take-append-le 4 (drop 4 bytes) more (omega (arith, length-drop 4 bytes)) in
    let body : drop 8 (take (length_field (bytes ++ more)) (bytes ++ more)) ≡ drop 8 (take (length_field bytes) bytes) =
    ap (λ n. drop 8 (take n (bytes ++ more))) field ∙ ap (drop 8) (take-append-le (length_field bytes) bytes more within) in
    ap (λ l. record { plen = from_be_bytes w16 l; offset = from_be_bytes w32 (take 4 (drop 4 (bytes ++ more))); body = drop 8 (take (length_field (bytes ++ more)) (bytes ++ more)) }) second
    ∙ ap (λ l. record { plen = from_be_bytes w16 (take 2 (drop 2 bytes)); offset = from_be_bytes w32 l; body = drop 8 (take (length_field (bytes ++ more)) (bytes ++ more)) }) third
    ∙ ap (λ l. record { plen = from_be_bytes w16 (take 2 (drop 2 bytes)); offset = from_be_bytes w32 (take 4 (drop 4 bytes)); body = l }) body

front_grows : (bytes more : List ℕ) (e : Record) (rest : List ℕ) → front_of bytes ≡ starts e rest → front_of (bytes ++ more) ≡ starts e (rest ++ more)
front_grows bytes more e rest h =
    let f = found bytes e rest h in
    let all = bytes ++ more in
    let size = length-append bytes more in
    let field = length_field-front bytes more (omega (arith, f.eight)) in
    front_of-is all
    ∙ chosen-last _ _ _ _ (record_at all) e (drop (length_field all) all) (rest ++ more)
    (not_empty (length all) (omega (arith, size, f.eight)))
    (le-ltb (length all) 8 (omega (arith, size, f.eight)))
    (le-ltb (length_field all) 8 (omega (arith, field, f.least)))
    (le-ltb (length all) (length_field all) (omega (arith, size, field, f.within)))
    (same_record_at bytes more f.eight f.within ∙ f.is)
    (ap (λ n. drop n all) field ∙ drop-append-le (length_field bytes) bytes more f.within ∙ ap (λ l. l ++ more) f.behind)

shorter : (bytes : List ℕ) (e : Record) (rest : List ℕ) → front_of bytes ≡ starts e rest → length rest + 8 ≤ length bytes
shorter bytes e rest h =
    let f = found bytes e rest h in
    omega (arith, length-drop (length_field bytes) bytes, ap length f.behind, f.least, f.within)

-- the records that are found first are those of the bytes, and then come others
abbrev pub Goes : ℕ → ℕ → List ℕ → List ℕ → Type 0
Goes n m xs ys = (more : List Record) × ((parts_within m (xs ++ ys)).records ≡ (parts_within n xs).records ++ more)

goes_behind : (n m : ℕ) (xs ys : List ℕ) (e : Record) (rest : List ℕ) → front_of xs ≡ starts e rest → length xs ≤ suc n → length (xs ++ ys) ≤ m
    → ((m : ℕ) (rest : List ℕ) → length rest ≤ n → length (rest ++ ys) ≤ m → Goes n m rest ys)
    → (more : List Record) × ((parts_within m (xs ++ ys)).records ≡ e ∷ (parts_within n rest).records ++ more)
goes_behind n zero xs ys e rest at less room next =
    absurd (omega (arith, shorter xs e rest at, length-append xs ys, room))
goes_behind n (suc m) xs ys e rest at less room next =
    let short = shorter xs e rest at in
    let behind = next m rest (omega arith) (omega (arith, length-append rest ys, length-append xs ys)) in
    (behind.0, ap (λ f. (after_front m (xs ++ ys) f).records) (front_grows xs ys e rest at) ∙ ap (λ l. e ∷ l) behind.1)

goes_by : (n m : ℕ) (xs ys : List ℕ) (front : Front) → front_of xs ≡ front → length xs ≤ suc n → length (xs ++ ys) ≤ m
    → ((m : ℕ) (rest : List ℕ) → length rest ≤ n → length (rest ++ ys) ≤ m → Goes n m rest ys)
    → (more : List Record) × ((parts_within m (xs ++ ys)).records ≡ (after_front n xs front).records ++ more)
goes_by n m xs ys ends at less room next = ((parts_within m (xs ++ ys)).records, refl)
goes_by n m xs ys (breaks break) at less room next = ((parts_within m (xs ++ ys)).records, refl)
goes_by n m xs ys (starts e rest) at less room next = goes_behind n m xs ys e rest at less room next

goes : (n m : ℕ) (xs ys : List ℕ) → length xs ≤ n → length (xs ++ ys) ≤ m → Goes n m xs ys
goes zero m xs ys less room = ((parts_within m (xs ++ ys)).records, refl)
goes (suc n) m xs ys less room = goes_by n m xs ys (front_of xs) refl less room (λ m rest a b. goes n m rest ys a b)

pub parts_of-grows : (xs ys : List ℕ) → (more : List Record) × ((parts_of (xs ++ ys)).records ≡ (parts_of xs).records ++ more)
unfolding parts_of
parts_of-grows xs ys = goes (length xs) (length (xs ++ ys)) xs ys (omega arith) (omega arith)

-- the preamble and the rest of bytes that begin with one
pub record Begins (bytes : List ℕ) : Type 0 where
  pub preamble : List ℕ
  pub rest : List ℕ
  pub is : IsPreamble preamble
  pub parts : bytes ≡ preamble ++ rest

pub begins_with : (bytes : List ℕ) (n : ℕ) → preamble_len bytes ≡ Some n → Begins bytes
begins_with bytes n e = record {
  preamble = take n bytes;
  rest = drop n bytes;
  is = preamble_front bytes n e;
  parts = sym (take-append-drop n bytes);
}
