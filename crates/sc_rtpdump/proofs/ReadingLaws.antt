-- The reading of bytes is the one that the grammar gives.
use Rattle.std.proofs.Common.{◌≡◌, ◌≢◌, ℕ, zero, suc, ◌+◌, ◌^◌, ◌<◌, ◌≤◌, ◌==◌, ◌&&◌, ◌↔◌, Bool, true, false, cond, nat_le, bytes_eq, Option, Some, None, List, [], ◌∷◌, ◌++◌, length, take, drop, refl, sym, ap, ◌∙◌, subst, arith, append-nil, append_assoc, length-append, length-take, length-drop, take-append-drop}
use Rattle.std.proofs.lemmas.Bool.{ltb-false, leb-true, eqb-true, eq-eqb, and_parts}
use Rattle.std.proofs.lemmas.Slice.Eq.{bytes_eq-Decides}
use Rattle.std.proofs.Math.Seq.{take-append-add}
use Rattle.std.specs.Int.{w16, w32, from_be_bytes}
use Rattle.std.specs.List.{AllByRecursion}
use Rattle.std.specs.Option.{option_map}
use Rattle.sc_rtpdump.specs.Record.{Record, IsRecord, record_bytes, head_bytes, length_field, record_at, Front, ends, breaks, starts, front_of}
use Rattle.sc_rtpdump.specs.Preamble.{magic, IsPreamble, newline_at, len_with, preamble_len, IsOneLine}
use Rattle.sc_rtpdump.specs.Capture.{records_bytes, IsCapture, Parts, with_first, parts_within, parts_of, no_preamble, reads, reading_with, reading_of, IsReading, AreBytes, BeginsOtherwise}
use Rattle.sc_rtpdump.proofs.CaptureLaws.{with_all, after_front, parts_of-along, reading_of-preamble, reading_of-none, front_of-end, front_of-record, length-record_bytes, chosen, front_of-is}
use Rattle.sc_rtpdump.proofs.HeadLaws.{head_bytes-from}

-- whole records before a tail that begins with none are all the parts
with_all-tail : (es : List Record) (tail : List ℕ) → with_all es (record { records = []; tail = tail }) ≡ record { records = es; tail = tail }
with_all-tail [] tail = refl
with_all-tail (e ∷ es) tail = ap (with_first e) (with_all-tail es tail)

after_none : (m : ℕ) (bytes : List ℕ) (front : Front) → ((e : Record) (rest : List ℕ) → front ≡ starts e rest → ⊥) → after_front m bytes front ≡ record { records = []; tail = bytes }
after_none m bytes ends h = refl
after_none m bytes (breaks break) h = refl
after_none m bytes (starts e rest) h = absurd (h e rest refl)

tail_only : (m : ℕ) (tail : List ℕ) → ((e : Record) (rest : List ℕ) → front_of tail ≡ starts e rest → ⊥) → parts_within m tail ≡ record { records = []; tail = tail }
tail_only zero tail h = refl
tail_only (suc m) tail h = after_none m tail (front_of tail) h

pub reading_of-only : (bytes preamble : List ℕ) (parts : Parts) → IsReading bytes preamble parts → reading_of bytes ≡ reads preamble parts
reading_of-only bytes preamble parts h =
    let es = parts.records in
    let tail = parts.tail in
    let along = parts_of-along es tail h.records_are in
    ap reading_of h.spelled
    ∙ reading_of-preamble preamble (records_bytes es ++ tail) h.preamble_is
    ∙ ap (reads preamble) (along.2 ∙ ap (with_all es) (tail_only along.0 tail h.ended) ∙ with_all-tail es tail)

empty_ends : (e : Record) (rest : List ℕ) → front_of [] ≡ starts e rest → ⊥
empty_ends e rest h = let same : ends ≡ starts e rest = sym (front_of-end [] refl) ∙ h in cc

-- a capture is read as its preamble and its records, with nothing behind them
pub reading_of-capture : (bytes preamble : List ℕ) (records : List Record) → IsCapture bytes preamble records
    → reading_of bytes ≡ reads preamble (record { records = records; tail = [] })
reading_of-capture bytes preamble records h =
    reading_of-only bytes preamble (record { records = records; tail = [] }) (
    record {
      preamble_is = h.preamble_is;
      records_are = h.records_are;
      spelled = h.parts ∙ ap (λ l. preamble ++ l) (sym (append-nil (records_bytes records)));
      ended = empty_ends;
    }
    )

-- where bytes begin with a preamble, they are read with one
none_front : (bytes : List ℕ) → reading_of bytes ≡ no_preamble → BeginsOtherwise bytes
none_front bytes h preamble rest is e =
    let same : no_preamble ≡ reads preamble (parts_of rest) = sym h ∙ ap reading_of e ∙ reading_of-preamble preamble rest is in
    cc

-- the first newline, with what is before and behind it
record AtNewline (xs : List ℕ) (p : ℕ) : Type 0 where
  line : List ℕ
  rest : List ℕ
  parts : xs ≡ line ++ 10 ∷ rest
  one_line : IsOneLine line
  size : length line ≡ p

newline_later : (b : ℕ) (xs : List ℕ) (p : ℕ) (place : Option ℕ) → b ≢ 10 → newline_at xs ≡ place → option_map suc place ≡ Some p
    → ((q : ℕ) → newline_at xs ≡ Some q → AtNewline xs q) → AtNewline (b ∷ xs) p
newline_later b xs p None other at e found = absurd (cc)
newline_later b xs p (Some q) other at e found =
    let more = found q at in
    record {
      line = b ∷ more.line;
      rest = more.rest;
      parts = ap (λ l. b ∷ l) more.parts;
      one_line = (other, more.one_line);
      size = ap suc more.size ∙ (cc);
    }

newline_here : (t : Bool) (b : ℕ) (xs : List ℕ) (p : ℕ) → (b == 10) ≡ t → cond t (Some 0) (option_map suc (newline_at xs)) ≡ Some p
    → ((q : ℕ) → newline_at xs ≡ Some q → AtNewline xs q) → AtNewline (b ∷ xs) p
newline_here true b xs p test e found = record {
  line = [];
  rest = xs;
  parts = ap (λ n. n ∷ xs) (eqb-true b 10 test);
  one_line = tt;
  size = (cc);
}
newline_here false b xs p test e found = newline_later b xs p (newline_at xs) (λ same. let yes : (b == 10) ≡ true = eq-eqb b 10 same in cc) refl e found

newline_found : (xs : List ℕ) (p : ℕ) → newline_at xs ≡ Some p → AtNewline xs p
newline_found [] p e = absurd (cc)
newline_found (b ∷ xs) p e = newline_here (b == 10) b xs p refl e (newline_found xs)

-- what the length of a preamble tells
record Counted (place : Option ℕ) (size n : ℕ) : Type 0 where
  at : ℕ
  is : place ≡ Some at
  short : 14 + at ≤ 4096
  whole : 30 + at ≤ size
  count : n ≡ 30 + at

counted_at : (a b : Bool) (k n : ℕ) → cond (a && b) (Some k) None ≡ Some n → ((a && b) ≡ true) × (n ≡ k)
counted_at true true k n e = (refl, cc)
counted_at true false k n e = absurd (cc)
counted_at false b k n e = absurd (cc)

counted : (place : Option ℕ) (size n : ℕ) → len_with place size ≡ Some n → Counted place size n
counted None size n e = absurd (cc)
counted (Some p) size n e =
    let both = counted_at (nat_le (14 + p) 4096) (nat_le (30 + p) size) (30 + p) n e in
    let tests = and_parts _ _ both.0 in
    record {
      at = p;
      is = refl;
      short = leb-true (14 + p) 4096 tests.0;
      whole = leb-true (30 + p) size tests.1;
      count = both.1;
    }

begins : (t : Bool) (place : Option ℕ) (size n : ℕ) → cond t (len_with place size) None ≡ Some n → (t ≡ true) × Counted place size n
begins true place size n e = (refl, counted place size n e)
begins false place size n e = absurd (cc)

front_parts : (bytes : List ℕ) (n : ℕ) → take 13 bytes ≡ magic → Counted (newline_at (drop 13 bytes)) (length bytes) n → IsPreamble (take n bytes)
front_parts bytes n begin c =
    let p = c.at in
    let found = newline_found (drop 13 bytes) p c.is in
    let line = found.line in
    let rest = found.rest in
    let first = magic ++ (line ++ 10 ∷ []) in
    let whole : bytes ≡ first ++ rest =
    sym (take-append-drop 13 bytes)
    ∙ ap (λ l. l ++ drop 13 bytes) begin
    ∙ ap (λ l. magic ++ l) (found.parts ∙ sym (append_assoc line (10 ∷ []) rest))
    ∙ sym (append_assoc magic (line ++ 10 ∷ []) rest) in
    let size : length first ≡ 14 + p = length-append magic (line ++ 10 ∷ []) ∙ omega (arith, length-append line (10 ∷ []), found.size) in
    let all : length bytes ≡ 14 + p + length rest = ap length whole ∙ length-append first rest ∙ ap (λ m. m + length rest) size in
    let many : n ≡ length first + 16 = omega (arith, size, c.count) in
    record {
      line = line;
      fields = take 16 rest;
      parts = ap (λ l. take n l) whole ∙ ap (λ m. take m (first ++ rest)) many ∙ take-append-add first rest 16
          ∙ append_assoc magic (line ++ 10 ∷ []) (take 16 rest) ∙ ap (λ l. magic ++ l) (append_assoc line (10 ∷ []) (take 16 rest));
      one_line = found.one_line;
      short_line = omega (arith, found.size, c.short);
      all_fields = length-take 16 rest ∙ omega (arith, all, c.whole);
    }

-- the length of a preamble is that of one that is there
pub preamble_front : (bytes : List ℕ) (n : ℕ) → preamble_len bytes ≡ Some n → IsPreamble (take n bytes)
unfolding preamble_len
preamble_front bytes n e =
    let h = begins (bytes_eq (take 13 bytes) magic) (newline_at (drop 13 bytes)) (length bytes) n e in
    front_parts bytes n ((bytes_eq-Decides (take 13 bytes) magic).0 h.0) h.1

none_by : (bytes : List ℕ) (place : Option ℕ) → preamble_len bytes ≡ place → BeginsOtherwise bytes → reading_of bytes ≡ no_preamble
none_by bytes None e h = reading_of-none bytes e
none_by bytes (Some n) e h = absurd (h (take n bytes) (drop n bytes) (preamble_front bytes n e) (sym (take-append-drop n bytes)))

pub reading_of-otherwise : (bytes : List ℕ) → (reading_of bytes ≡ no_preamble) ↔ BeginsOtherwise bytes
reading_of-otherwise bytes = (none_front bytes, none_by bytes (preamble_len bytes) refl)

-- bytes of which each is below 256, before and behind others
fits_front : (xs ys : List ℕ) → AreBytes (xs ++ ys) → AreBytes xs
fits_front [] ys f zero = omega arith
fits_front [] ys f (suc i) = omega arith
fits_front (x ∷ xs) ys f zero = f 0
fits_front (x ∷ xs) ys f (suc i) = fits_front xs ys (λ k. f (suc k)) i

fits_back : (xs ys : List ℕ) → AreBytes (xs ++ ys) → AreBytes ys
fits_back [] ys f i = f i
fits_back (x ∷ xs) ys f i = fits_back xs ys (λ k. f (suc k)) i

two_below : (a b : ℕ) → a < 256 → b < 256 → from_be_bytes w16 (a ∷ b ∷ []) < 2 ^ 16
two_below a b f g = omega arith

four_below : (a b c d : ℕ) → a < 256 → b < 256 → c < 256 → d < 256 → from_be_bytes w32 (a ∷ b ∷ c ∷ d ∷ []) < 2 ^ 32
four_below a b c d f g h k = omega arith

-- eight bytes and more, in the three fields and the others
record HasHead (bs : List ℕ) : Type 0 where
  field : length_field bs < 2 ^ 16
  plen : from_be_bytes w16 (take 2 (drop 2 bs)) < 2 ^ 16
  offset : from_be_bytes w32 (take 4 (drop 4 bs)) < 2 ^ 32
  spelled : bs ≡ head_bytes (length_field bs) (from_be_bytes w16 (take 2 (drop 2 bs))) (from_be_bytes w32 (take 4 (drop 4 bs))) ++ drop 8 bs

head_there : (bs : List ℕ) → 8 ≤ length bs → AreBytes bs → HasHead bs
unfolding length_field
head_there (a ∷ b ∷ c ∷ d ∷ e ∷ f ∷ g ∷ h ∷ xs) size fits =
    let front : List ℕ = a ∷ b ∷ c ∷ d ∷ e ∷ f ∷ g ∷ h ∷ [] in
    record {
      field = two_below a b (fits 0) (fits 1);
      plen = two_below c d (fits 2) (fits 3);
      offset = four_below e f g h (fits 4) (fits 5) (fits 6) (fits 7);
      spelled = ap (λ l. l ++ xs) (head_bytes-from front _ _ _ refl (fits_front front xs fits) refl refl refl);
    }
head_there (a ∷ b ∷ c ∷ d ∷ e ∷ f ∷ g ∷ []) size fits = absurd (omega arith)
head_there (a ∷ b ∷ c ∷ d ∷ e ∷ f ∷ []) size fits = absurd (omega arith)
head_there (a ∷ b ∷ c ∷ d ∷ e ∷ []) size fits = absurd (omega arith)
head_there (a ∷ b ∷ c ∷ d ∷ []) size fits = absurd (omega arith)
head_there (a ∷ b ∷ c ∷ []) size fits = absurd (omega arith)
head_there (a ∷ b ∷ []) size fits = absurd (omega arith)
head_there (a ∷ []) size fits = absurd (omega arith)
head_there [] size fits = absurd (omega arith)

-- what stands between two places, and what follows it
between : (m n : ℕ) (xs : List ℕ) → m ≤ n → drop m (take n xs) ++ drop n xs ≡ drop m xs
between zero n xs h = take-append-drop n xs
between (suc m) zero xs h = absurd (omega arith)
between (suc m) (suc n) [] h = refl
between (suc m) (suc n) (x ∷ xs) h = between m n xs (omega arith)

-- as many bytes as the length says are a record
record_there : (bytes : List ℕ) → AreBytes bytes → 8 ≤ length bytes → 8 ≤ length_field bytes → length_field bytes ≤ length bytes
    → IsRecord (record_at bytes) × (bytes ≡ record_bytes (record_at bytes) ++ drop (length_field bytes) bytes)
unfolding record_bytes
record_there bytes fits eight least within =
    let len = length_field bytes in
    let e = record_at bytes in
    let head = head_there bytes eight fits in
    let count : 8 + length e.body ≡ length_field bytes = omega (arith, length-drop 8 (take len bytes), length-take len bytes, least, within) in (
      record { plen = head.plen; offset = head.offset; body = omega (arith, count, head.field) },
      head.spelled
          ∙ ap (λ l. head_bytes len e.plen e.offset ++ l) (sym (between 8 len bytes least))
          ∙ ap (λ n. head_bytes n e.plen e.offset ++ (e.body ++ drop len bytes)) (sym count)
          ∙ sym (append_assoc (head_bytes (8 + length e.body) e.plen e.offset) e.body (drop len bytes)),
    )

pub chosen-starts : (a b c d : Bool) (x e : Record) (y r : List ℕ) → chosen a b c d x y ≡ starts e r → (b ≡ false) × (c ≡ false) × (d ≡ false) × (x ≡ e) × (y ≡ r)
chosen-starts true b c d x e y r h = absurd (cc)
chosen-starts false true c d x e y r h = absurd (cc)
chosen-starts false false true d x e y r h = absurd (cc)
chosen-starts false false false true x e y r h = absurd (cc)
chosen-starts false false false false x e y r h = (refl, refl, refl, cc, cc)

-- a record that is found is there
front_sound : (bytes : List ℕ) (e : Record) (rest : List ℕ) → AreBytes bytes → front_of bytes ≡ starts e rest → IsRecord e × (bytes ≡ record_bytes e ++ rest)
front_sound bytes e rest fits h =
    let len = length_field bytes in
    let found = chosen-starts _ _ _ _ (record_at bytes) e (drop len bytes) rest (sym (front_of-is bytes) ∙ h) in
    let there = record_there bytes fits (ltb-false _ _ found.0) (ltb-false _ _ found.1) (ltb-false _ _ found.2) in
    (subst IsRecord found.3 there.0, there.1 ∙ ap (λ x. record_bytes x ++ drop len bytes) found.3 ∙ ap (λ l. record_bytes e ++ l) found.4)

pub front_of-exact : (bytes : List ℕ) (e : Record) (rest : List ℕ) → AreBytes bytes → (front_of bytes ≡ starts e rest) ↔ (IsRecord e × (bytes ≡ record_bytes e ++ rest))
front_of-exact bytes e rest fits = (front_sound bytes e rest fits, λ h. ap front_of h.1 ∙ front_of-record e rest h.0)

-- the whole records at the front of bytes, and a tail that begins with none
record IsParts (bytes : List ℕ) (parts : Parts) : Type 0 where
  records_are : AllByRecursion IsRecord parts.records
  spelled : bytes ≡ records_bytes parts.records ++ parts.tail
  ended : (e : Record) (rest : List ℕ) → front_of parts.tail ≡ starts e rest → ⊥

parts_ended : (bytes : List ℕ) → ((e : Record) (rest : List ℕ) → front_of bytes ≡ starts e rest → ⊥) → IsParts bytes (record { records = []; tail = bytes })
parts_ended bytes h = record { records_are = tt; spelled = refl; ended = h }

parts_step : (n : ℕ) (bytes : List ℕ) (front : Front) → front_of bytes ≡ front → AreBytes bytes → length bytes ≤ suc n
    → ((rest : List ℕ) → AreBytes rest → length rest ≤ n → IsParts rest (parts_within n rest)) → IsParts bytes (after_front n bytes front)
parts_step n bytes ends at fits room more = parts_ended bytes (λ e rest h. let same : ends ≡ starts e rest = sym at ∙ h in cc)
parts_step n bytes (breaks break) at fits room more = parts_ended bytes (λ e rest h. let same : breaks break ≡ starts e rest = sym at ∙ h in cc)
parts_step n bytes (starts e rest) at fits room more =
    let first = front_sound bytes e rest fits at in
    let less : length rest ≤ n = omega (arith, room, ap length first.1, length-append (record_bytes e) rest, length-record_bytes e) in
    let behind = more rest (fits_back (record_bytes e) rest (subst AreBytes first.1 fits)) less in
    let parts = parts_within n rest in
    record {
      records_are = (first.0, behind.records_are);
      spelled = first.1 ∙ ap (λ l. record_bytes e ++ l) behind.spelled ∙ sym (append_assoc (record_bytes e) (records_bytes parts.records) parts.tail);
      ended = behind.ended;
    }

no_bytes : (bytes : List ℕ) → length bytes ≤ 0 → bytes ≡ []
no_bytes [] h = refl
no_bytes (b ∷ bytes) h = absurd (omega arith)

parts_sound : (n : ℕ) (bytes : List ℕ) → AreBytes bytes → length bytes ≤ n → IsParts bytes (parts_within n bytes)
parts_sound zero bytes fits room = parts_ended bytes (λ e rest h. empty_ends e rest (subst (λ l. front_of l ≡ starts e rest) (no_bytes bytes room) h))
parts_sound (suc n) bytes fits room = parts_step n bytes (front_of bytes) refl fits room (parts_sound n)

parts_of-sound : (bytes : List ℕ) → AreBytes bytes → IsParts bytes (parts_of bytes)
unfolding parts_of
parts_of-sound bytes fits = parts_sound (length bytes) bytes fits (omega arith)

reading_of-some : (bytes : List ℕ) (n : ℕ) → preamble_len bytes ≡ Some n → reading_of bytes ≡ reads (take n bytes) (parts_of (drop n bytes))
unfolding reading_of
reading_of-some bytes n e = ap (λ place. reading_with place bytes) e

sound_by : (bytes preamble : List ℕ) (parts : Parts) (place : Option ℕ) → preamble_len bytes ≡ place → AreBytes bytes → reading_of bytes ≡ reads preamble parts
    → IsReading bytes preamble parts
sound_by bytes preamble parts None e fits h = let same : no_preamble ≡ reads preamble parts = sym (reading_of-none bytes e) ∙ h in absurd (cc)
sound_by bytes preamble parts (Some n) e fits h =
    let front = take n bytes in
    let back = drop n bytes in
    let same : reads (take n bytes) (parts_of (drop n bytes)) ≡ reads preamble parts = sym (reading_of-some bytes n e) ∙ h in
    let first : take n bytes ≡ preamble = cc in
    let behind : parts_of (drop n bytes) ≡ parts = cc in
    let there = subst (IsParts back) behind (parts_of-sound back (fits_back front back (subst AreBytes (sym (take-append-drop n bytes)) fits))) in
    record {
      preamble_is = subst IsPreamble first (preamble_front bytes n e);
      records_are = there.records_are;
      spelled = sym (take-append-drop n bytes) ∙ ap (λ l. l ++ back) first ∙ ap (λ l. preamble ++ l) there.spelled;
      ended = there.ended;
    }

-- what is read is there
pub reading_of-sound : (bytes preamble : List ℕ) (parts : Parts) → AreBytes bytes → reading_of bytes ≡ reads preamble parts → IsReading bytes preamble parts
reading_of-sound bytes preamble parts fits h = sound_by bytes preamble parts (preamble_len bytes) refl fits h
