-- The one reading of bytes: whole records at the front are found, one after the other, and so is what is behind them.
use Rattle.std.proofs.Common.{◌≡◌, ℕ, zero, suc, ◌+◌, ◌<◌, ◌≤◌, ◌==◌, Bool, true, false, cond, nat_lt, None, List, [], ◌∷◌, ◌++◌, length, take, drop, refl, ap, ◌∙◌, arith, append_assoc, length-append, drop_at, take_at}
use Rattle.std.proofs.lemmas.List.{take-append-le}
use Rattle.std.proofs.lemmas.Nat.{from_be_bytes-to_be_bytes_2, from_be_bytes-to_be_bytes_4}
use Rattle.std.proofs.lemmas.Bool.{lt-ltb, le-ltb, false_from_ne_true, eqb-true}
use Rattle.std.proofs.Math.Seq.{take-append-add}
use Rattle.std.specs.Int.{w16, w32, from_be_bytes}
use Rattle.std.specs.List.{AllByRecursion}
use Rattle.sc_rtpdump.specs.Record.{Record, IsRecord, record_bytes, head_bytes, length_field, record_at, short_head, short_length, cut_body, Front, ends, breaks, starts, front_of}
use Rattle.sc_rtpdump.specs.Preamble.{IsPreamble, preamble_len}
use Rattle.sc_rtpdump.specs.Capture.{records_bytes, Parts, with_first, parts_within, parts_of, no_preamble, reads, reading_with, reading_of}
use Rattle.sc_rtpdump.proofs.HeadLaws.{length_field-head}
use Rattle.sc_rtpdump.proofs.PreambleLaws.{preamble_len-is}

-- the length of a record's spelling
pub length-record_bytes : (e : Record) → length (record_bytes e) ≡ 8 + length e.body
unfolding record_bytes
length-record_bytes e = length-append (head_bytes (8 + length e.body) e.plen e.offset) e.body

record_then : (e : Record) (rest : List ℕ) → record_bytes e ++ rest ≡ head_bytes (8 + length e.body) e.plen e.offset ++ (e.body ++ rest)
unfolding record_bytes
record_then e rest = append_assoc (head_bytes (8 + length e.body) e.plen e.offset) e.body rest

field_then : (e : Record) (rest : List ℕ) → IsRecord e → length_field (record_bytes e ++ rest) ≡ 8 + length e.body
field_then e rest h = ap length_field (record_then e rest) ∙ length_field-head (8 + length e.body) e.plen e.offset (e.body ++ rest) (omega (arith, h.body))

not_empty : (n : ℕ) → 0 < n → (n == 0) ≡ false
not_empty n h = false_from_ne_true (n == 0) (λ e. absurd (omega (arith, eqb-true n 0 e)))

-- the four tests of a front
abbrev pub chosen : Bool → Bool → Bool → Bool → Record → List ℕ → Front
chosen a b c d e rest = cond a ends (cond b (breaks short_head) (cond c (breaks short_length) (cond d (breaks cut_body) (starts e rest))))

pub chosen-last : (a b c d : Bool) (e x : Record) (r y : List ℕ) → a ≡ false → b ≡ false → c ≡ false → d ≡ false → e ≡ x → r ≡ y → chosen a b c d e r ≡ starts x y
chosen-last true b c d e x r y p q s t u v = absurd (cc)
chosen-last false true c d e x r y p q s t u v = absurd (cc)
chosen-last false false true d e x r y p q s t u v = absurd (cc)
chosen-last false false false true e x r y p q s t u v = absurd (cc)
chosen-last false false false false e x r y p q s t u v = ap (λ z. starts z r) u ∙ ap (starts x) v

pub front_of-is : (bytes : List ℕ)
    → front_of bytes ≡ chosen (length bytes == 0) (nat_lt (length bytes) 8) (nat_lt (length_field bytes) 8) (nat_lt (length bytes) (length_field bytes)) (record_at bytes) (drop (length_field bytes) bytes)
unfolding front_of
front_of-is bytes = refl

same_record : (p q o r : ℕ) (b c : List ℕ) → p ≡ q → o ≡ r → b ≡ c
    → (let x : Record = record { plen = p; offset = o; body = b } in x) ≡ record { plen = q; offset = r; body = c }
same_record p q o r b c e f g =
    ap (λ n. record { plen = n; offset = o; body = b }) e ∙ ap (λ n. record { plen = q; offset = n; body = b }) f ∙ ap (λ l. record { plen = q; offset = r; body = l }) g

body_there : (e : Record) (rest : List ℕ) → IsRecord e → drop 8 (take (length_field (record_bytes e ++ rest)) (record_bytes e ++ rest)) ≡ e.body
body_there e rest h =
    let bytes = record_bytes e ++ rest in
    let head = head_bytes (8 + length e.body) e.plen e.offset in
    ap (λ n. drop 8 (take n bytes)) (field_then e rest h)
    ∙ ap (λ l. drop 8 (take (8 + length e.body) l)) (record_then e rest)
    ∙ ap (drop 8) (take-append-add head (e.body ++ rest) (length e.body))
    ∙ take_at e.body rest (length e.body) refl

record_at-is : (e : Record) (rest : List ℕ) → IsRecord e → record_at (record_bytes e ++ rest) ≡ e
record_at-is e rest h =
    same_record _ e.plen _ e.offset _ e.body
    (ap (λ l. from_be_bytes w16 (take 2 (drop 2 l))) (record_then e rest) ∙ from_be_bytes-to_be_bytes_2 e.plen h.plen)
    (ap (λ l. from_be_bytes w32 (take 4 (drop 4 l))) (record_then e rest) ∙ from_be_bytes-to_be_bytes_4 e.offset h.offset)
    (body_there e rest h)

-- a record that bytes begin with is found
pub front_of-record : (e : Record) (rest : List ℕ) → IsRecord e → front_of (record_bytes e ++ rest) ≡ starts e rest
front_of-record e rest h =
    let bytes = record_bytes e ++ rest in
    let size : length bytes ≡ 8 + length e.body + length rest = length-append (record_bytes e) rest ∙ ap (λ n. n + length rest) (length-record_bytes e) in
    let field : length_field bytes ≡ 8 + length e.body = field_then e rest h in
    front_of-is bytes
    ∙ chosen-last _ _ _ _ (record_at bytes) e (drop (length_field bytes) bytes) rest
    (not_empty (length bytes) (omega (arith, size)))
    (le-ltb (length bytes) 8 (omega (arith, size)))
    (le-ltb (length_field bytes) 8 (omega (arith, field)))
    (le-ltb (length bytes) (length_field bytes) (omega (arith, size, field)))
    (record_at-is e rest h)
    (ap (λ n. drop n bytes) field ∙ drop_at (record_bytes e) rest (8 + length e.body) (length-record_bytes e))

-- what begins with no record is told apart by its length
pub front_of-end : (bytes : List ℕ) → bytes ≡ [] → front_of bytes ≡ ends
unfolding front_of
front_of-end bytes e = ap front_of e

chosen-head : (b c d : Bool) (e : Record) (r : List ℕ) → b ≡ true → chosen false b c d e r ≡ breaks short_head
chosen-head true c d e r p = refl
chosen-head false c d e r p = absurd (cc)

chosen-length : (c d : Bool) (e : Record) (r : List ℕ) → c ≡ true → chosen false false c d e r ≡ breaks short_length
chosen-length true d e r p = refl
chosen-length false d e r p = absurd (cc)

chosen-body : (d : Bool) (e : Record) (r : List ℕ) → d ≡ true → chosen false false false d e r ≡ breaks cut_body
chosen-body true e r p = refl
chosen-body false e r p = absurd (cc)

pub front_of-head : (bytes : List ℕ) → 0 < length bytes → length bytes < 8 → front_of bytes ≡ breaks short_head
front_of-head bytes some few =
    front_of-is bytes
    ∙ ap (λ a. chosen a (nat_lt (length bytes) 8) (nat_lt (length_field bytes) 8) (nat_lt (length bytes) (length_field bytes)) (record_at bytes) (drop (length_field bytes) bytes)) (not_empty (length bytes) some)
    ∙ chosen-head _ _ _ _ _ (lt-ltb (length bytes) 8 few)

pub front_of-length : (bytes : List ℕ) → 8 ≤ length bytes → length_field bytes < 8 → front_of bytes ≡ breaks short_length
front_of-length bytes whole short =
    let field = length_field bytes in
    front_of-is bytes
    ∙ ap (λ a. chosen a (nat_lt (length bytes) 8) (nat_lt field 8) (nat_lt (length bytes) field) (record_at bytes) (drop field bytes)) (not_empty (length bytes) (omega arith))
    ∙ ap (λ b. chosen false b (nat_lt field 8) (nat_lt (length bytes) field) (record_at bytes) (drop field bytes)) (le-ltb (length bytes) 8 whole)
    ∙ chosen-length _ _ _ _ (lt-ltb field 8 short)

pub front_of-body : (bytes : List ℕ) → 8 ≤ length bytes → length bytes < length_field bytes → front_of bytes ≡ breaks cut_body
front_of-body bytes whole cut =
    let field = length_field bytes in
    front_of-is bytes
    ∙ ap (λ a. chosen a (nat_lt (length bytes) 8) (nat_lt field 8) (nat_lt (length bytes) field) (record_at bytes) (drop field bytes)) (not_empty (length bytes) (omega arith))
    ∙ ap (λ b. chosen false b (nat_lt field 8) (nat_lt (length bytes) field) (record_at bytes) (drop field bytes)) (le-ltb (length bytes) 8 whole)
    ∙ ap (λ b. chosen false false b (nat_lt (length bytes) field) (record_at bytes) (drop field bytes)) (le-ltb field 8 (omega arith))
    ∙ chosen-body _ _ _ (lt-ltb (length bytes) field cut)

-- with the first two bytes the field is known
pub length_field-front : (bytes rest : List ℕ) → 2 ≤ length bytes → length_field (bytes ++ rest) ≡ length_field bytes
unfolding length_field
length_field-front bytes rest two = ap (from_be_bytes w16) (take-append-le 2 bytes rest two)

-- records before others
abbrev pub with_all : List Record → Parts → Parts
with_all [] parts = parts
with_all (e ∷ es) parts = with_first e (with_all es parts)

pub records-with_all : (es : List Record) (parts : Parts) → (with_all es parts).records ≡ es ++ parts.records
records-with_all [] parts = refl
records-with_all (e ∷ es) parts = ap (λ l. e ∷ l) (records-with_all es parts)

pub tail-with_all : (es : List Record) (parts : Parts) → (with_all es parts).tail ≡ parts.tail
tail-with_all [] parts = refl
tail-with_all (e ∷ es) parts = tail-with_all es parts

abbrev pub after_front : ℕ → List ℕ → Front → Parts
after_front n bytes front = elim front as (λ _. Parts) [
  | ends ↦ record { records = []; tail = bytes }
  | breaks break ↦ record { records = []; tail = bytes }
  | starts rec rest ↦ with_first rec (parts_within n rest)
]

-- enough is enough: whole records at the front are found
pub parts_along : (es : List Record) (rest : List ℕ) (n : ℕ) → AllByRecursion IsRecord es → length (records_bytes es ++ rest) ≤ n
    → (m : ℕ) × (length rest ≤ m) × (parts_within n (records_bytes es ++ rest) ≡ with_all es (parts_within m rest))
parts_along [] rest n h room = (n, room, refl)
parts_along (e ∷ es) rest zero h room =
    absurd (omega (arith, room, length-append (records_bytes (e ∷ es)) rest, length-append (record_bytes e) (records_bytes es), length-record_bytes e))
parts_along (e ∷ es) rest (suc n) h room =
    let behind = records_bytes es ++ rest in
    let split : records_bytes (e ∷ es) ++ rest ≡ record_bytes e ++ behind = append_assoc (record_bytes e) (records_bytes es) rest in
    let less : length behind ≤ n = omega (arith, room, ap length split, length-append (record_bytes e) behind, length-record_bytes e) in
    let more = parts_along es rest n h.1 less in (
      more.0,
      more.1,
      ap (λ bytes. after_front n bytes (front_of bytes)) split
          ∙ ap (after_front n (record_bytes e ++ behind)) (front_of-record e behind h.0)
          ∙ ap (with_first e) more.2,
    )

-- bytes of a preamble and others are read as that preamble and the others
pub reading_of-preamble : (pre bytes : List ℕ) → IsPreamble pre → reading_of (pre ++ bytes) ≡ reads pre (parts_of bytes)
unfolding reading_of
reading_of-preamble pre bytes h =
    ap (λ n. reading_with n (pre ++ bytes)) (preamble_len-is pre bytes h)
    ∙ ap (λ l. reads l (parts_of (drop (length pre) (pre ++ bytes)))) (take_at pre bytes (length pre) refl)
    ∙ ap (λ l. reads pre (parts_of l)) (drop_at pre bytes (length pre) refl)

-- bytes that begin with no preamble
pub reading_of-none : (bytes : List ℕ) → preamble_len bytes ≡ None → reading_of bytes ≡ no_preamble
unfolding reading_of
reading_of-none bytes e = ap (λ n. reading_with n bytes) e

-- the parts of whole records and others
pub parts_of-along : (es : List Record) (rest : List ℕ) → AllByRecursion IsRecord es
    → (m : ℕ) × (length rest ≤ m) × (parts_of (records_bytes es ++ rest) ≡ with_all es (parts_within m rest))
unfolding parts_of
parts_of-along es rest h = parts_along es rest (length (records_bytes es ++ rest)) h (omega arith)
