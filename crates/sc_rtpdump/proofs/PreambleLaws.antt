-- Bytes that begin with a preamble, and bytes that don't.
use Rattle.std.proofs.Common.{◌≡◌, ◌≢◌, ℕ, suc, ◌+◌, ◌<◌, ◌≤◌, ◌==◌, ◌&&◌, Bool, true, false, cond, Option, Some, None, List, [], ◌∷◌, ◌++◌, length, take, drop, nat_le, bytes_eq, refl, sym, ap, ◌∙◌, arith, append_assoc, length-append, take_all}
use Rattle.std.proofs.lemmas.List.{take-append-le}
use Rattle.std.proofs.lemmas.Bool.{lt-leb, le-leb, eqb-true, false_from_ne_true}
use Rattle.std.proofs.lemmas.Slice.Eq.{bytes_eq-Decides}
use Rattle.std.specs.Option.{option_map}
use Rattle.sc_rtpdump.specs.Preamble.{magic, IsPreamble, newline_at, len_with, preamble_len, HasNoPreamble, IsOneLine}

-- what follows the magic decides
after_magic : (xs : List ℕ) → preamble_len (magic ++ xs) ≡ len_with (newline_at xs) (13 + length xs)
unfolding preamble_len
after_magic xs = ap (len_with (newline_at xs)) (length-append magic xs)

other_than : (b : ℕ) → b ≢ 10 → (b == 10) ≡ false
other_than b h = false_from_ne_true (b == 10) (λ e. h (eqb-true b 10 e))

newline_at-one_line : (line : List ℕ) → IsOneLine line → newline_at line ≡ None
newline_at-one_line [] h = refl
newline_at-one_line (b ∷ line) h =
    ap (λ t. cond t (Some 0) (option_map suc (newline_at line))) (other_than b h.0) ∙ ap (option_map suc) (newline_at-one_line line h.1)

-- a place so many bytes later
later : ℕ → Option ℕ → Option ℕ
later n place = option_map (λ m. n + m) place

later-zero : (place : Option ℕ) → place ≡ option_map (λ m. 0 + m) place
later-zero None = refl
later-zero (Some m) = ap (λ n. Some n) (omega arith)

later-suc : (n : ℕ) (place : Option ℕ) → option_map suc (option_map (λ m. n + m) place) ≡ option_map (λ m. suc n + m) place
later-suc n None = refl
later-suc n (Some m) = ap (λ k. Some k) (omega arith)

newline_at-append : (line rest : List ℕ) → IsOneLine line → newline_at (line ++ rest) ≡ option_map (λ m. length line + m) (newline_at rest)
newline_at-append [] rest h = later-zero (newline_at rest)
newline_at-append (b ∷ line) rest h =
    ap (λ t. cond t (Some 0) (option_map suc (newline_at (line ++ rest)))) (other_than b h.0)
    ∙ ap (option_map suc) (newline_at-append line rest h.1)
    ∙ later-suc (length line) (newline_at rest)

-- no preamble where the line is too long or the bytes too few
too_long : (p n : ℕ) → 4096 < 14 + p → len_with (Some p) n ≡ None
too_long p n h = ap (λ t. cond (t && nat_le (30 + p) n) (Some (30 + p)) None) (lt-leb (14 + p) 4096 h)

and_false : (a : Bool) → (a && false) ≡ false
and_false true = refl
and_false false = refl

too_few : (p n : ℕ) → n < 30 + p → len_with (Some p) n ≡ None
too_few p n h =
    ap (λ t. cond (nat_le (14 + p) 4096 && t) (Some (30 + p)) None) (lt-leb (30 + p) n h)
    ∙ ap (λ t. cond t (Some (30 + p)) None) (and_false (nat_le (14 + p) 4096))

-- a line of which no newline is there yet
pub no_newline : (line : List ℕ) → IsOneLine line → HasNoPreamble (magic ++ line)
no_newline line h = after_magic line ∙ ap (λ place. len_with place (13 + length line)) (newline_at-one_line line h)

later_too_long : (n size : ℕ) (place : Option ℕ) → 4083 ≤ n → len_with (option_map (λ m. n + m) place) size ≡ None
later_too_long n size None h = refl
later_too_long n size (Some m) h = too_long (n + m) size (omega arith)

-- a line that is too long
pub long_line : (line rest : List ℕ) → IsOneLine line → 4083 ≤ length line → HasNoPreamble (magic ++ (line ++ rest))
long_line line rest h long =
    after_magic (line ++ rest)
    ∙ ap (λ place. len_with place (13 + length (line ++ rest))) (newline_at-append line rest h)
    ∙ later_too_long (length line) (13 + length (line ++ rest)) (newline_at rest) long

-- fewer than 16 bytes behind the line
pub few_fields : (line fields : List ℕ) → IsOneLine line → length fields < 16 → HasNoPreamble (magic ++ (line ++ 10 ∷ fields))
few_fields line fields h few =
    after_magic (line ++ 10 ∷ fields)
    ∙ ap (λ place. len_with place (13 + length (line ++ 10 ∷ fields))) (newline_at-append line (10 ∷ fields) h)
    ∙ too_few (length line + 0) (13 + length (line ++ 10 ∷ fields)) (omega (arith, length-append line (10 ∷ fields)))

-- another beginning than the magic
not_magic : (bytes : List ℕ) → take 13 bytes ≢ magic → HasNoPreamble bytes
unfolding preamble_len
not_magic bytes other =
    ap (λ t. cond t (len_with (newline_at (drop 13 bytes)) (length bytes)) None)
    (false_from_ne_true (bytes_eq (take 13 bytes) magic) (λ e. other ((bytes_eq-Decides (take 13 bytes) magic).0 e)))

pub other_beginning : (bytes rest : List ℕ) → length bytes ≡ 13 → bytes ≢ magic → HasNoPreamble (bytes ++ rest)
other_beginning bytes rest size other = not_magic (bytes ++ rest) (λ e. other (sym (take_all 13 bytes (omega (arith, size))) ∙ sym (take-append-le 13 bytes rest (omega (arith, size))) ∙ e))

pub short_beginning : (bytes : List ℕ) → length bytes < 13 → HasNoPreamble bytes
short_beginning bytes few = not_magic bytes (λ e. let size : length bytes ≡ 13 = ap length (sym (take_all 13 bytes (omega arith)) ∙ e) in absurd (omega (arith, size)))

fits_there : (p n : ℕ) → 14 + p ≤ 4096 → 30 + p ≤ n → len_with (Some p) n ≡ Some (30 + p)
fits_there p n short whole =
    ap (λ t. cond (t && nat_le (30 + p) n) (Some (30 + p)) None) (le-leb (14 + p) 4096 short)
    ∙ ap (λ t. cond t (Some (30 + p)) None) (le-leb (30 + p) n whole)

pub length-preamble : (pre : List ℕ) (h : IsPreamble pre) → length pre ≡ 30 + length h.line
length-preamble pre h =
    ap length h.parts ∙ length-append magic (h.line ++ 10 ∷ h.fields) ∙ omega (arith, length-append h.line (10 ∷ h.fields), h.all_fields)

-- a whole preamble, whatever follows
pub preamble_len-is : (pre rest : List ℕ) → IsPreamble pre → preamble_len (pre ++ rest) ≡ Some (length pre)
preamble_len-is pre rest h =
    let behind = h.fields ++ rest in
    let whole : pre ++ rest ≡ magic ++ (h.line ++ 10 ∷ behind) =
    ap (λ l. l ++ rest) h.parts ∙ append_assoc magic (h.line ++ 10 ∷ h.fields) rest ∙ ap (λ l. magic ++ l) (append_assoc h.line (10 ∷ h.fields) rest) in
    let size = length-append h.line (10 ∷ behind) in
    ap preamble_len whole
    ∙ after_magic (h.line ++ 10 ∷ behind)
    ∙ ap (λ place. len_with place (13 + length (h.line ++ 10 ∷ behind))) (newline_at-append h.line (10 ∷ behind) h.one_line)
    ∙ fits_there (length h.line + 0) (13 + length (h.line ++ 10 ∷ behind)) (omega (arith, h.short_line)) (omega (arith, size, length-append h.fields rest, h.all_fields))
    ∙ ap (λ n. Some n) (omega (arith, length-preamble pre h))
