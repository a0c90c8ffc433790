-- The fixed head, and the bytes that spell it.
use Rattle.std.proofs.Common.{◌≡◌, ℕ, zero, suc, ◌/◌, ◌%◌, ◌<◌, ◌≤◌, ◌==◌, Bool, true, false, List, [], ◌∷◌, ◌++◌, length, drop, get_or, refl, ap, ◌∙◌, arith}
use Rattle.std.proofs.lemmas.Bool.{eq-eqb}
use Rattle.std.proofs.lemmas.Nat.{from_be_bytes-to_be_bytes_2, from_be_bytes-to_be_bytes_4}
use Rattle.std.specs.Int.{w16, w32, to_be_bytes}
use Rattle.sc_rtp.specs.declared.head.Head.{Head}
use Rattle.sc_rtp.specs.Head.{flag, IsHead, first_byte, second_byte, head_bytes, head_of}
use Rattle.sc_rtp.specs.Reading.{AreBytes}
use Rattle.sc_rtp.proofs.WordLaws.{to_be_bytes-number16, to_be_bytes-number32, number16-fits, number32-fits}

-- a bit is the flag that it is one
flag-bit : (n : ℕ) → n < 2 → flag (n == 1) ≡ n
flag-bit zero small = refl
flag-bit (suc zero) small = refl
flag-bit (suc (suc n)) small = absurd (omega arith)

bit-flag : (b : Bool) (n : ℕ) → n ≡ flag b → (n == 1) ≡ b
bit-flag true n e = eq-eqb n 1 e
bit-flag false n e = ap (λ m. m == 1) e

flag-small : (b : Bool) → flag b < 2
flag-small true = omega arith
flag-small false = omega arith

same_head : (v c t s u r : ℕ) (p x m : Bool) (g : Head) → v ≡ g.version → p ≡ g.padded → x ≡ g.extended → c ≡ g.csrc_count → m ≡ g.marker
    → t ≡ g.payload_type → s ≡ g.sequence → u ≡ g.timestamp → r ≡ g.ssrc
    → (let h : Head = record { version = v; padded = p; extended = x; csrc_count = c; marker = m; payload_type = t; sequence = s; timestamp = u; ssrc = r } in h)
    ≡ record { version = g.version; padded = g.padded; extended = g.extended; csrc_count = g.csrc_count; marker = g.marker; payload_type = g.payload_type; sequence = g.sequence; timestamp = g.timestamp; ssrc = g.ssrc }
same_head v c t s u r p x m g a b d e f i j k l = cc

-- a head that is spelled is read, whatever follows
pub head_of-spelled : (h : Head) (rest : List ℕ) → IsHead h → head_of (head_bytes h ++ rest) ≡ h
unfolding head_of
head_of-spelled h rest fit =
    let p = flag-small h.padded in
    let x = flag-small h.extended in
    let m = flag-small h.marker in
    same_head _ _ _ _ _ _ _ _ _ h
    (omega (arith, fit.version, fit.csrc_count, p, x))
    (bit-flag h.padded _ (omega (arith, fit.version, fit.csrc_count, p, x)))
    (bit-flag h.extended _ (omega (arith, fit.version, fit.csrc_count, p, x)))
    (omega (arith, fit.version, fit.csrc_count, p, x))
    (bit-flag h.marker _ (omega (arith, fit.payload_type, m)))
    (omega (arith, fit.payload_type, m))
    (from_be_bytes-to_be_bytes_2 h.sequence fit.sequence)
    (from_be_bytes-to_be_bytes_4 h.timestamp fit.timestamp)
    (from_be_bytes-to_be_bytes_4 h.ssrc fit.ssrc)

-- the numbers of a head that is read fit
pub head_of-fits : (bytes : List ℕ) → AreBytes bytes → IsHead (head_of bytes)
unfolding head_of
head_of-fits bytes fits = record {
  version = let b = fits 0 in omega arith;
  csrc_count = omega arith;
  payload_type = omega arith;
  sequence = number16-fits _ _ (fits 2) (fits 3);
  timestamp = number32-fits _ _ _ _ (fits 4) (fits 5) (fits 6) (fits 7);
  ssrc = number32-fits _ _ _ _ (fits 8) (fits 9) (fits 10) (fits 11);
}

first_byte-of : (bytes : List ℕ) → get_or bytes 0 0 < 256 → first_byte (head_of bytes) ≡ get_or bytes 0 0
unfolding head_of
first_byte-of bytes fit =
    let b = get_or bytes 0 0 in
    let p = flag-bit (b / 32 % 2) (omega arith) in
    let x = flag-bit (b / 16 % 2) (omega arith) in
    omega (arith, p, x, fit)

second_byte-of : (bytes : List ℕ) → get_or bytes 1 0 < 256 → second_byte (head_of bytes) ≡ get_or bytes 1 0
unfolding head_of
second_byte-of bytes fit =
    let b = get_or bytes 1 0 in
    let m = flag-bit (b / 128) (omega arith) in
    omega (arith, m, fit)

-- the first twelve of bytes
twelve : (bytes : List ℕ) → 12 ≤ length bytes
    → (get_or bytes 0 0 ∷ get_or bytes 1 0 ∷ []) ++ ((get_or bytes 2 0 ∷ get_or bytes 3 0 ∷ [])
    ++ ((get_or bytes 4 0 ∷ get_or bytes 5 0 ∷ get_or bytes 6 0 ∷ get_or bytes 7 0 ∷ [])
    ++ (get_or bytes 8 0 ∷ get_or bytes 9 0 ∷ get_or bytes 10 0 ∷ get_or bytes 11 0 ∷ drop 12 bytes))) ≡ bytes
twelve (a ∷ b ∷ c ∷ d ∷ e ∷ f ∷ g ∷ h ∷ i ∷ j ∷ k ∷ l ∷ bytes) size = refl
twelve bytes size = absurd (omega arith)

-- a head that is read is spelled by the bytes
pub head_bytes-of : (bytes : List ℕ) → AreBytes bytes → 12 ≤ length bytes → head_bytes (head_of bytes) ++ drop 12 bytes ≡ bytes
unfolding head_of
head_bytes-of bytes fits size =
    let rest = drop 12 bytes in
    let h = head_of bytes in
    ap (λ b. (b ∷ second_byte h ∷ []) ++ (to_be_bytes w16 h.sequence ++ (to_be_bytes w32 h.timestamp ++ to_be_bytes w32 h.ssrc)) ++ rest) (first_byte-of bytes (fits 0))
    ∙ ap (λ b. (get_or bytes 0 0 ∷ b ∷ []) ++ (to_be_bytes w16 h.sequence ++ (to_be_bytes w32 h.timestamp ++ to_be_bytes w32 h.ssrc)) ++ rest) (second_byte-of bytes (fits 1))
    ∙ ap (λ l. (get_or bytes 0 0 ∷ get_or bytes 1 0 ∷ []) ++ (l ++ (to_be_bytes w32 h.timestamp ++ to_be_bytes w32 h.ssrc)) ++ rest) (to_be_bytes-number16 _ _ (fits 2) (fits 3))
    ∙ ap (λ l. (get_or bytes 0 0 ∷ get_or bytes 1 0 ∷ []) ++ ((get_or bytes 2 0 ∷ get_or bytes 3 0 ∷ []) ++ (l ++ to_be_bytes w32 h.ssrc)) ++ rest) (to_be_bytes-number32 _ _ _ _ (fits 4) (fits 5) (fits 6) (fits 7))
    ∙ ap (λ l. (get_or bytes 0 0 ∷ get_or bytes 1 0 ∷ []) ++ ((get_or bytes 2 0 ∷ get_or bytes 3 0 ∷ []) ++ ((get_or bytes 4 0 ∷ get_or bytes 5 0 ∷ get_or bytes 6 0 ∷ get_or bytes 7 0 ∷ []) ++ l)) ++ rest) (to_be_bytes-number32 _ _ _ _ (fits 8) (fits 9) (fits 10) (fits 11))
    ∙ twelve bytes size
