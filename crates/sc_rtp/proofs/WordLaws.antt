-- Words of 32 bits, and the bytes that spell them.
use Rattle.std.proofs.Common.{◌≡◌, ℕ, zero, suc, ◌+◌, ◌*◌, ◌^◌, ◌<◌, ◌≤◌, List, [], ◌∷◌, ◌++◌, length, drop, get_or, refl, sym, ap, ◌∙◌, subst, arith, length-drop}
use Rattle.std.proofs.lemmas.Nat.{be_bytes_2, be_bytes_4, from_be_bytes-to_be_bytes_4}
use Rattle.std.proofs.lemmas.List.{get_or-drop, drop-drop}
use Rattle.std.specs.Int.{w16, w32, to_be_bytes}
use Rattle.sc_rtp.specs.Head.{number16, number32}
use Rattle.sc_rtp.specs.Packet.{words_bytes, AreWords}
use Rattle.sc_rtp.specs.Reading.{words_of, AreBytes}

-- places of two and of four bytes hold bytes
pub two_fit : (a b : ℕ) → a < 256 → b < 256 → (i : ℕ) → get_or (a ∷ b ∷ []) i 0 < 256
two_fit a b f g zero = f
two_fit a b f g (suc zero) = g
two_fit a b f g (suc (suc i)) = omega arith

pub four_fit : (a b c d : ℕ) → a < 256 → b < 256 → c < 256 → d < 256 → (i : ℕ) → get_or (a ∷ b ∷ c ∷ d ∷ []) i 0 < 256
four_fit a b c d f g h k zero = f
four_fit a b c d f g h k (suc zero) = g
four_fit a b c d f g h k (suc (suc zero)) = h
four_fit a b c d f g h k (suc (suc (suc zero))) = k
four_fit a b c d f g h k (suc (suc (suc (suc i)))) = omega arith

-- two and four bytes spell the number that is spelled by them
pub to_be_bytes-number16 : (a b : ℕ) → a < 256 → b < 256 → to_be_bytes w16 (number16 a b) ≡ a ∷ b ∷ []
to_be_bytes-number16 a b f g = be_bytes_2 (a ∷ b ∷ []) _ refl (two_fit a b f g) refl

pub to_be_bytes-number32 : (a b c d : ℕ) → a < 256 → b < 256 → c < 256 → d < 256 → to_be_bytes w32 (number32 a b c d) ≡ a ∷ b ∷ c ∷ d ∷ []
to_be_bytes-number32 a b c d f g h k = be_bytes_4 (a ∷ b ∷ c ∷ d ∷ []) _ refl (four_fit a b c d f g h k) refl

pub number16-fits : (a b : ℕ) → a < 256 → b < 256 → number16 a b < 2 ^ 16
number16-fits a b f g = omega arith

pub number32-fits : (a b c d : ℕ) → a < 256 → b < 256 → c < 256 → d < 256 → number32 a b c d < 2 ^ 32
number32-fits a b c d f g h k = omega arith

pub AreBytes-drop : (n : ℕ) (bytes : List ℕ) → AreBytes bytes → AreBytes (drop n bytes)
AreBytes-drop n bytes fits i = subst (λ (b : ℕ). b < 256) (sym (get_or-drop n bytes i 0)) (fits (n + i))

-- the first four of bytes
pub front_four : (bytes : List ℕ) → 4 ≤ length bytes → bytes ≡ get_or bytes 0 0 ∷ get_or bytes 1 0 ∷ get_or bytes 2 0 ∷ get_or bytes 3 0 ∷ drop 4 bytes
front_four (a ∷ b ∷ c ∷ d ∷ bytes) size = refl
front_four (a ∷ b ∷ c ∷ []) size = absurd (omega arith)
front_four (a ∷ b ∷ []) size = absurd (omega arith)
front_four (a ∷ []) size = absurd (omega arith)
front_four [] size = absurd (omega arith)

pub length-words_bytes : (words : List ℕ) → length (words_bytes words) ≡ 4 * length words
length-words_bytes [] = refl
length-words_bytes (w ∷ words) = omega (arith, length-words_bytes words)

pub length-words_of : (n : ℕ) (bytes : List ℕ) → length (words_of n bytes) ≡ n
length-words_of zero bytes = refl
length-words_of (suc n) bytes = ap suc (length-words_of n (drop 4 bytes))

pub words_of-fit : (n : ℕ) (bytes : List ℕ) → AreBytes bytes → AreWords (words_of n bytes)
words_of-fit zero bytes fits = tt
words_of-fit (suc n) bytes fits =
    (number32-fits _ _ _ _ (fits 0) (fits 1) (fits 2) (fits 3), words_of-fit n (drop 4 bytes) (AreBytes-drop 4 bytes fits))

-- words that are spelled are read, whatever follows
pub words_of-spelled : (words rest : List ℕ) → AreWords words → words_of (length words) (words_bytes words ++ rest) ≡ words
words_of-spelled [] rest fit = refl
words_of-spelled (w ∷ words) rest fit =
    let bytes = words_bytes (w ∷ words) ++ rest in
    ap (λ l. number32 (get_or bytes 0 0) (get_or bytes 1 0) (get_or bytes 2 0) (get_or bytes 3 0) ∷ l) (words_of-spelled words rest fit.1)
    ∙ ap (λ n. n ∷ words) (from_be_bytes-to_be_bytes_4 w fit.0)

-- words that are read are spelled by the bytes
pub words_bytes-of : (n : ℕ) (bytes : List ℕ) → AreBytes bytes → 4 * n ≤ length bytes → words_bytes (words_of n bytes) ++ drop (4 * n) bytes ≡ bytes
words_bytes-of zero bytes fits size = refl
words_bytes-of (suc n) bytes fits size =
    let rest = drop 4 bytes in
    let again : words_bytes (words_of n rest) ++ drop (4 * n) rest ≡ rest = words_bytes-of n rest (AreBytes-drop 4 bytes fits) (omega (arith, length-drop 4 bytes)) in
    let first = to_be_bytes-number32 _ _ _ _ (fits 0) (fits 1) (fits 2) (fits 3) in
    let behind : drop (4 * suc n) bytes ≡ drop (4 * n) rest = ap (λ k. drop k bytes) (omega arith) ∙ sym (drop-drop (4 * n) 4 bytes) in
    ap (λ l. words_bytes (words_of (suc n) bytes) ++ l) behind
    ∙ ap (λ l. (l ++ words_bytes (words_of n rest)) ++ drop (4 * n) rest) first
    ∙ ap (λ l. get_or bytes 0 0 ∷ get_or bytes 1 0 ∷ get_or bytes 2 0 ∷ get_or bytes 3 0 ∷ l) again
    ∙ sym (front_four bytes (omega arith))
