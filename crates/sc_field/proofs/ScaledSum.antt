-- The sum of a slice and the image of another: its length and its places.
use Rattle.std.proofs.Common.{◌≡◌, ℕ, zero, suc, ◌<◌, List, [], ◌∷◌, map, length, get_or, replicate, bit_xor, refl, sym, ap, ap₂, ◌∙◌, arith}
use Rattle.std.specs.Int.Bits.{xor_assoc, xor_zero_r}
use Rattle.std.proofs.lemmas.Nat.{xor_comm}
use Rattle.sc_field.specs.Scale.{scaled_sum}

pub length-scaled_sum : (f : ℕ → ℕ) (dst src : List ℕ) → length (scaled_sum f dst src) ≡ length dst
length-scaled_sum f [] src = refl
length-scaled_sum f (d ∷ dst) [] = refl
length-scaled_sum f (d ∷ dst) (s ∷ src) = ap suc (length-scaled_sum f dst src)

pub get_or-scaled_sum : (f : ℕ → ℕ) (dst src : List ℕ) → length src ≡ length dst → (k : ℕ) → k < length dst → get_or (scaled_sum f dst src) k 0 ≡ bit_xor (get_or dst k 0) (f (get_or src k 0))
get_or-scaled_sum f [] src e k lt = absurd (omega arith)
get_or-scaled_sum f (d ∷ dst) [] e k lt = absurd (omega arith)
get_or-scaled_sum f (d ∷ dst) (s ∷ src) e zero lt = refl
get_or-scaled_sum f (d ∷ dst) (s ∷ src) e (suc k) lt = get_or-scaled_sum f dst src (omega arith) k (omega arith)

-- where f gives 0 everywhere, as under the coefficient zero, nothing changes
pub scaled_sum-zero : (f : ℕ → ℕ) → ((b : ℕ) → f b ≡ 0) → (dst src : List ℕ) → scaled_sum f dst src ≡ dst
scaled_sum-zero f none [] src = refl
scaled_sum-zero f none (d ∷ dst) [] = refl
scaled_sum-zero f none (d ∷ dst) (s ∷ src) = ap₂ (λ (x : ℕ) (xs : List ℕ). x ∷ xs) (ap (bit_xor d) (none s) ∙ xor_zero_r d) (scaled_sum-zero f none dst src)

-- two sums with one slice are one sum
pub scaled_sum-twice : (f g h : ℕ → ℕ) → ((b : ℕ) → h b ≡ bit_xor (f b) (g b)) → (dst src : List ℕ) → scaled_sum g (scaled_sum f dst src) src ≡ scaled_sum h dst src
scaled_sum-twice f g h both [] src = refl
scaled_sum-twice f g h both (d ∷ dst) [] = refl
scaled_sum-twice f g h both (d ∷ dst) (s ∷ src) =
    ap₂ (λ (n : ℕ) (xs : List ℕ). n ∷ xs) (xor_assoc d (f s) (g s) ∙ ap (bit_xor d) (sym (both s))) (scaled_sum-twice f g h both dst src)

-- over zeros the sum is the image alone
pub scaled_sum-zeros : (f : ℕ → ℕ) (src : List ℕ) → scaled_sum f (replicate (length src) 0) src ≡ map f src
scaled_sum-zeros f [] = refl
scaled_sum-zeros f (s ∷ src) = ap₂ (λ (n : ℕ) (xs : List ℕ). n ∷ xs) (xor_comm 0 (f s) ∙ xor_zero_r (f s)) (scaled_sum-zeros f src)

-- only what f is at the bytes of src matters
pub scaled_sum-same : (f g : ℕ → ℕ) (dst src : List ℕ) → ((k : ℕ) → f (get_or src k 0) ≡ g (get_or src k 0)) → scaled_sum f dst src ≡ scaled_sum g dst src
scaled_sum-same f g [] src same = refl
scaled_sum-same f g (d ∷ dst) [] same = refl
scaled_sum-same f g (d ∷ dst) (s ∷ src) same =
    ap₂ (λ (n : ℕ) (xs : List ℕ). n ∷ xs) (ap (bit_xor d) (same 0)) (scaled_sum-same f g dst src (λ k. same (suc k)))

pub scaled_sum-none : (f : ℕ → ℕ) (dst src : List ℕ) → ((k : ℕ) → f (get_or src k 0) ≡ 0) → scaled_sum f dst src ≡ dst
scaled_sum-none f dst src none = scaled_sum-same f (λ b. 0) dst src none ∙ scaled_sum-zero (λ b. 0) (λ b. refl) dst src

-- the image under an f that gives 0 everywhere, and under one that changes nothing
pub map-none : (f : ℕ → ℕ) (src : List ℕ) → ((k : ℕ) → f (get_or src k 0) ≡ 0) → replicate (length src) 0 ≡ map f src
map-none f src none = sym (scaled_sum-none f (replicate (length src) 0) src none) ∙ scaled_sum-zeros f src

pub map-same : (f : ℕ → ℕ) (src : List ℕ) → ((k : ℕ) → f (get_or src k 0) ≡ get_or src k 0) → src ≡ map f src
map-same f [] same = refl
map-same f (s ∷ src) same = ap₂ (λ (n : ℕ) (xs : List ℕ). n ∷ xs) (sym (same 0)) (map-same f src (λ k. same (suc k)))
