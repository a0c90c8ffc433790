-- A parity symbol as a sum of terms: a coefficient other than zero, with the symbol that it is for.
use Rattle.std.specs.Prelude.{◌≡◌, ◌≢◌, ℕ, ◌+◌, ◌*◌, ◌<◌, ◌≤◌, List, ◌++◌, [], ◌∷◌, length, map, All, bit_xor, refl, slice_index_or}
use Rattle.std.specs.Coded.{Coded, code_by, coded×, coded_ℕ, coded_list}
use Rattle.sc_matrix.specs.Vector.{dot}
use Rattle.sc_code.specs.Code.{Code, coefficient}
use Rattle.sc_code.specs.Parity.{sum_below}

-- the coefficients, and for each the lag of its block and the place of its symbol in the bytes of a block
pub record Sum (A : Type 0) : Type 0 where
  pub coefficients : List A
  pub spots : List (ℕ × ℕ)

-- a sum is stored as the pair of its lists
abbrev pub sum_code : {A : Type 0} → Coded A → Coded (Sum A)
sum_code {A} code =
    code_by (List A × List (ℕ × ℕ)) (coded× (coded_list code) (coded_list (coded× coded_ℕ coded_ℕ))) (λ s. (s.coefficients, s.spots))
    (λ p. record { coefficients = p.0; spots = p.1 }) (λ _. refl)

-- one term more
abbrev pub with_term : {A : Type 0} → Sum A → A → ℕ → ℕ → Sum A
with_term s c lag at = record { coefficients = s.coefficients ++ c ∷ []; spots = s.spots ++ (lag, at) ∷ [] }

-- the sum, where `bytes lag at` is the byte at a place in the block of a lag
abbrev pub sum_of : {A : Type 0} → (A → ℕ → ℕ) → Sum A → (ℕ → ℕ → ℕ) → ℕ
sum_of act s bytes = dot 0 bit_xor act s.coefficients (map (λ spot. bytes spot.0 spot.1) s.spots)

-- The terms are those of parity symbol j of a code, for blocks of symbols of m bytes: of the first lags all, and of the next
-- one those of the first symbols.
pub record HasTerms {A : Type 0} (zero : A) (act : A → ℕ → ℕ) (code : Code A) (m j lags symbols : ℕ) (s : Sum A) : Type 0 where
  pub paired : length s.coefficients ≡ length s.spots
  pub nonzero : All (λ c. c ≢ zero) s.coefficients
  pub within : All (λ spot. (spot.0 < length code.lags) × (spot.1 + m ≤ code.k * m)) s.spots
  pub total : (bytes : ℕ → ℕ → ℕ) → ((lag at : ℕ) → bytes lag at < 256) → sum_of act s bytes
      ≡ bit_xor (sum_below 0 bit_xor lags (λ lag. sum_below 0 bit_xor code.k (λ i. act (coefficient zero code lag i j) (bytes lag (i * m)))))
      (sum_below 0 bit_xor symbols (λ i. act (coefficient zero code lags i j) (bytes lags (i * m))))

-- a sum for each parity symbol, with all its terms
pub record AreSums {A : Type 0} (zero : A) (act : A → ℕ → ℕ) (code : Code A) (m : ℕ) (sums : List (Sum A)) : Type 0 where
  pub count : length sums ≡ code.r
  pub each : (j : ℕ) (d : Sum A) → j < length sums → HasTerms zero act code m j (length code.lags) 0 (slice_index_or sums j d)
