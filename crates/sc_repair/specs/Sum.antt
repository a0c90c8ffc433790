-- The coefficients of a parity symbol over the last blocks, and the terms that are prepared for them.
use Rattle.std.specs.Prelude.{◌≡◌, ◌≢◌, ◌⊎◌, ℕ, ◌+◌, ◌-◌, ◌*◌, ◌<◌, ◌≤◌, Bool, false, List, ◌++◌, All, length, take, replicate, bit_xor, slice_index_or, if◌then◌else◌, refl}
use Rattle.std.specs.Coded.{Coded, code_by, coded×, coded_ℕ, coded_list}
use Rattle.sc_field.specs.Gf256.{gf256_product}
use Rattle.sc_field.specs.Terms.{combined}
use Rattle.sc_matrix.specs.Module.{IsByte}
use Rattle.sc_matrix.specs.Vector.{add_vectors, combination}
use Rattle.sc_matrix.specs.Layout.{cut}
use Rattle.sc_code.specs.Code.{Code}
use Rattle.sc_slots.specs.Rows.{parity_row}

-- a coefficient for each column, and the bytes of a column
pub record RowSum : Type 0 where
  pub row : List ℕ
  pub width : ℕ

abbrev pub row_sum_code : Coded RowSum
row_sum_code = code_by (List ℕ × ℕ) (coded× (coded_list coded_ℕ) coded_ℕ) (λ s. (s.row, s.width)) (λ p. record { row = p.0; width = p.1 }) (λ _. refl)

-- a row among n columns, from a column on, with zeros elsewhere
abbrev pub placed : ℕ → ℕ → List ℕ → List ℕ
placed n first row = replicate first 0 ++ (row ++ replicate (n - (first + length row)) 0)

-- what stands at a column of such a row once the columns whose flag is set are left out
abbrev pub open_at : ℕ → ℕ → List ℕ → List Bool → ℕ → ℕ
open_at n first row flags c = if slice_index_or flags c false then 0 else slice_index_or (placed n first row) c 0

-- the row that is left then is written, as far as the first of these columns reach
pub record IsOpening (n first : ℕ) (row : List ℕ) (flags : List Bool) (cols : List ℕ) (done : ℕ) (out : List ℕ) : Type 0 where
  pub count : length out ≡ n
  pub each : (c : ℕ) → c < n → (slice_index_or out c 0 ≡ 0) ⊎ (slice_index_or out c 0 ≡ open_at n first row flags c)
  pub these : (x : ℕ) → x < done → slice_index_or out (first + slice_index_or cols x 0) 0 ≡ open_at n first row flags (first + slice_index_or cols x 0)

-- the first n coefficients that aren't zero are those at these columns
pub record AreColumns (row : List ℕ) (n : ℕ) (cols : List ℕ) : Type 0 where
  pub within : (x : ℕ) → x < length cols → slice_index_or cols x 0 < n
  pub all : (c : ℕ) → c < n → slice_index_or row c 0 ≢ 0 → (x : ℕ) × (x < length cols) × (slice_index_or cols x 0 ≡ c)

-- the terms add up to the combination of the first n byte strings
pub record AreTerms {T : Type 0} (coefficient place : T → ℕ) (width : ℕ) (row : List ℕ) (n : ℕ) (terms : List T) : Type 0 where
  pub elements : (c : ℕ) → c < n → slice_index_or row c 0 < 256
  pub within : All (λ t. place t + width ≤ n * width) terms
  pub total : (bytes dst : List ℕ) → length dst ≡ width → length bytes ≡ length row * width → All IsByte dst → All IsByte bytes → All IsByte row
      → combined (λ t. gf256_product (coefficient t)) place terms dst bytes
      ≡ add_vectors bit_xor dst (combination 0 bit_xor gf256_product width (take n row) (take n (cut (length row) width bytes)))

-- the columns and the terms of all coefficients are prepared
pub record IsPrepared {T : Type 0} (coefficient place : T → ℕ) (width : ℕ) (row cols : List ℕ) (terms : List T) : Type 0 where
  pub columns : AreColumns row (length row) cols
  pub are_terms : AreTerms coefficient place width row (length row) terms

-- the sum of parity symbol j of a code, over as many blocks as it remembers and one more, for symbols of m bytes
abbrev pub own_sum : Code ℕ → ℕ → ℕ → RowSum
own_sum code m j = record { row = parity_row 0 1 code (length code.lags) (length code.lags - 1) j; width = m }

-- those of the first n parity symbols
pub record AreSums (code : Code ℕ) (m n : ℕ) (sums : List RowSum) : Type 0 where
  pub count : length sums ≡ n
  pub each : (j : ℕ) (d : RowSum) → j < n → slice_index_or sums j d ≡ own_sum code m j
