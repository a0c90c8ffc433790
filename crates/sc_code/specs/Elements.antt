-- Streams whose symbols are elements of the field, one each, and what a class decides of them. Where the elements of the
-- field are the bytes, these are the streams of width 1.
use Rattle.std.specs.Prelude.{◌≡◌, ℕ, ◌<◌, Bool, List, [], length, All, replicate, slice_index_or}
use Rattle.sc_matrix.specs.Vector.{IsVector}
use Rattle.sc_code.specs.Code.{Code}
use Rattle.sc_code.specs.Parity.{parity_symbol}
use Rattle.sc_code.specs.Determined.{IsKept}

-- symbol i of block t, and zero where there is none
abbrev pub element_at : {A : Type 0} → A → List (List A) → ℕ → ℕ → A
element_at zero xs t i = slice_index_or (slice_index_or xs t []) i zero

-- a stream of elements is zero in slot t, in block and parity
pub record IsZeroElements {A : Type 0} (zero : A) (add mul : A → A → A) (code : Code A) (xs : List (List A)) (t : ℕ) : Type 0 where
  pub symbols : slice_index_or xs t [] ≡ replicate code.k zero
  pub parities : (j : ℕ) → j < code.r → parity_symbol zero zero add mul code (element_at zero xs) t j ≡ zero

-- every stream of elements, with a block for each flag, that is zero in each kept slot has a zero block 0
abbrev pub IsDecidedOver : {A : Type 0} → (A → Type 0) → A → (A → A → A) → (A → A → A) → Code A → List Bool → Type 0
IsDecidedOver IsElement zero add mul code class =
    (xs : List (List _)) → All (IsVector IsElement code.k) xs → length xs ≡ length class
    → ((t : ℕ) → IsKept class t → IsZeroElements zero add mul code xs t) → slice_index_or xs 0 [] ≡ replicate code.k zero
