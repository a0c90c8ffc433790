-- A loss seen as a linear system: its unknowns are the symbols of the lost slots, and its equations say that the parities of
-- the kept slots are zero.
use Rattle.std.specs.Prelude.{◌≡◌, ℕ, List, [], ◌∷◌, ◌++◌, Bool, true, false, length, All, take, drop, replicate, slice_index_or}
use Rattle.sc_matrix.specs.Vector.{IsVector, picked}
use Rattle.sc_code.specs.Code.{Code}
use Rattle.sc_code.specs.Determined.{IsKept}
use Rattle.sc_code.specs.Elements.{IsZeroElements}

-- the symbols of a list of blocks, block after block
abbrev pub symbols_of : {A : Type 0} → List (List A) → List A
symbols_of [] = []
symbols_of (block ∷ xs) = block ++ symbols_of xs

-- the symbols of the lost slots of a stream, in order
abbrev pub lost_symbols : {A : Type 0} → List Bool → List (List A) → List A
lost_symbols class xs = symbols_of (picked class xs)

-- The stream that a vector spells, with a block for each flag: the block of a lost slot is the next k entries, that of a
-- kept slot is zero.
abbrev pub spelled : {A : Type 0} → A → ℕ → List Bool → List A → List (List A)
spelled zero k [] v = []
spelled zero k (true ∷ class) v = take k v ∷ spelled zero k class (drop k v)
spelled zero k (false ∷ class) v = replicate k zero ∷ spelled zero k class v

-- a stream with a block of k elements for each flag, which is zero in the kept slots
pub record IsLostStream {A : Type 0} (IsElement : A → Type 0) (zero : A) (k : ℕ) (class : List Bool) (xs : List (List A)) : Type 0 where
  pub blocks : All (IsVector IsElement k) xs
  pub count : length xs ≡ length class
  pub zeros : (t : ℕ) → IsKept class t → slice_index_or xs t [] ≡ replicate k zero

-- a stream is zero in each kept slot, in block and parity
abbrev pub IsZeroWhereKept : {A : Type 0} → A → (A → A → A) → (A → A → A) → Code A → List Bool → List (List A) → Type 0
IsZeroWhereKept zero add mul code class xs = (t : ℕ) → IsKept class t → IsZeroElements zero add mul code xs t
