-- Differences under a loss: streams that the kept slots don't tell from the stream of zeros. The least one refutes a code.
use Rattle.std.specs.Prelude.{◌≡◌, ◌≢◌, ◌⊎◌, ℕ, List, [], Bool, length, All, map, replicate, slice_index, slice_index_or}
use Rattle.sc_channel.specs.Channel.{ChannelNumbers}
use Rattle.sc_matrix.specs.Vector.{IsVector}
use Rattle.sc_echelon.specs.Kernel.{IsBefore}
use Rattle.sc_code.specs.Code.{Code}
use Rattle.sc_code.specs.Stream.{IsStream, block_at, zero_block}
use Rattle.sc_code.specs.Determined.{IsKept, IsZeroSlot, IsRefutation}
use Rattle.sc_window.specs.Window.{symbols_of, IsZeroWhereKept}

-- A stream of elements with a block for each flag, which is zero in each kept slot, in block and parity, and whose block 0
-- isn't zero.
pub record IsDifference {A : Type 0} (IsElement : A → Type 0) (zero : A) (add mul : A → A → A) (code : Code A) (class : List Bool) (xs : List (List A)) : Type 0 where
  pub blocks : All (IsVector IsElement code.k) xs
  pub count : length xs ≡ length class
  pub zeros : IsZeroWhereKept zero add mul code class xs
  pub block_differs : slice_index_or xs 0 [] ≢ replicate code.k zero

-- Of the streams in the set Q, the one that comes first where they are compared symbol by symbol, block after block, by the
-- numbers of the symbols.
pub record IsLeastStream {A : Type 0} (zero : A) (number : A → ℕ) (Q : List (List A) → Type 0) (xs : List (List A)) : Type 0 where
  pub belongs : Q xs
  pub least : (ys : List (List A)) → Q ys → (xs ≡ ys) ⊎ IsBefore zero number (symbols_of xs) (symbols_of ys)

-- the lists of numbers are those of the symbols of the least difference
pub record IsLeastDifference {A : Type 0} (IsElement : A → Type 0) (zero : A) (add mul : A → A → A) (number : A → ℕ) (code : Code A) (class : List Bool) (numbers : List (List ℕ)) : Type 0 where
  pub stream : List (List A)
  pub is_least : IsLeastStream zero number (IsDifference IsElement zero add mul code class) stream
  pub are_numbers : numbers ≡ map (map number) stream

-- A stream of width 1 with a block for each flag, which is zero in each kept slot, in block and parity, and whose block 0
-- isn't zero.
pub record IsByteDifference {A : Type 0} (zero : A) (act : A → ℕ → ℕ) (code : Code A) (class : List Bool) (xs : List (List (List ℕ))) : Type 0 where
  pub stream : IsStream code.k 1 xs
  pub blocks : length xs ≡ length class
  pub zeros : (i : ℕ) → IsKept class i → IsZeroSlot zero act code 1 xs i
  pub block_differs : block_at xs 0 ≢ zero_block code.k 1

-- the least of these, by their bytes
abbrev pub IsLeastByteDifference : {A : Type 0} → A → (A → ℕ → ℕ) → Code A → List Bool → List (List (List ℕ)) → Type 0
IsLeastByteDifference zero act code class xs = IsLeastStream [] (λ symbol. slice_index symbol 0) (IsByteDifference zero act code class) xs

-- the least stream that refutes a code with a loss, by its bytes
abbrev pub IsLeastRefutation : {A : Type 0} → A → (A → ℕ → ℕ) → Code A → ChannelNumbers → List Bool → List (List (List ℕ)) → Type 0
IsLeastRefutation zero act code channel loss xs = IsLeastStream [] (λ symbol. slice_index symbol 0) (IsRefutation zero act code channel loss) xs
