-- The equations of a taken slot, as rows of coefficients over the symbols of the kept blocks: a column for each symbol of each
-- place, place after place.
use Rattle.std.specs.Prelude.{◌≡◌, ℕ, zero as naught, suc, ◌-◌, List, [], ◌∷◌, length, map, take, drop, flat_map, bit_xor, ◌<◌, slice_index_or, nat_eq, nat_le, ◌&&◌, if◌then◌else◌}
use Rattle.std.specs.List.{range_with_len}
use Rattle.sc_matrix.specs.Vector.{combination}
use Rattle.sc_code.specs.Code.{Code, coefficient}
use Rattle.sc_code.specs.Stream.{IsStream}
use Rattle.sc_slots.specs.Taken.{Taken}

-- the symbols of some blocks, in order
abbrev pub symbols_of : List (List (List ℕ)) → List (List ℕ)
symbols_of blocks = flat_map (λ block. block) blocks

-- a row over the symbols of `places` blocks of k symbols, from the coefficient of each place and symbol
abbrev pub row_of : {A : Type 0} → ℕ → ℕ → (ℕ → ℕ → A) → List A
row_of k places f = flat_map (λ p. map (f p) (range_with_len 0 k)) (range_with_len 0 places)

module _ {A : Type 0} (zero one : A) where
  -- symbol i of the block at a place
  abbrev pub symbol_row : ℕ → ℕ → ℕ → ℕ → List A
  symbol_row k places place i = row_of k places (λ p s. if nat_eq p place && nat_eq s i then one else zero)

  -- parity symbol j of the slot at a place: the block p places before it counts with the matrix of lag p
  abbrev pub parity_row : Code A → ℕ → ℕ → ℕ → List A
  parity_row code places place j = row_of code.k places (λ p s. if nat_le p place then coefficient zero code (place - p) s j else zero)

-- the rows of a taken slot at a place, of n places, give the slot's symbols
pub record MeetsRows {A : Type 0} (zero one : A) (act : A → ℕ → ℕ) (k m n : ℕ) (slot : Taken A) (place : ℕ) (symbols : List (List ℕ)) : Type 0 where
  pub of_block : (i : ℕ) → i < k → combination 0 bit_xor act m (symbol_row zero one k n place i) symbols ≡ slice_index_or slot.block i []
  pub of_parity : (j : ℕ) → j < slot.code.r → combination 0 bit_xor act m (parity_row zero one slot.code n place j) symbols ≡ slice_index_or slot.parity j []

-- n blocks of k symbols from their symbols
abbrev pub blocks_of : ℕ → ℕ → List (List ℕ) → List (List (List ℕ))
blocks_of k naught symbols = []
blocks_of k (suc n) symbols = take k symbols ∷ blocks_of k n (drop k symbols)

-- n blocks whose symbols are in a set
pub record HasSymbolsIn (k m n : ℕ) (set : List (List ℕ) → Type 0) (blocks : List (List (List ℕ))) : Type 0 where
  pub is_stream : IsStream k m blocks
  pub count : length blocks ≡ n
  pub is_in : set (symbols_of blocks)
