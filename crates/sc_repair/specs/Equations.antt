-- What the steps of taking a slot do to what is known, for private contracts alone.
use Rattle.std.specs.Prelude.{◌≡◌, ◌↔◌, ℕ, ◌+◌, ◌-◌, ◌*◌, ◌<◌, ◌≤◌, Bool, true, false, Option, Some, None, List, [], replicate, slice_index_or, slice_set, bit_xor}
use Rattle.sc_field.specs.Gf256.{gf256_product}
use Rattle.sc_matrix.specs.Vector.{combination}
use Rattle.sc_matrix.specs.Layout.{cut}
use Rattle.sc_code.specs.Code.{Code}
use Rattle.sc_echelon.specs.Knowledge.{Knowledge, IsSolution, IsOpenAt, IsValueAt}
use Rattle.sc_slots.specs.Rows.{symbol_row, parity_row}

-- the solutions of new are those of old that have the property
abbrev pub Learns : Knowledge ℕ → Knowledge ℕ → (List (List ℕ) → Type 0) → Type 0
Learns old new Has = (symbols : List (List ℕ)) → IsSolution gf256_product new symbols ↔ (IsSolution gf256_product old symbols × Has symbols)

-- no solution has it
abbrev pub Refuses : Knowledge ℕ → (List (List ℕ) → Type 0) → Type 0
Refuses old Has = (symbols : List (List ℕ)) → IsSolution gf256_product old symbols → Has symbols → ⊥

-- the symbols' sum with these coefficients
abbrev pub Gives : ℕ → List ℕ → List ℕ → List (List ℕ) → Type 0
Gives m row right symbols = combination 0 bit_xor gf256_product m row symbols ≡ right

-- the columns from one on, of n, have these byte strings, which stand side by side
abbrev pub HasColumns : ℕ → ℕ → ℕ → ℕ → List ℕ → List (List ℕ) → Type 0
HasColumns n w first count bytes symbols =
    (i : ℕ) → i < count → Gives w (slice_set (replicate n 0) (first + i) 1) (slice_index_or (cut count w bytes) i []) symbols

-- the first symbols of the block at a place of n are these
abbrev pub HasSymbols : ℕ → ℕ → ℕ → ℕ → ℕ → List ℕ → List (List ℕ) → Type 0
HasSymbols k m n place count block symbols =
    (i : ℕ) → i < count → Gives m (symbol_row 0 1 k n place i) (slice_index_or (cut k m block) i []) symbols

-- the first parity symbols of the slot at a place of n are these
abbrev pub HasParities : Code ℕ → ℕ → ℕ → ℕ → ℕ → List ℕ → List (List ℕ) → Type 0
HasParities code m n place count parity symbols =
    (j : ℕ) → j < count → Gives m (parity_row 0 1 code n place j) (slice_index_or (cut code.r m parity) j []) symbols

-- each solution has these symbols at the place
abbrev pub IsBlockAt : Knowledge ℕ → ℕ → ℕ → List ℕ → ℕ → Type 0
IsBlockAt known k m block place = (i : ℕ) → i < k → IsValueAt gf256_product known (place * k + i) (slice_index_or (cut k m block) i [])

-- two solutions differ in a symbol there
pub record IsOpenPlace (known : Knowledge ℕ) (k place : ℕ) : Type 0 where
  pub symbol : ℕ
  pub within : symbol < k
  pub is_open : IsOpenAt gf256_product known (place * k + symbol)

-- the equations of a slot at a place were told, first those of its block
pub record LearnsSlot (old new : Knowledge ℕ) (code : Code ℕ) (m n place : ℕ) (block parity : List ℕ) : Type 0 where
  pub mid : Knowledge ℕ
  pub of_block : Learns old mid (HasSymbols code.k m n place code.k block)
  pub of_parity : Learns mid new (HasParities code m n place code.r parity)

-- no solution meets them: those of the block, or then those of the parity
pub data RefusesSlot (old : Knowledge ℕ) (code : Code ℕ) (m n place : ℕ) (block parity : List ℕ) : Type 0 where
  at_block : Refuses old (HasSymbols code.k m n place code.k block) → RefusesSlot old code m n place block parity
  at_parity : (mid : Knowledge ℕ) → Learns old mid (HasSymbols code.k m n place code.k block) → Refuses mid (HasParities code m n place code.r parity) → RefusesSlot old code m n place block parity

-- each place from slot `from` up to slot `to` is open and of no slot below the end
abbrev pub AreOpenFrom : Knowledge ℕ → ℕ → ℕ → ℕ → ℕ → ℕ → Type 0
AreOpenFrom known k front end from to = (i : ℕ) → from ≤ i → i < to → (end ≤ i) × IsOpenPlace known k (i - front)

-- what the search for the next slot from `from` on finds: one that has a block, one below the end that has none, or neither
abbrev pub FindsLeft : Knowledge ℕ → ℕ → ℕ → ℕ → ℕ → ℕ → ℕ → List ℕ → Option (ℕ × Bool) → Type 0
FindsLeft known k m front end from to block (Some (slot, true)) =
    (from ≤ slot) × (slot < to) × IsBlockAt known k m block (slot - front) × AreOpenFrom known k front end from slot
FindsLeft known k m front end from to block (Some (slot, false)) =
    (from ≤ slot) × (slot < to) × (slot < end) × IsOpenPlace known k (slot - front) × AreOpenFrom known k front end from slot
FindsLeft known k m front end from to block None = AreOpenFrom known k front end from to
