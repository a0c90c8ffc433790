-- The rows of a window matrix, for private contracts alone.
use Rattle.std.specs.Prelude.{ℕ, suc, ◌*◌, ◌-◌, List, [], ◌∷◌, ◌++◌, Bool, true, false, map, nat_le, if◌then◌else◌}
use Rattle.std.specs.List.{range_with_len}
use Rattle.sc_channel.specs.Flags.{set_count}
use Rattle.sc_matrix.specs.Matrix.{Matrix}
use Rattle.sc_code.specs.Code.{Code, coefficient}

-- What symbol i of slot s gives to parity symbol j of slot t. A later slot gives nothing.
abbrev pub window_entry : {A : Type 0} → A → Code A → ℕ → ℕ → ℕ → ℕ → A
window_entry zero code t j s i = if nat_le s t then coefficient zero code (t - s) i j else zero

-- that of each symbol of slot s
abbrev pub block_entries : {A : Type 0} → A → Code A → ℕ → ℕ → ℕ → List A
block_entries zero code t j s = map (window_entry zero code t j s) (range_with_len 0 code.k)

-- that of each symbol of the lost slots, where the first flag is that of slot s
abbrev pub window_row : {A : Type 0} → A → Code A → ℕ → ℕ → ℕ → List Bool → List A
window_row zero code t j s [] = []
window_row zero code t j s (true ∷ flags) = block_entries zero code t j s ++ window_row zero code t j (suc s) flags
window_row zero code t j s (false ∷ flags) = window_row zero code t j (suc s) flags

-- a row for each parity symbol of slot t
abbrev pub slot_rows : {A : Type 0} → A → Code A → List Bool → ℕ → List (List A)
slot_rows zero code class t = map (λ j. window_row zero code t j 0 class) (range_with_len 0 code.r)

-- those of the kept slots, where the first flag is that of slot t
abbrev pub window_rows : {A : Type 0} → A → Code A → List Bool → ℕ → List Bool → List (List A)
window_rows zero code class t [] = []
window_rows zero code class t (true ∷ flags) = window_rows zero code class (suc t) flags
window_rows zero code class t (false ∷ flags) = slot_rows zero code class t ++ window_rows zero code class (suc t) flags

-- the whole matrix
abbrev pub window_of : {A : Type 0} → A → Code A → List Bool → Matrix A
window_of zero code class = record { cols = code.k * set_count class; rows = window_rows zero code class 0 class }
