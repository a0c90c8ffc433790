-- How a matrix lies in memory: the rows side by side in one list of bytes, which are the numbers of the entries.
use Rattle.std.specs.Prelude.{ℕ, suc, List, [], ◌∷◌, map, take, drop, zero}
use Rattle.sc_matrix.specs.Matrix.{Matrix}

-- a list cut into n rows of c entries
abbrev pub cut : {A : Type 0} → ℕ → ℕ → List A → List (List A)
cut zero c xs = []
cut (suc n) c xs = take c xs ∷ cut n c (drop c xs)

-- the matrix of n rows and c columns whose rows lie side by side in xs
abbrev pub laid_out : {A : Type 0} → ℕ → ℕ → List A → Matrix A
laid_out n c xs = record { cols = c; rows = cut n c xs }

-- the matrix with f of each entry
abbrev pub map_matrix : {A B : Type 0} → (A → B) → Matrix A → Matrix B
map_matrix f m = record { cols = m.cols; rows = map (map f) m.rows }
