-- Vectors, as lists of their entries, in the standard terms of linear algebra. A scalar may be of another type than an
-- entry: a field's elements multiply elements, bytes, and vectors of these. The operations are parameters, so that a
-- clause writes `F.add` and `F.mul`, or `bit_xor` and `F.act`.
use Rattle.std.specs.Prelude.{◌≡◌, ℕ, Bool, true, false, List, [], ◌∷◌, map, replicate, length, All, slice_set}

-- a vector of n entries of a kind, as elements of a field, or bytes
pub record IsVector {A : Type 0} (IsEntry : A → Type 0) (n : ℕ) (v : List A) : Type 0 where
  pub width : length v ≡ n
  pub entries : All IsEntry v

-- the sum of two vectors, entry by entry
abbrev pub add_vectors : {A : Type 0} → (A → A → A) → List A → List A → List A
add_vectors add [] ys = []
add_vectors add (x ∷ xs) [] = []
add_vectors add (x ∷ xs) (y ∷ ys) = add x y ∷ add_vectors add xs ys

-- a scalar times a vector
abbrev pub scale_vector : {C A : Type 0} → (C → A → A) → C → List A → List A
scale_vector mul c xs = map (mul c) xs

-- the dot product of a vector of scalars and a vector: the sum of the products entry by entry
abbrev pub dot : {C A : Type 0} → A → (A → A → A) → (C → A → A) → List C → List A → A
dot zero add mul [] ys = zero
dot zero add mul (x ∷ xs) [] = zero
dot zero add mul (x ∷ xs) (y ∷ ys) = add (mul x y) (dot zero add mul xs ys)

-- The linear combination of vectors of n entries: each coefficient times its vector, summed. So it is the dot product of
-- the coefficients and the vectors, by the operations on vectors.
abbrev pub combination : {C A : Type 0} → A → (A → A → A) → (C → A → A) → ℕ → List C → List (List A) → List A
combination zero add mul n cs vs = dot (replicate n zero) (add_vectors add) (scale_vector mul) cs vs

-- the vector of n entries that has a one at place i and zeros elsewhere
abbrev pub unit_vector : {A : Type 0} → A → A → ℕ → ℕ → List A
unit_vector zero one n i = slice_set (replicate n zero) i one

-- the entries at the places whose flags are set, in order
abbrev pub picked : {A : Type 0} → List Bool → List A → List A
picked flags [] = []
picked [] (x ∷ xs) = []
picked (true ∷ flags) (x ∷ xs) = x ∷ picked flags xs
picked (false ∷ flags) (x ∷ xs) = picked flags xs

-- a vector with these entries, in order, at the places whose flags are set, and zeros elsewhere
abbrev pub spread : {A : Type 0} → A → List Bool → List A → List A
spread zero [] xs = []
spread zero (true ∷ flags) [] = zero ∷ spread zero flags []
spread zero (true ∷ flags) (x ∷ xs) = x ∷ spread zero flags xs
spread zero (false ∷ flags) xs = zero ∷ spread zero flags xs
