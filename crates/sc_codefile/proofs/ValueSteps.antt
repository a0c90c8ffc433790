-- A list of values reads as what they were made of.
use Rattle.std.proofs.Common.{◌≡◌, ℕ, List, [], ◌∷◌, Option, Some, map, refl}
use Rattle.serde_json.specs.Data.{Data}
use Rattle.serde_json.specs.View.{items_of}
use Rattle.sc_codefile.specs.Value.{all_of, list_of, array_of, whole_number, number_value}

module _ {A : Type 0} (shape : Data → Option A) where
  all_of-array : (value : A → Data) → ((x : A) → shape (value x) ≡ Some x) → (xs : List A) → all_of shape (items_of (map value xs)) ≡ Some xs
  all_of-array value each [] = refl
  all_of-array value each (x ∷ xs) = rw (each x, all_of-array value each xs) refl

  list_of-array : (value : A → Data) → ((x : A) → shape (value x) ≡ Some x) → (xs : List A) → list_of shape (array_of value xs) ≡ Some xs
  list_of-array value each xs = all_of-array value each xs

whole_number-value : (n : ℕ) → whole_number (number_value n) ≡ Some n
whole_number-value n = refl

pub numbers-array : (xs : List ℕ) → list_of whole_number (array_of number_value xs) ≡ Some xs
numbers-array = list_of-array whole_number number_value whole_number-value

rows-array : (xs : List (List ℕ)) → list_of (list_of whole_number) (array_of (array_of number_value) xs) ≡ Some xs
rows-array = list_of-array (list_of whole_number) (array_of number_value) numbers-array

pub lags-array : (xs : List (List (List ℕ))) → list_of (list_of (list_of whole_number)) (array_of (array_of (array_of number_value)) xs) ≡ Some xs
lags-array = list_of-array (list_of (list_of whole_number)) (array_of (array_of number_value)) rows-array
