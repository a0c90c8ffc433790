-- What is printed for a code file's value: its text, how deep it nests, and that it has no float.
use Rattle.std.proofs.Common.{◌≡◌, ℕ, suc, ◌≤◌, true, false, List, [], ◌∷◌, ◌++◌, map, codes, decimal, refl, sym, ap, ap₂, ◌∙◌, append_assoc, arith}
use Rattle.std.specs.List.{flat_map}
use Rattle.serde_json.specs.Data.{Data, object, member, no_members, depth, items_depth}
use Rattle.serde_json.specs.View.{items_of}
use Rattle.serde_json.specs.Written.{compact_text, items_text, has_float}
use Rattle.serde_json.proofs.OnLiterals.{serde_json_on_literals}
use Rattle.sc_code.specs.declared.code.CodeFile.{CodeFile}
use Rattle.sc_codefile.specs.Value.{array_of, number_value}
use Rattle.sc_codefile.specs.CodeFile.{rows_of}
use Rattle.sc_codefile.specs.CodeText.{list_text, four_numbers, code_text, code_value}

module _ {A : Type 0} (value : A → Data) where
  rest_text : (text : A → List ℕ) → ((x : A) → compact_text (value x) ≡ text x) → (xs : List A)
      → items_text true (items_of (map value xs)) ≡ flat_map (λ y. codes "," ++ text y) xs ++ codes "]"
  rest_text text each [] = refl
  rest_text text each (x ∷ xs) =
      ap (λ ys. 44 ∷ ys) (ap₂ (λ a b. a ++ b) (each x) (rest_text text each xs) ∙ sym (append_assoc (text x) (flat_map (λ y. codes "," ++ text y) xs) (codes "]")))

  pub list_text-array : (text : A → List ℕ) → ((x : A) → compact_text (value x) ≡ text x) → (xs : List A)
      → compact_text (array_of value xs) ≡ list_text text xs
  list_text-array text each [] = refl
  list_text-array text each (x ∷ xs) =
      ap (λ ys. 91 ∷ ys) (ap₂ (λ a b. a ++ b) (each x) (rest_text text each xs) ∙ sym (append_assoc (text x) (flat_map (λ y. codes "," ++ text y) xs) (codes "]")))

  items_depth-array : (n : ℕ) → ((x : A) → depth (value x) ≤ n) → (xs : List A) → items_depth (items_of (map value xs)) ≤ n
  items_depth-array n each [] = omega arith
  items_depth-array n each (x ∷ xs) = omega (arith, each x, items_depth-array n each xs)

  pub depth-array : (n : ℕ) → ((x : A) → depth (value x) ≤ n) → (xs : List A) → depth (array_of value xs) ≤ suc n
  depth-array n each xs = omega (arith, items_depth-array n each xs)

  pub no_float-array : ((x : A) → has_float (value x) ≡ false) → (xs : List A) → has_float (array_of value xs) ≡ false
  no_float-array each [] = refl
  no_float-array each (x ∷ xs) = rw (each x) (no_float-array each xs)

pub numbers_text : (xs : List ℕ) → compact_text (array_of number_value xs) ≡ list_text decimal xs
numbers_text = list_text-array number_value decimal (λ n. refl)

rows_text : (xs : List (List ℕ)) → compact_text (array_of (array_of number_value) xs) ≡ list_text (list_text decimal) xs
rows_text = list_text-array (array_of number_value) (list_text decimal) numbers_text

lags_text : (xs : List (List (List ℕ))) → compact_text (array_of (array_of (array_of number_value)) xs) ≡ list_text (list_text (list_text decimal)) xs
lags_text = list_text-array (array_of (array_of number_value)) (list_text (list_text decimal)) rows_text

-- the text of an object with the keys of a code file
object_text : (channel lags : Data) (k r : ℕ) (c l : List ℕ) → compact_text channel ≡ c → compact_text lags ≡ l
    → compact_text (object (member (codes "channel") channel (member (codes "k") (number_value k) (member (codes "lags") lags (member (codes "r") (number_value r) no_members)))))
    ≡ codes "{\"channel\":" ++ (c ++ (codes ",\"k\":" ++ (decimal k ++ (codes ",\"lags\":" ++ (l ++ (codes ",\"r\":" ++ (decimal r ++ codes "}")))))))
unfolding serde_json_on_literals
object_text channel lags k r c l shows_c shows_l = rw (shows_c, shows_l) refl

pub code_text-value : (file : CodeFile) → compact_text (code_value file) ≡ code_text file
code_text-value file =
    object_text (array_of number_value (four_numbers file.channel)) (array_of (array_of (array_of number_value)) (rows_of file.code.lags)) file.code.k file.code.r
    (list_text decimal (four_numbers file.channel)) (list_text (list_text (list_text decimal)) (rows_of file.code.lags))
    (numbers_text (four_numbers file.channel)) (lags_text (rows_of file.code.lags))

pub numbers_depth : (xs : List ℕ) → depth (array_of number_value xs) ≤ 1
numbers_depth = depth-array number_value 0 (λ n. omega arith)

rows_depth : (xs : List (List ℕ)) → depth (array_of (array_of number_value) xs) ≤ 2
rows_depth = depth-array (array_of number_value) 1 numbers_depth

lags_depth : (xs : List (List (List ℕ))) → depth (array_of (array_of (array_of number_value)) xs) ≤ 3
lags_depth = depth-array (array_of (array_of number_value)) 2 rows_depth

pub depth-value : (file : CodeFile) → depth (code_value file) ≤ 127
depth-value file = omega (arith, numbers_depth (four_numbers file.channel), lags_depth (rows_of file.code.lags))

pub numbers_no_float : (xs : List ℕ) → has_float (array_of number_value xs) ≡ false
numbers_no_float = no_float-array number_value (λ n. refl)

rows_no_float : (xs : List (List ℕ)) → has_float (array_of (array_of number_value) xs) ≡ false
rows_no_float = no_float-array (array_of number_value) numbers_no_float

lags_no_float : (xs : List (List (List ℕ))) → has_float (array_of (array_of (array_of number_value)) xs) ≡ false
lags_no_float = no_float-array (array_of (array_of number_value)) rows_no_float

pub no_float-value : (file : CodeFile) → has_float (code_value file) ≡ false
no_float-value file = rw (numbers_no_float (four_numbers file.channel), lags_no_float (rows_of file.code.lags)) refl
