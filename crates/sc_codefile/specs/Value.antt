-- What a JSON value has: the value that bytes are, its keys, whole numbers and lists.
use Rattle.std.specs.Prelude.{◌≡◌, ℕ, List, [], ◌∷◌, Bool, not, Option, Some, is_some, IsUtf8, map, bytes_eq, option_map, option_and_then}
use Rattle.std.specs.List.{list_any}
use Rattle.serde_json.specs.Data.{Data, number, array, object, unsigned, Items, no_items, item, Members, no_members, member}
use Rattle.serde_json.specs.Read.{read}
use Rattle.serde_json.specs.Find.{as_object, as_array, as_number, as_u64}
use Rattle.serde_json.specs.View.{items_of}

-- The value that `serde_json` reads from the bytes. They have at most one.
pub record IsValueOf (text : List ℕ) (d : Data) : Type 0 where
  pub utf8 : IsUtf8 text
  pub is_read : read text ≡ Some d

-- `serde_json` reads no value from the bytes
abbrev pub IsNotJson : List ℕ → Type 0
IsNotJson text = (d : Data) → ¬ IsValueOf text d

abbrev pub member_keys : Members → List (List ℕ)
member_keys no_members = []
member_keys (member k d ms) = k ∷ member_keys ms

-- the keys of an object, and none of any other value
abbrev pub keys_of : Data → List (List ℕ)
keys_of (object ms) = member_keys ms
keys_of _ = []

unfoldable pub is_object : Data → Bool
is_object d = is_some (as_object d)

-- a key is one of these
abbrev pub is_among : List (List ℕ) → List ℕ → Bool
is_among keys k = list_any (bytes_eq k) keys

-- the value has a key that is none of these
unfoldable pub has_other_key : List (List ℕ) → Data → Bool
has_other_key keys d = list_any (λ k. not (is_among keys k)) (keys_of d)

-- A whole number is a number that is read as an unsigned one of 64 bits. One with a point or an exponent is none.
abbrev pub whole_number : Data → Option ℕ
whole_number d = option_and_then as_u64 (as_number d)

module _ {A : Type 0} where
  -- what all the items are, where each has a shape
  abbrev pub all_of : (Data → Option A) → Items → Option (List A)
  all_of shape no_items = Some []
  all_of shape (item d ds) = option_and_then (λ x. option_map (λ xs. x ∷ xs) (all_of shape ds)) (shape d)

  -- a list of items that each have a shape
  abbrev pub list_of : (Data → Option A) → Data → Option (List A)
  list_of shape d = option_and_then (all_of shape) (as_array d)

  -- the value that is the list of these
  abbrev pub array_of : (A → Data) → List A → Data
  array_of value xs = array (items_of (map value xs))

-- the value that is a whole number
abbrev pub number_value : ℕ → Data
number_value n = number (unsigned n)
