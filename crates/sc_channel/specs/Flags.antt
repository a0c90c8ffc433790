-- Lists of flags, one a slot, where a set flag means that the slot is lost (an erasure).
use Rattle.std.specs.Prelude.{◌≡◌, ℕ, suc, ◌+◌, ◌-◌, Bool, true, false, List, [], ◌∷◌, Option, Some, None, count_by, position, take, drop, slice_index_or}

-- flag i is set
abbrev pub IsSet : List Bool → ℕ → Type 0
IsSet flags i = slice_index_or flags i false ≡ true

-- how many flags are set
abbrev pub set_count : List Bool → ℕ
set_count flags = count_by (λ flag. flag) flags

-- the place of the first set flag
abbrev pub first_set : List Bool → Option ℕ
first_set flags = position (λ flag. flag) flags

-- the place of the last set flag of a list, from its first flag and the place in the rest
abbrev pub last_of : Bool → Option ℕ → Option ℕ
last_of flag (Some place) = Some (suc place)
last_of true None = Some 0
last_of false None = None

-- the place of the last set flag
abbrev pub last_set : List Bool → Option ℕ
last_set [] = None
last_set (flag ∷ flags) = last_of flag (last_set flags)

-- the number of places from the first to the last, both counted, and 0 where there is none
abbrev pub places_across : Option ℕ → Option ℕ → ℕ
places_across (Some first) (Some last) = last - first + 1
places_across _ _ = 0

-- the span of the set flags: last set place minus first set place plus 1, and 0 where none is set
unfoldable pub span : List Bool → ℕ
span flags = places_across (first_set flags) (last_set flags)

-- window i begins at flag i and has w flags, or as many as are left
abbrev pub window : ℕ → ℕ → List Bool → List Bool
window w i flags = take w (drop i flags)
