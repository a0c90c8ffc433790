-- How many flags of a list are set, and where.
use Rattle.std.proofs.Common.{◌≡◌, ℕ, suc, ◌+◌, ◌<◌, ◌≤◌, Bool, true, false, cond, List, [], ◌∷◌, ◌++◌, length, get_or, take, drop, refl, arith, sym, ◌∙◌, inl, inr}
use Rattle.std.proofs.lemmas.Bool.{both_ways, cases_lt}
use Rattle.std.proofs.lemmas.List.{get_or_past, get_or-take, get_or-drop, get_or-append-add, get_or_append_left, length-take, take-take}
use Rattle.std.proofs.lemmas.List.Sums.{sum_by-cons, sum_by-take-drop, sum_by-take-le, sum_by_more}
use Rattle.sc_channel.specs.Flags.{IsSet, set_count}

-- a set flag stands within the list
pub IsSet-in_range : (flags : List Bool) (i : ℕ) → IsSet flags i → i < length flags
IsSet-in_range flags i set =
    elim (cases_lt i (length flags)) [ inl within ↦ within | inr past ↦ absurd (both_ways _ (get_or_past flags i false past) set) ]

pub IsSet-take : (n : ℕ) (flags : List Bool) (i : ℕ) → IsSet (take n flags) i → (i < n) × IsSet flags i
IsSet-take n flags i set =
    let within : i < length (take n flags) = IsSet-in_range (take n flags) i set in
    let below : i < n = omega (arith, length-take n flags) in
    (below, sym (get_or-take n flags i false below) ∙ set)

pub IsSet-take_from : (n : ℕ) (flags : List Bool) (i : ℕ) → i < n → IsSet flags i → IsSet (take n flags) i
IsSet-take_from n flags i below set = get_or-take n flags i false below ∙ set

pub IsSet-drop : (n : ℕ) (flags : List Bool) (i : ℕ) → IsSet (drop n flags) i → IsSet flags (n + i)
IsSet-drop n flags i set = sym (get_or-drop n flags i false) ∙ set

pub IsSet-drop_from : (n : ℕ) (flags : List Bool) (i : ℕ) → IsSet flags (n + i) → IsSet (drop n flags) i
IsSet-drop_from n flags i set = get_or-drop n flags i false ∙ set

-- a set flag of a part is one of the whole
pub IsSet-part : (before part after : List Bool) (i : ℕ) → IsSet part i → IsSet (before ++ (part ++ after)) (length before + i)
IsSet-part before part after i set =
    get_or-append-add before (part ++ after) i false ∙ (get_or_append_left part after false i (IsSet-in_range part i set) ∙ set)

pub set_count-cons : (flag : Bool) (flags : List Bool) → set_count (flag ∷ flags) ≡ cond flag 1 0 + set_count flags
set_count-cons flag flags = sum_by-cons (λ x. cond x 1 0) flag flags

cond-le : (flag : Bool) → cond flag 1 0 ≤ 1
cond-le true = omega arith
cond-le false = omega arith

-- flags that are set only where others are, are no more of them
pub set_count-fewer : (xs ys : List Bool) → ((k : ℕ) → IsSet ys k → IsSet xs k) → set_count ys ≤ set_count xs
set_count-fewer xs [] only = omega arith
set_count-fewer [] (true ∷ ys) only = absurd (both_ways _ refl (only 0 refl))
set_count-fewer [] (false ∷ ys) only =
    omega (arith, set_count-cons false ys, set_count-fewer [] ys (λ k set. only (suc k) set))
set_count-fewer (false ∷ xs) (true ∷ ys) only = absurd (both_ways _ refl (only 0 refl))
set_count-fewer (true ∷ xs) (y ∷ ys) only =
    omega (arith, set_count-cons true xs, set_count-cons y ys, cond-le y, set_count-fewer xs ys (λ k set. only (suc k) set))
set_count-fewer (false ∷ xs) (false ∷ ys) only =
    omega (arith, set_count-cons false xs, set_count-cons false ys, set_count-fewer xs ys (λ k set. only (suc k) set))

-- one more flag
pub set_count_more : (flags : List Bool) (i : ℕ) → i < length flags → set_count (take (i + 1) flags) ≡ set_count (take i flags) + cond (get_or flags i false) 1 0
set_count_more flags i within = sum_by_more (λ flag. cond flag 1 0) flags i false within

-- fewer of the first flags have fewer set ones
pub set_count_up_to : (flags : List Bool) (i j : ℕ) → i ≤ j → set_count (take i flags) ≤ set_count (take j flags)
set_count_up_to flags i j le =
    let shorter : set_count (take i (take j flags)) ≤ set_count (take j flags) = sum_by-take-le (λ flag. cond flag 1 0) (take j flags) i in
    rw (sym (take-take i j flags le)) shorter

-- the flags from i on among the first j
pub set_count-between : (flags : List Bool) (i j : ℕ) → i ≤ j → set_count (take i flags) + set_count (drop i (take j flags)) ≡ set_count (take j flags)
set_count-between flags i j le =
    let whole : set_count (take i (take j flags)) + set_count (drop i (take j flags)) ≡ set_count (take j flags) = sum_by-take-drop (λ flag. cond flag 1 0) (take j flags) i in
    rw (take-take i j flags le) at whole

-- the rest of a list has no more set flags than the list
pub set_count-drop : (i : ℕ) (flags : List Bool) → set_count (drop i flags) ≤ set_count flags
set_count-drop i flags = omega (arith, sum_by-take-drop (λ flag. cond flag 1 0) flags i)
