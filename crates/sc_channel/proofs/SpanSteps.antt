-- The span of the set flags of a list, and that it is at most b where any two set flags lie less than b places apart.
use Rattle.std.proofs.Common.{ℕ, zero, suc, ◌+◌, ◌<◌, ◌≤◌, Bool, true, false, List, [], ◌∷◌, Option, Some, None, MatchOption, ◌↔◌, length, ltb, refl, arith, inl, inr}
use Rattle.std.specs.List.{position_or_len}
use Rattle.std.proofs.lemmas.Bool.{both_ways, cases_lt, cond_both, ltb-true, ltb-false}
use Rattle.std.proofs.lemmas.List.Sums.{fails_before_first, passes_at_first}
use Rattle.sc_channel.specs.Flags.{IsSet, first_set, last_of, last_set, places_across, span}
use Rattle.sc_channel.proofs.SetCountSteps.{IsSet-in_range}

-- any two set flags lie less than b places apart
abbrev pub SetWithin : ℕ → List Bool → Type 0
SetWithin b flags = (i j : ℕ) → IsSet flags i → IsSet flags j → j < i + b

abbrev NoneSet : List Bool → Type 0
NoneSet flags = (i : ℕ) → IsSet flags i → ⊥

-- this is the first set flag, or there is none
abbrev pub IsFirst : List Bool → Option ℕ → Type 0
IsFirst flags place = MatchOption place (NoneSet flags) (λ i. IsSet flags i × ((j : ℕ) → IsSet flags j → i ≤ j))

-- this is the last set flag, or there is none
abbrev pub IsLast : List Bool → Option ℕ → Type 0
IsLast flags place = MatchOption place (NoneSet flags) (λ i. IsSet flags i × ((j : ℕ) → IsSet flags j → j ≤ i))

pub first_set-IsFirst : (flags : List Bool) → IsFirst flags (first_set flags)
first_set-IsFirst flags =
    let first = position_or_len (λ (flag : Bool). flag) flags in
    cond_both (ltb first (length flags)) (Some first) None (λ place. IsFirst flags place)
    (λ e. (
      passes_at_first (λ flag. flag) flags false (ltb-true _ _ e),
      λ j set.
          elim (cases_lt j first) [ inl below ↦ absurd (both_ways _ (fails_before_first (λ flag. flag) flags j false below) set) | inr above ↦ above ],
    ))
    (λ e j set.
    let above : length flags ≤ first = ltb-false _ _ e in
    let within : j < length flags = IsSet-in_range flags j set in
    both_ways _ (fails_before_first (λ flag. flag) flags j false (omega arith)) set)

IsLast-cons : (flag : Bool) (flags : List Bool) (place : Option ℕ) → IsLast flags place → IsLast (flag ∷ flags) (last_of flag place)
IsLast-cons true flags (Some i) last = (last.0, λ j. elim j as (λ j. IsSet (true ∷ flags) j → j ≤ suc i) [ zero ↦ λ _. omega arith | suc k ↦ λ set. let le : k ≤ i = last.1 k set in omega arith ])
IsLast-cons false flags (Some i) last = (last.0, λ j. elim j as (λ j. IsSet (false ∷ flags) j → j ≤ suc i) [ zero ↦ λ _. omega arith | suc k ↦ λ set. let le : k ≤ i = last.1 k set in omega arith ])
IsLast-cons true flags None none = (refl, λ j. elim j as (λ j. IsSet (true ∷ flags) j → j ≤ 0) [ zero ↦ λ _. omega arith | suc k ↦ λ set. absurd (none k set) ])
IsLast-cons false flags None none = λ j. elim j as (λ j. IsSet (false ∷ flags) j → ⊥) [ zero ↦ λ set. both_ways _ refl set | suc k ↦ λ set. none k set ]

pub last_set-IsLast : (flags : List Bool) → IsLast flags (last_set flags)
last_set-IsLast [] = λ j set. both_ways _ refl set
last_set-IsLast (flag ∷ flags) = IsLast-cons flag flags (last_set flags) (last_set-IsLast flags)

places_across-le : (b : ℕ) (flags : List Bool) (first last : Option ℕ) → IsFirst flags first → IsLast flags last → (places_across first last ≤ b) ↔ SetWithin b flags
places_across-le b flags (Some f) (Some l) is_first is_last = (
  λ le i j set_i set_j. omega (arith, is_first.1 i set_i, is_last.1 j set_j),
  λ within. omega (arith, is_first.1 l is_last.0, within f l is_first.0 is_last.0),
)
places_across-le b flags (Some f) None is_first none =
    (λ le i j set_i set_j. absurd (none i set_i), λ within. omega arith)
places_across-le b flags None last none is_last =
    (λ le i j set_i set_j. absurd (none i set_i), λ within. omega arith)

-- a span is at most b exactly where any two set flags lie less than b places apart
pub span-le : (b : ℕ) (flags : List Bool) → (span flags ≤ b) ↔ SetWithin b flags
unfolding span
span-le b flags =
    places_across-le b flags (first_set flags) (last_set flags) (first_set-IsFirst flags) (last_set-IsLast flags)
