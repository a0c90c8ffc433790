-- The slots that a repairer takes.
use Rattle.std.specs.Prelude.{◌≡◌, ℕ, ◌+◌, ◌-◌, ◌<◌, ◌≤◌, ⊤, List, [], ◌∷◌, length, take, slice_index_or, Option, Some, None, Contains, AllPairs, max, nat_le, nat_eq, if◌then◌else◌}
use Rattle.sc_matrix.specs.Layout.{cut}
use Rattle.sc_code.specs.Code.{Code}
use Rattle.sc_slots.specs.Slot.{Slot}

-- A taken slot: its number, its end byte (0 for a source slot, and j for flush slot j), its version, the code that its
-- parity is by, its block and its parity.
pub record Taken (A : Type 0) : Type 0 where
  pub number : ℕ
  pub end : ℕ
  pub version : ℕ
  pub code : Code A
  pub block : List (List ℕ)
  pub parity : List (List ℕ)

-- a slot that came, version 1, where its parity is by this code
abbrev pub taken_slot : {A : Type 0} → Code A → Slot → Taken A
taken_slot code s = record {
  number = s.number;
  end = s.end;
  version = 1;
  code = code;
  block = cut code.k s.m s.block;
  parity = cut code.r s.m s.parity;
}

-- the number claimed, or else the one given
abbrev pub claimed_or : ℕ → Option ℕ → ℕ
claimed_or otherwise (Some n) = n
claimed_or otherwise None = otherwise

module _ {A : Type 0} where
  -- The slots that are taken, of those that come: each whose number is above that of every slot before it. The first
  -- argument is the least number that is taken.
  abbrev pub taken_from : ℕ → List (Taken A) → List (Taken A)
  taken_from least [] = []
  taken_from least (slot ∷ slots) =
      if nat_le least slot.number then slot ∷ taken_from (slot.number + 1) slots else taken_from least slots

  -- the numbers of taken slots rise
  abbrev pub IsRising : List (Taken A) → Type 0
  IsRising taken = AllPairs (λ a b. a.number < b.number) taken

  -- the same, from a least number on
  abbrev pub IsRisingFrom : ℕ → List (Taken A) → Type 0
  IsRisingFrom least [] = ⊤
  IsRisingFrom least (slot ∷ taken) = (least ≤ slot.number) × IsRisingFrom (slot.number + 1) taken

  -- every taken slot is below w
  abbrev pub AllBelow : List (Taken A) → ℕ → Type 0
  AllBelow taken w = (slot : Taken A) → Contains taken slot → slot.number < w

  -- slot u is taken
  abbrev pub IsTakenAt : List (Taken A) → ℕ → Type 0
  IsTakenAt taken u = (slot : Taken A) × Contains taken slot × (slot.number ≡ u)

  -- one above the greatest taken number, or 0
  abbrev pub one_past : List (Taken A) → ℕ
  one_past [] = 0
  one_past (slot ∷ taken) = max (slot.number + 1) (one_past taken)

  -- the end that the first flush slot claims, if there is one: flush slot j of number u claims u + 1 - j
  abbrev pub claimed : List (Taken A) → Option ℕ
  claimed [] = None
  claimed (slot ∷ taken) = if nat_eq slot.end 0 then claimed taken else Some (slot.number + 1 - slot.end)

  -- one above the greatest source slot taken, or 0
  abbrev pub least_end : List (Taken A) → ℕ
  least_end [] = 0
  least_end (slot ∷ taken) = if nat_eq slot.end 0 then max (slot.number + 1) (least_end taken) else least_end taken

  -- the known end: the end that is claimed, or else one above the greatest taken number, or 0
  abbrev pub known_end : List (Taken A) → ℕ
  known_end taken = claimed_or (one_past taken) (claimed taken)

-- A slot fits the ends claimed before it: a source slot comes before any claim, the first claim is no less than the source
-- slots taken, and each later claim is the same.
pub data HasFittingEnd {A : Type 0} (taken : List (Taken A)) (slot : Taken A) : Type 0 where
  source : slot.end ≡ 0 → claimed taken ≡ None → HasFittingEnd taken slot
  first_claim : 0 < slot.end → claimed taken ≡ None → least_end taken ≤ slot.number + 1 - slot.end → HasFittingEnd taken slot
  same_claim : 0 < slot.end → claimed taken ≡ Some (slot.number + 1 - slot.end) → HasFittingEnd taken slot

-- Each taken slot fits the ends claimed before it.
abbrev pub HaveFittingEnds : {A : Type 0} → List (Taken A) → Type 0
HaveFittingEnds {A} taken = (i : ℕ) (d : Taken A) → i < length taken → HasFittingEnd (take i taken) (slice_index_or taken i d)
