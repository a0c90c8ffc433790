-- What it means that a slot fits those taken before it.
use Rattle.std.specs.Prelude.{◌≡◌, ◌≢◌, ℕ, Bool, true, false, Result, Ok, Err}
use Rattle.sc_slots.specs.Slot.{Slot}
use Rattle.sc_repair.specs.declared.repairer.EndState.{EndState}
use Rattle.sc_repair.specs.declared.repairer.EndState.TheVariants.{Least, Known}
use Rattle.sc_repair.specs.declared.repairer.Unfit.{Unfit}
use Rattle.sc_repair.specs.declared.repairer.Unfit.TheVariants.{OtherWidth, OtherEnd}
use Rattle.sc_repair.specs.Repairer.{Repairer, FitsEnd}

-- the end so far
abbrev pub end_so_far : Bool → ℕ → EndState
end_so_far true end = Known end
end_so_far false end = Least end

-- what is answered: the width is looked at first
abbrev pub FitGives : Repairer → Slot → Result (Unit {0}) Unfit → Type 0
FitGives s slot (Ok u) = (slot.m ≡ s.m) × FitsEnd s.is_claimed s.end slot.number slot.end
FitGives s slot (Err (OtherWidth number was now)) = (slot.m ≢ s.m) × (number ≡ slot.number) × (was ≡ s.m) × (now ≡ slot.m)
FitGives s slot (Err (OtherEnd number was now)) =
    (slot.m ≡ s.m) × (FitsEnd s.is_claimed s.end slot.number slot.end → ⊥)
    × (number ≡ slot.number) × (was ≡ end_so_far s.is_claimed s.end) × (now ≡ slot.end)
