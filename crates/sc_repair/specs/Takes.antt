-- What taking a slot answers.
use Rattle.std.specs.Prelude.{◌≡◌, ℕ, ◌+◌, List, [], ◌∷◌, ◌++◌, Result, Ok, Err}
use Rattle.sc_field.specs.Gf256.{gf256_product}
use Rattle.sc_slots.specs.Taken.{Taken}
use Rattle.sc_slots.specs.Repair.{IsClash}
use Rattle.sc_repair.specs.declared.repairer.TakeFault.{TakeFault}
use Rattle.sc_repair.specs.declared.repairer.TakeFault.TheVariants.{Clash}
use Rattle.sc_repair.specs.Repairer.{Repairer}
use Rattle.sc_repair.specs.Stands.{Stands}

-- The slot is taken, and the repairer stands for the history with it; or there is a clash at it.
abbrev pub Takes : Repairer → Repairer → List (Taken ℕ) → Taken ℕ → Result (Unit {0}) TakeFault → Type 0
Takes old new taken slot (Ok u) = Stands new (taken ++ slot ∷ []) × (IsClash 0 gf256_product old.k old.m (taken ++ slot ∷ []) old.passed → ⊥)
Takes old new taken slot (Err (Clash number)) = IsClash 0 gf256_product old.k old.m (taken ++ slot ∷ []) old.passed

-- one slot more is passed, or none; the other numbers stay
pub record SameNumbers (old new : Repairer) : Type 0 where
  pub k : new.k ≡ old.k
  pub r : new.r ≡ old.r
  pub memory : new.memory ≡ old.memory
  pub deadline : new.deadline ≡ old.deadline
  pub m : new.m ≡ old.m
  pub next : new.next ≡ old.next
  pub finished : new.finished ≡ old.finished
  pub own : new.own ≡ old.own

abbrev pub TakeCounts : Repairer → Repairer → Result (Unit {0}) TakeFault → Type 0
TakeCounts old new (Ok u) = (new.passed ≡ old.passed + 1) × SameNumbers old new
TakeCounts old new (Err (Clash number)) = (new.passed ≡ old.passed) × (number ≡ old.passed) × SameNumbers old new
