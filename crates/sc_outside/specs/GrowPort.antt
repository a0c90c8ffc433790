-- A port in memory that grows: what its calls depend on and change.
use Rattle.std.specs.Prelude.{◌≡◌, ℕ, ◌-◌, ◌^◌, ◌≤◌, min, List, ◌++◌, length, drop, None, Some, Result, Ok, Err}
use Rattle.sc_outside.specs.declared.error.Failed.{Failed}
use Rattle.sc_outside.specs.Faults.{counted}
use Rattle.sc_outside.specs.Port.{Told}

-- What a growing port has: the bytes left and given, and how often a write found no memory.
pub record GrowState : Type 0 where
  pub left : List ℕ
  pub given : List ℕ
  pub write_faults : ℕ

-- it tells both of its contents and keeps no journal; its reads never fail, and so none was ever counted
abbrev pub told_by_grow : GrowState → Told
told_by_grow s = record { left = Some s.left; given = Some s.given; journal = None; read_faults = 0; write_faults = s.write_faults }

-- what a read into a buffer of this size answers, and what it leaves: it moves all that fits, and never fails
abbrev pub GrowReads : GrowState → GrowState → ℕ → Result ℕ Failed → Type 0
GrowReads old new size (Ok n) = (n ≡ min size (length old.left)) × (new ≡ record old { left = drop n old.left })
GrowReads old new size (Err e) = ⊥

-- what a write of these bytes answers, and what it leaves: all of them are given, or there was no memory for them
abbrev pub GrowWrites : GrowState → GrowState → List ℕ → Result ℕ Failed → Type 0
GrowWrites old new piece (Ok n) = (n ≡ length piece) × (new ≡ record old { given = old.given ++ piece })
GrowWrites old new piece (Err e) = new ≡ record old { write_faults = counted old.write_faults }
