-- What is wrong with a file: the first fault of a table.
use Rattle.std.specs.Prelude.{◌≡◌, ℕ, List, [], ◌∷◌, Bool, false, not, Option, Some, None, if◌then◌else◌, ⊤}
use Rattle.serde_json.specs.Data.{Data}
use Rattle.sc_codefile.specs.declared.fault.FileFault.{FileFault}
use Rattle.sc_codefile.specs.declared.fault.FileFault.TheVariants.{NotJson, Shape, Range, Memory}
use Rattle.sc_codefile.specs.Value.{IsValueOf, IsNotJson}

-- the first fault of a table that is there: each has the test that says so
abbrev pub first_of : List (Bool × FileFault) → Option FileFault
first_of [] = None
first_of (row ∷ rows) = if row.0 then Some row.1 else first_of rows

-- what was found isn't so, or nothing was found
abbrev pub fails : {A : Type 0} → (A → Bool) → Option A → Bool
fails test None = false
fails test (Some x) = not (test x)

-- the bytes have a value, and this is the first fault of its table
pub record IsFirstFault (faults : Data → List (Bool × FileFault)) (text : List ℕ) (fault : FileFault) : Type 0 where
  pub value : Data
  pub is_value : IsValueOf text value
  pub first : first_of (faults value) ≡ Some fault

-- Why bytes are no file of a form, whose faults are these. Want of memory is free.
abbrev pub IsRefusedFor : (Data → List (Bool × FileFault)) → List ℕ → FileFault → Type 0
IsRefusedFor faults text NotJson = IsNotJson text
IsRefusedFor faults text (Shape key) = IsFirstFault faults text (Shape key)
IsRefusedFor faults text (Range key) = IsFirstFault faults text (Range key)
IsRefusedFor faults text Memory = ⊤
