-- What the laws of repairing say.
use Rattle.std.specs.Prelude.{Result, Ok, Err}
use Rattle.sc_rtpdump.specs.declared.fault.DumpFault.TheVariants.{Read, Memory as NoRoom}
use Rattle.sc_repair.specs.declared.repair.RepairEnd.{RepairEnd}
use Rattle.sc_repair.specs.declared.repair.RepairEnd.TheVariants.{Dump, Write, Memory}
use Rattle.sc_repair.specs.declared.repair.Repaired.{Repaired}

-- an answer that an input can decide: none of those where a read or a write failed, or memory ran out
abbrev pub IsOfInput : Result Repaired RepairEnd → Type 0
IsOfInput (Ok answer) = Unit {0}
IsOfInput (Err (Dump Read)) = ⊥
IsOfInput (Err (Dump NoRoom)) = ⊥
IsOfInput (Err (Dump fault)) = Unit {0}
IsOfInput (Err Write) = ⊥
IsOfInput (Err Memory) = ⊥
IsOfInput (Err fault) = Unit {0}
