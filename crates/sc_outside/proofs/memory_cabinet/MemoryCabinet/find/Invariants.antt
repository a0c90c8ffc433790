use Rattle.std.proofs.Common.{◌≡◌, drop, map}
use Rattle.sc_outside.specs.Cabinet.{file_named}
use Rattle.sc_outside.specs.MemoryCabinet.{file_entry}
use Rattle.sc_outside.proofs.memory_cabinet.MemoryCabinet.find.Given as goal

-- the file of the name is among those that were not looked at
abbrev pub invariant-loop-file : goal.invariant-loop-file
invariant-loop-file l = file_named l.name (map file_entry (drop l.file-index l.file-items)) ≡ file_named l.name (map file_entry l.file-items)
