-- What is written before more is read, of a job and what a port tells.
use Rattle.std.specs.Prelude.{◌≡◌, List, ◌++◌, length, Some, ℕ}
use Rattle.sc_outside.specs.declared.journal.Move.{Move}
use Rattle.sc_outside.specs.Ends.{Job}
use Rattle.sc_outside.specs.Port.{Told}
use Rattle.sc_slots.specs.Prompt.{IsWrittenBefore}

-- Where a port tells its input and its journal, which grew by these moves: for each front of the input, all that is due
-- once it was taken is written before a read takes a byte after it.
abbrev pub IsPrompt : {A : Type 0} → Job A → Told → Told → Type 0
IsPrompt job old new =
    (journal moves : List Move) (first rest : List ℕ) → old.journal ≡ Some journal → new.journal ≡ Some (journal ++ moves) → old.left ≡ Some (first ++ rest)
    → IsWrittenBefore moves (length first) (length (job.so_far first))
