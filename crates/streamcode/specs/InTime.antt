-- When a run gives what is due.
use Rattle.std.specs.Prelude.{◌≡◌, ℕ, List, Option, Some}
use Rattle.sc_outside.specs.Cabinet.{CabinetTold}
use Rattle.sc_outside.specs.Port.{Told}
use Rattle.sc_code.specs.declared.code.CodeFile.{CodeFile}
use Rattle.sc_words.specs.Words.{Command, repair}
use Rattle.sc_repair.specs.Prompt.{IsPrompt}
use Rattle.streamcode.specs.Jobs.{repair_job}
use Rattle.streamcode.specs.RepairLaws.{IsCodeFileOf}

-- Where the files are told and the one of this name is a code file, all that is due for `repair` by it once a record came is
-- written before a byte of the next one is read.
abbrev pub RepairsInTime : List ℕ → CabinetTold → Told → Told → Type 0
RepairsInTime code cabinet old new =
    (files : List (List ℕ × List ℕ)) (file : CodeFile) → cabinet.files ≡ Some files → IsCodeFileOf files code file → IsPrompt (repair_job file) old new

-- the same of words, where they ask for `repair`
abbrev pub GivesInTime : Option Command → CabinetTold → Told → Told → Type 0
GivesInTime command cabinet old new = (code : List ℕ) → command ≡ Some (repair code) → RepairsInTime code cabinet old new
