-- What is said of `repair` in the words of captures, of slots and of the streams that fit them.
use Rattle.std.specs.Prelude.{◌≡◌, ◌↔◌, ℕ, ◌<◌, ◌≤◌, true, false, Some, None, List, [], ◌∷◌, ◌++◌, codes, length, Ok}
use Rattle.sc_field.specs.Gf256.{gf256_product}
use Rattle.sc_outside.specs.Cabinet.{file_named}
use Rattle.sc_outside.specs.Ends.{Due}
use Rattle.sc_code.specs.declared.code.CodeFile.{CodeFile}
use Rattle.sc_codefile.specs.Reading.{code_reading}
use Rattle.sc_rtpdump.specs.Record.{Record}
use Rattle.sc_rtpdump.specs.Capture.{Parts, IsCapture, AreBytes, IsReading}
use Rattle.sc_slots.specs.Taken.{Taken, known_end}
use Rattle.sc_slots.specs.Text.{IsRepairText, IsMissedCount}
use Rattle.sc_repair.specs.declared.repair.Repaired.{Repaired as Totals}
use Rattle.sc_repair.specs.declared.repair.RepairEnd.TheVariants.{Clash as HasClash}
use Rattle.sc_repair.specs.Readings.{block_text}
use Rattle.sc_repair.specs.Repairing.{Refusal, bad_among, width_in, slots_in, taken_of, last_values, values_text, first_refused}
use Rattle.streamcode.specs.declared.end.End.{End}
use Rattle.streamcode.specs.declared.end.End.TheVariants.{Repaired, Clash}
use Rattle.streamcode.specs.End.{status_of}
use Rattle.streamcode.specs.Jobs.{repair_job}
use Rattle.streamcode.specs.Plans.{most_fetched, due_of}
use Rattle.streamcode.specs.Runs.{plan_of}

-- what is due for `repair` with this code file, where this is the whole input
abbrev pub due_of_repair : CodeFile → List ℕ → Due End
due_of_repair file input = (repair_job file).whole input

-- The file of a name is there, with fewer bytes than the limit, and is this code file.
pub record IsCodeFileOf (files : List (List ℕ × List ℕ)) (code : List ℕ) (file : CodeFile) : Type 0 where
  pub bytes : List ℕ
  pub there : file_named code files ≡ Some bytes
  pub short : length bytes < most_fetched
  pub is : code_reading bytes ≡ Ok file

-- then what is due for the words is what is due for that code file
abbrev pub CodeFileSaysWhatIsDue : Type 0
CodeFileSaysWhatIsDue = (files : List (List ℕ × List ℕ)) (code : List ℕ) (file : CodeFile) (input : List ℕ) → IsCodeFileOf files code file
    → due_of (plan_of (codes "repair" ∷ code ∷ [])) (Some files) input ≡ Some (due_of_repair file input)

-- the slots that are taken of those that these records are read as, and how many bytes a symbol has
abbrev pub taken_in : CodeFile → List Record → List (Taken ℕ)
taken_in file records = taken_of file (slots_in file records)

abbrev pub symbol_bytes : CodeFile → List Record → ℕ
symbol_bytes file records = width_in (slots_in file records)

-- So many slots below the known end aren't recovered: the streams that fit the taken slots up to the slot's deadline don't
-- all have the same block there, or none fits.
abbrev pub IsMissedOf : CodeFile → List Record → ℕ → Type 0
IsMissedOf file records missed =
    IsMissedCount 0 gf256_product file.code.k (symbol_bytes file records) file.channel.t (taken_in file records) missed

-- no record is refused, and of the slots that are recovered none has a block that is neither zero nor a frame
pub record IsUnrefused (file : CodeFile) (records : List Record) : Type 0 where
  pub none_refused : first_refused file records ≡ None
  pub none_bad : bad_among (last_values file (slots_in file records)) ≡ None

-- The repaired capture is due: the preamble, and for each slot up to the last taken one that is recovered, in their order, the
-- record of its frame; with the known end, and the slots below it that aren't recovered.
pub record GivesRecovered (file : CodeFile) (preamble : List ℕ) (records : List Record) (due : Due End) : Type 0 where
  pub totals : Totals
  pub text : List ℕ
  pub given : due ≡ record { answer = Repaired totals; text = preamble ++ text; at_end = true }
  pub is_text : IsRepairText 0 gf256_product file.code.k (symbol_bytes file records) file.channel.t block_text (taken_in file records) text
  pub end_is : totals.end ≡ known_end (taken_in file records)
  pub missed_is : IsMissedOf file records totals.missed

-- It is due of every capture of which nothing is refused, whatever the code is and whatever is lost.
abbrev pub RecoveredIsDue : Type 0
RecoveredIsDue = (file : CodeFile) (input preamble : List ℕ) (records : List Record) → IsCapture input preamble records → IsUnrefused file records
    → GivesRecovered file preamble records (due_of_repair file input)

-- an input that is a capture, of which nothing is refused and so many slots below the known end aren't recovered
pub record Misses (file : CodeFile) (input : List ℕ) (missed : ℕ) : Type 0 where
  pub preamble : List ℕ
  pub records : List Record
  pub capture : IsCapture input preamble records
  pub unrefused : IsUnrefused file records
  pub missed_is : IsMissedOf file records missed

-- status 0 is due exactly where none is missed
abbrev pub ZeroIsNoneMissed : Type 0
ZeroIsNoneMissed = (file : CodeFile) (input : List ℕ) → AreBytes input → (status_of (due_of_repair file input).answer ≡ 0) ↔ Misses file input 0

-- 5 exactly where one is
abbrev pub FiveIsSomeMissed : Type 0
FiveIsSomeMissed = (file : CodeFile) (input : List ℕ) → AreBytes input
    → (status_of (due_of_repair file input).answer ≡ 5) ↔ ((missed : ℕ) × (1 ≤ missed) × Misses file input missed)

-- The first record of an input that is refused contradicts those before it.
pub record HasClashAt (file : CodeFile) (input : List ℕ) (slot : ℕ) : Type 0 where
  pub preamble : List ℕ
  pub parts : Parts
  pub reading : IsReading input preamble parts
  pub refusal : Refusal
  pub is_first : first_refused file parts.records ≡ Some refusal
  pub clashes : refusal.fault ≡ HasClash slot
  pub given : due_of_repair file input ≡ record { answer = Clash slot; text = preamble ++ values_text refusal.values; at_end = false }

-- and 6 exactly there
abbrev pub SixIsClash : Type 0
SixIsClash = (file : CodeFile) (input : List ℕ) → AreBytes input
    → (status_of (due_of_repair file input).answer ≡ 6) ↔ ((slot : ℕ) × HasClashAt file input slot)
