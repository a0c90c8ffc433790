-- A trial: a generated capture is protected by a code, the channel of the code loses the generated loss of the same seed, and
-- what is left is repaired. What its numbers are. Of this project.
use Rattle.std.specs.Prelude.{◌≡◌, ℕ, ◌+◌, ◌<◌, Bool, List, ◌++◌, length, map, count_by, is_some, is_none, nat_lt, slice_index_or, Option, None, Result, Ok, Err, if◌then◌else◌}
use Rattle.sc_channel.specs.Flags.{set_count}
use Rattle.sc_field.specs.Gf256.{gf256_product}
use Rattle.sc_rtpdump.specs.Record.{Record}
use Rattle.sc_code.specs.declared.code.CodeFile.{CodeFile}
use Rattle.sc_slots.specs.Protected.{protection_of, packet_len}
use Rattle.sc_slots.specs.Repair.{IsOutcome}
use Rattle.sc_slots.specs.Taken.{Taken}
use Rattle.sc_repair.specs.Restoration.{arrived_slots, came_back}
use Rattle.sc_trial.specs.declared.outcome.Trial.{Trial}
use Rattle.sc_trial.specs.declared.outcome.TrialFault.{TrialFault}
use Rattle.sc_trial.specs.declared.outcome.TrialFault.TheVariants.{TooWide, Memory}
use Rattle.sc_trial.specs.Draw.{generator}
use Rattle.sc_trial.specs.Generated.{generated_records}
use Rattle.sc_trial.specs.Loss.{generated_loss}

-- the records of the packets
abbrev pub trial_records : ℕ → ℕ → ℕ → List Record
trial_records seed count size = generated_records (generator seed) count size

-- the loss: a flag for the slot of each packet, and one for each slot of the deadline
abbrev pub trial_loss : CodeFile → ℕ → ℕ → List Bool
trial_loss file seed count = generated_loss (generator seed) file.channel (count + file.channel.t)

module _ (file : CodeFile) (seed count size : ℕ) where
  -- the slots that the repairer takes: those of the protected capture that aren't lost
  abbrev pub trial_taken : List (Taken ℕ)
  trial_taken = arrived_slots file size (trial_records seed count size) (trial_loss file seed count)

  -- of the slot of each packet the block that is recovered, where one is
  abbrev pub trial_values : List (Option (List (List ℕ)))
  trial_values = came_back file size (trial_records seed count size) (trial_loss file seed count)

  -- the numbers: all slots, those that are lost, the packets whose slot is recovered, and the others
  abbrev pub tried : Trial
  tried = record {
    slots = count + file.channel.t;
    lost = set_count (trial_loss file seed count);
    equal = count_by is_some trial_values;
    missed = count_by is_none trial_values;
  }

  -- what a trial comes to: its protected packets are wider than a record holds, or these numbers
  abbrev pub trial_of : Result Trial TrialFault
  trial_of =
      let packet = packet_len (protection_of file size) in if nat_lt 65527 packet then Err (TooWide packet) else Ok tried

  -- what a trial answers: that, or memory ran out
  abbrev pub TrialGives : Result Trial TrialFault → Type 0
  TrialGives (Ok trial) = trial_of ≡ Ok trial
  TrialGives (Err (TooWide packet)) = trial_of ≡ Err (TooWide packet)
  TrialGives (Err Memory) = Unit {0}

-- The numbers of a trial in the words of slots: a packet comes back where its slot is recovered, which is where all streams
-- that fit the taken slots up to its deadline have one block.
pub record IsTrial (file : CodeFile) (seed count size : ℕ) (trial : Trial) : Type 0 where
  pub slots : trial.slots ≡ count + file.channel.t
  pub lost : trial.lost ≡ set_count (trial_loss file seed count)
  pub values : List (Option (List (List ℕ)))
  pub one_each : length values ≡ count
  pub outcomes : (t : ℕ) → t < count
      → IsOutcome 0 gf256_product file.code.k (protection_of file size).m file.channel.t (trial_taken file seed count size) t (slice_index_or values t None)
  pub equal : trial.equal ≡ count_by is_some values
  pub missed : trial.missed ≡ count_by is_none values
