-- What repairing a protected capture owes: the slots that its records are read as, why a record is refused, and the text
-- that is due by then. Of this project.
use Rattle.std.specs.Prelude.{ℕ, zero as naught, suc, ◌+◌, ◌-◌, ◌&&◌, Bool, true, false, List, [], ◌∷◌, ◌++◌, length, take, map, flat_map, position, count_by, is_none, slice_index_or, nat_eq, nat_lt, nat_le, Option, Some, None, option_map, Result, Ok, Err, if◌then◌else◌}
use Rattle.sc_outside.specs.Ends.{Due, Job}
use Rattle.sc_rtpdump.specs.declared.fault.DumpFault.TheVariants.{Preamble, Read}
use Rattle.sc_rtpdump.specs.Record.{Record, empty_record, Front, breaks, front_of}
use Rattle.sc_rtpdump.specs.Capture.{Parts, Reading as CaptureReading, no_preamble, reads, reading_of}
use Rattle.sc_rtpdump.specs.Thin.{break_fault}
use Rattle.sc_code.specs.declared.code.CodeFile.{CodeFile}
use Rattle.sc_slots.specs.Slot.{Slot, Reading, stranger, wrong_code, bad_shape, slot}
use Rattle.sc_slots.specs.Taken.{Taken, taken_slot, taken_from, one_past, claimed, least_end, known_end}
use Rattle.sc_slots.specs.Text.{written}
use Rattle.sc_repair.specs.declared.repair.RepairEnd.{RepairEnd}
use Rattle.sc_repair.specs.declared.repair.RepairEnd.TheVariants.{Dump, TooManyRecords, WrongCode, BadShape, TooManySlots, Unfit, Clash, BadBlock, Write, Memory}
use Rattle.sc_repair.specs.declared.repair.Repaired.{Repaired}
use Rattle.sc_repair.specs.declared.repairer.EndState.{EndState}
use Rattle.sc_repair.specs.declared.repairer.EndState.TheVariants.{Least, Known}
use Rattle.sc_repair.specs.declared.repairer.Unfit.{Unfit as Misfit}
use Rattle.sc_repair.specs.declared.repairer.Unfit.TheVariants.{OtherWidth, OtherEnd}
use Rattle.sc_repair.specs.Readings.{record_reading, block_text, is_bad_block}
use Rattle.sc_repair.specs.Values.{is_consistent, put_values, outcomes}

-- ---- the slots

abbrev pub slots_of : Reading → List Slot
slots_of (slot s) = s ∷ []
slots_of _ = []

abbrev pub is_stranger : Reading → Bool
is_stranger stranger = true
is_stranger _ = false

-- the bytes of a symbol: those of the first slot
abbrev pub width_in : List Slot → ℕ
width_in [] = 0
width_in (s ∷ slots) = s.m

-- ---- what the values of slots write

-- what is written of slots with these values: the records of their frames. A slot that is missed writes nothing.
abbrev pub values_text : List (Option (List (List ℕ))) → List ℕ
values_text values = flat_map (written block_text) values

-- a block is put out that is neither zero nor a frame
abbrev pub is_bad_value : Option (List (List ℕ)) → Bool
is_bad_value None = false
is_bad_value (Some block) = is_bad_block block

-- ---- what is refused

-- why a record is refused, and the values of the slots that are put out by then
pub record Refusal : Type 0 where
  pub fault : RepairEnd
  pub values : List (Option (List (List ℕ)))

-- the first of two that is there
abbrev pub first_of : Option Refusal → Option Refusal → Option Refusal
first_of None other = other
first_of (Some first) other = Some first

-- the first bad block among values: the slots below it are put out
abbrev pub bad_among : List (Option (List (List ℕ))) → Option Refusal
bad_among values = option_map (λ t. record { fault = BadBlock t; values = take t values }) (position is_bad_value values)

-- A slot of this number and end byte fits the ends so far: a source slot comes before any claim, the first claim is no less
-- than the source slots taken, and each later claim is the same.
abbrev pub end_fits : Option ℕ → ℕ → ℕ → ℕ → Bool
end_fits None least number end = if nat_eq end 0 then true else nat_le least (number + 1 - end)
end_fits (Some known) least number end = nat_lt 0 end && nat_eq (number + 1 - end) known

-- the end so far: that which is claimed, or else the least that it can be
abbrev pub end_by : Option ℕ → ℕ → EndState
end_by (Some n) least = Known n
end_by None least = Least least

module _ (file : CodeFile) where
  -- what a record is read as
  abbrev pub read_as : Record → Reading
  read_as e = record_reading file.code.k file.code.r file.channel.t e

  -- the slots that records are read as, in order, and those of them that are taken
  abbrev pub slots_in : List Record → List Slot
  slots_in records = flat_map (λ e. slots_of (read_as e)) records

  abbrev pub taken_of : List Slot → List (Taken ℕ)
  taken_of slots = taken_from 0 (map (taken_slot file.code) slots)

  -- the values of the slots that are put out once w slots are passed, where symbols have m bytes
  abbrev pub put_of : ℕ → List (Taken ℕ) → ℕ → List (Option (List (List ℕ)))
  put_of m taken w = put_values file.code.k m file.channel.t taken w

  -- the values of the slots that are put out once these came: all up to the last taken one are passed
  abbrev pub values_of : List Slot → List (Option (List (List ℕ)))
  values_of slots = put_of (width_in slots) (taken_of slots) (one_past (taken_of slots))

  -- a refusal at a record, after all that is put out of the slots before it
  abbrev pub still : List Slot → RepairEnd → Refusal
  still slots fault = record { fault = fault; values = values_of slots }

  -- why a slot doesn't fit those before it: its symbols have another width, or its end doesn't fit
  abbrev pub misfit : List Slot → Slot → Option Misfit
  misfit slots s =
      let m = width_in (slots ++ s ∷ []) in
      let taken = taken_of slots in
      if nat_eq s.m m then (if end_fits (claimed taken) (least_end taken) s.number s.end then None
      else Some (OtherEnd s.number (end_by (claimed taken) (least_end taken)) s.end))
      else Some (OtherWidth s.number m s.m)

  -- What stops a taken slot behind others that it fits, where symbols have m bytes: a bad block among the slots that are put
  -- out once those before it are passed; no stream that has it and all taken ones; a bad block among those that are put out
  -- once it is taken.
  abbrev pub stop_by : ℕ → List (Taken ℕ) → Taken ℕ → Option Refusal
  stop_by m taken one =
      let after = taken ++ one ∷ [] in
      first_of (bad_among (put_of m taken one.number))
      (if is_consistent file.code.k m after (one.number + 1) then bad_among (put_of m after (one.number + 1))
      else Some (record { fault = Clash one.number; values = put_of m taken one.number }))

  abbrev pub stop_at : List Slot → Slot → Option Refusal
  stop_at slots s = stop_by s.m (taken_of slots) (taken_slot file.code s)

  abbrev pub refusal_by : List Slot → Slot → Option Misfit → Option Refusal
  refusal_by slots s (Some misfit) = Some (still slots (Unfit misfit))
  refusal_by slots s None = stop_at slots s

  -- why a slot is refused behind these: its number is beyond the limit; else, where it isn't one that repeats, it doesn't fit or
  -- is stopped
  abbrev pub slot_refusal : List Slot → Slot → Option Refusal
  slot_refusal slots s =
      if nat_le 4000000 s.number then Some (still slots (TooManySlots s.number))
      else (if nat_lt s.number (one_past (taken_of slots)) then None else refusal_by slots s (misfit slots s))

  abbrev pub reading_refusal : ℕ → List Slot → Reading → Option Refusal
  reading_refusal index slots stranger = None
  reading_refusal index slots wrong_code = Some (still slots (WrongCode index))
  reading_refusal index slots bad_shape = Some (still slots (BadShape index))
  reading_refusal index slots (slot s) = slot_refusal slots s

  -- why the record of this index is refused behind these slots: it is one more than 8,000,000, or by what it is read as
  unfoldable pub refusal : ℕ → List Slot → Record → Option Refusal
  refusal index slots e =
      if nat_le 8000000 index then Some (still slots TooManyRecords) else reading_refusal index slots (read_as e)

  -- why record i of these is refused
  abbrev pub refusal_at : List Record → ℕ → Option Refusal
  refusal_at records i = refusal i (slots_in (take i records)) (slice_index_or records i empty_record)

  -- the first refusal among the first n records, and among all
  abbrev pub first_below : List Record → ℕ → Option Refusal
  first_below records naught = None
  first_below records (suc n) = first_of (first_below records n) (refusal_at records n)

  abbrev pub first_refused : List Record → Option Refusal
  first_refused records = first_below records (length records)

  -- ---- what repairing owes

  -- the values of the slots that are put out once these records came, none of which is refused
  abbrev pub values_so_far : List Record → List (Option (List (List ℕ)))
  values_so_far records = values_of (slots_in records)

  -- what the end of the input leaves of the slots up to the last taken one
  abbrev pub last_values : List Slot → List (Option (List (List ℕ)))
  last_values slots =
      outcomes file.code.k (width_in slots) file.channel.t (taken_of slots) (one_past (taken_of slots))

  -- how many of the slots below the known end aren't recovered
  abbrev pub missed_of : List Slot → ℕ
  missed_of slots =
      count_by is_none (outcomes file.code.k (width_in slots) file.channel.t (taken_of slots) (known_end (taken_of slots)))

  -- the known end, the slots below it that are missed, the records that are strangers, and the slots that repeat
  abbrev pub numbers : List Record → Repaired
  numbers records =
      let slots = slots_in records in
      record {
        end = known_end (taken_of slots);
        missed = missed_of slots;
        strangers = count_by (λ e. is_stranger (read_as e)) records;
        repeats = length slots - length (taken_of slots);
      }

  -- what is due where a record is refused, or the last slots have a bad block
  abbrev pub refused : List ℕ → Bool → Refusal → Due (Result Repaired RepairEnd)
  refused preamble at_end r = record { answer = Err r.fault; text = preamble ++ values_text r.values; at_end = at_end }

  -- what is due at the end of the input, where no record is refused
  abbrev pub due_at_end : List ℕ → List Record → Option Refusal → Due (Result Repaired RepairEnd)
  due_at_end preamble records (Some r) = refused preamble true r
  due_at_end preamble records None =
      record { answer = Ok (numbers records); text = preamble ++ values_text (last_values (slots_in records)); at_end = true }

  -- where no record is refused, by what stands behind them
  abbrev pub due_behind : List ℕ → List Record → Front → Due (Result Repaired RepairEnd)
  due_behind preamble records (breaks break) =
      refused preamble false (record { fault = Dump (break_fault (length records) break); values = values_so_far records })
  due_behind preamble records _ = due_at_end preamble records (bad_among (last_values (slots_in records)))

  -- a record that is refused comes before what stands behind all
  abbrev pub due_by : List ℕ → Parts → Option Refusal → Due (Result Repaired RepairEnd)
  due_by preamble parts (Some r) = refused preamble false r
  due_by preamble parts None = due_behind preamble parts.records (front_of parts.tail)

  -- what is due for a whole input
  abbrev pub due_of : CaptureReading → Due (Result Repaired RepairEnd)
  due_of no_preamble = record { answer = Err (Dump Preamble); text = []; at_end = false }
  due_of (reads preamble parts) = due_by preamble parts (first_refused parts.records)

  -- what is due once these records came, whatever follows them
  abbrev pub text_by : List Record → Option Refusal → List ℕ
  text_by records (Some r) = values_text r.values
  text_by records None = values_text (values_so_far records)

  abbrev pub records_text : List Record → List ℕ
  records_text records = text_by records (first_refused records)

  abbrev pub text_so_far : CaptureReading → List ℕ
  text_so_far no_preamble = []
  text_so_far (reads preamble parts) = preamble ++ records_text parts.records

  -- memory runs out before a record is given
  abbrev pub preamble_of : CaptureReading → List ℕ
  preamble_of no_preamble = []
  preamble_of (reads preamble parts) = preamble

  -- What repairing a capture owes. It is done at the input's end alone.
  abbrev pub repairing : Job (Result Repaired RepairEnd)
  repairing = record {
    reads = true;
    allocates = true;
    so_far = λ taken. text_so_far (reading_of taken);
    whole = λ input. due_of (reading_of input);
    before_memory = λ taken. preamble_of (reading_of taken);
    read_failed = Err (Dump Read);
    write_failed = Err Write;
    no_memory = Err Memory;
  }
