-- How a run of the program ends: its status and its note.
use Rattle.std.specs.Prelude.{◌⊎◌, ℕ, ◌==◌, if◌then◌else◌, List, [], ◌∷◌, ◌++◌, codes, decimal, Result, Ok, Err}
use Rattle.sc_outside.specs.Sink.{SinkTold}
use Rattle.sc_outside.specs.Whole.{SinkGets, SinkFailed}
use Rattle.sc_rtpdump.specs.declared.fault.DumpFault.{DumpFault}
use Rattle.sc_rtpdump.specs.declared.fault.DumpFault.TheVariants.{Preamble, RecordHead, RecordLength, Truncated, Read, Memory}
use Rattle.sc_rtpdump.specs.declared.thin.DropFault.{DropFault}
use Rattle.sc_rtpdump.specs.declared.thin.DropFault.TheVariants.{Dump, More, Fewer, Write}
use Rattle.sc_rtpdump.specs.declared.thin.Dropped.{Dropped}
use Rattle.sc_codefile.specs.declared.fault.Key.{Key}
use Rattle.sc_codefile.specs.declared.fault.Key.TheVariants.{Whole, Other, Channel, K, Lags, R, Lost, Period, Loss}
use Rattle.sc_codefile.specs.declared.fault.FileFault.{FileFault}
use Rattle.sc_codefile.specs.declared.fault.FileFault.TheVariants.{NotJson, Shape, Range, Memory as NoRoom}
use Rattle.sc_slots.specs.declared.protect.ProtectFault.{ProtectFault}
use Rattle.sc_slots.specs.declared.protect.ProtectFault.TheVariants.{TooWide, Dump as Unread, TooManyRecords as TooManyRecordsThere, TooLong, TooManySlots as TooManySlotsThere, Write as Unwritten, Memory as NoRoomThere}
use Rattle.sc_slots.specs.declared.protect.Protected.{Protected as Done}
use Rattle.sc_repair.specs.declared.repair.Repaired.{Repaired as Totals}
use Rattle.sc_repair.specs.declared.repair.RepairEnd.{RepairEnd}
use Rattle.sc_repair.specs.declared.repair.RepairEnd.TheVariants as repair
use Rattle.sc_repair.specs.declared.repairer.Unfit.TheVariants as unfit
use Rattle.sc_optimal.specs.declared.kind.DesignFault.{DesignFault}
use Rattle.sc_optimal.specs.declared.kind.DesignFault.TheVariants as design
use Rattle.streamcode.specs.declared.end.Role.{Role}
use Rattle.streamcode.specs.declared.end.Role.TheVariants.{Code, Certificate, Loss as ALoss}
use Rattle.streamcode.specs.declared.end.End.{End}
use Rattle.streamcode.specs.declared.end.End.TheVariants.{Thinned, Generated, Protected, Repaired, Bound, Designed, Accepted, Refused, CertificateRefused, LossRefused, Usage, Capture, MoreRecords, FewerRecords, FileRefused, FileTooLong, PacketTooWide, PacketTooLong, TooManyRecords, TooManySlots, TooManySymbols, WrongCode, BadShape, OtherWidth, OtherEnd, BadBlock, Clash, NoCode, TooManyClasses, Tried, ReadFault, WriteFault, NoMemory}

-- the status by how many slots or packets are missed: of a repaired capture the slots below the known end, of a trial the packets
abbrev pub missed_status : ℕ → ℕ
missed_status missed = if missed == 0 then 0 else 5

-- the status with which the program ends
abbrev pub status_of : End → ℕ
status_of (Thinned dropped) = 0
status_of (Generated records) = 0
status_of (Protected done) = 0
status_of (Repaired totals) = missed_status totals.missed
status_of (Tried trial) = missed_status trial.missed
status_of (Bound kept period) = 0
status_of (Designed candidate k n) = 0
status_of Accepted = 0
status_of Refused = 1
status_of (CertificateRefused residue) = 1
status_of (LossRefused window) = 1
status_of Usage = 2
status_of (Capture fault) = 3
status_of (MoreRecords flags) = 3
status_of (FewerRecords flags records) = 3
status_of (FileRefused role fault) = 3
status_of (FileTooLong role) = 4
status_of (PacketTooWide bytes) = 4
status_of (PacketTooLong index len) = 4
status_of TooManyRecords = 4
status_of (TooManySlots slots) = 4
status_of (TooManySymbols symbols) = 4
status_of (WrongCode index) = 3
status_of (BadShape index) = 3
status_of (OtherWidth slot) = 3
status_of (OtherEnd slot) = 3
status_of (BadBlock slot) = 3
status_of (Clash slot) = 6
status_of NoCode = 10
status_of (TooManyClasses count) = 11
status_of ReadFault = 7
status_of WriteFault = 8
status_of NoMemory = 9

-- the text of a fault of a capture
abbrev pub fault_text : DumpFault → List ℕ
fault_text Preamble = codes "preamble"
fault_text (RecordHead i) = codes "record " ++ decimal i ++ codes " head"
fault_text (RecordLength i) = codes "record " ++ decimal i ++ codes " length"
fault_text (Truncated i) = codes "record " ++ decimal i ++ codes " cut"
fault_text Read = codes "read fault"
fault_text Memory = codes "no memory"

-- what a file is for, and the key at which it is faulty
abbrev pub role_text : Role → List ℕ
role_text Code = codes "code"
role_text Certificate = codes "certificate"
role_text ALoss = codes "loss"

abbrev pub key_text : Key → List ℕ
key_text Whole = codes "whole"
key_text Other = codes "other"
key_text Channel = codes "channel"
key_text K = codes "k"
key_text Lags = codes "lags"
key_text R = codes "r"
key_text Lost = codes "lost"
key_text Period = codes "period"
key_text Loss = codes "loss"

-- the text of a fault of a file
abbrev pub file_text : Role → FileFault → List ℕ
file_text role NotJson = role_text role ++ codes " not json"
file_text role (Shape key) = role_text role ++ codes " shape " ++ key_text key
file_text role (Range key) = role_text role ++ codes " range " ++ key_text key
file_text role NoRoom = codes "no memory"

-- the text of an end
abbrev pub text_of : End → List ℕ
text_of (Thinned dropped) = codes "records " ++ decimal dropped.records ++ codes " lost " ++ decimal dropped.lost
text_of (Generated records) = codes "records " ++ decimal records
text_of (Protected done) =
    codes "slots " ++ decimal done.slots ++ codes " rtcp " ++ decimal done.rtcp ++ codes " cut " ++ decimal done.cut ++ codes " strange " ++ decimal done.strange
text_of (Repaired totals) =
    codes "slots " ++ decimal totals.end ++ codes " missed " ++ decimal totals.missed ++ codes " strangers " ++ decimal totals.strangers
    ++ codes " repeats " ++ decimal totals.repeats
text_of (Tried trial) = codes "trial done"
text_of Accepted = codes "accepted"
text_of Refused = codes "refused"
text_of (Bound kept period) = codes "bound " ++ decimal kept ++ codes "/" ++ decimal period
text_of (Designed candidate k n) = codes "candidate " ++ decimal candidate ++ codes " rate " ++ decimal k ++ codes "/" ++ decimal n
text_of (CertificateRefused residue) = codes "certificate refused at residue " ++ decimal residue
text_of (LossRefused window) = codes "loss refused at window " ++ decimal window
text_of Usage = codes "usage"
text_of (Capture fault) = fault_text fault
text_of (MoreRecords flags) = codes "flags " ++ decimal flags ++ codes " more records"
text_of (FewerRecords flags records) = codes "flags " ++ decimal flags ++ codes " records " ++ decimal records
text_of (FileRefused role fault) = file_text role fault
text_of (FileTooLong role) = role_text role ++ codes " limit 4194305"
text_of (PacketTooWide bytes) = codes "limit packet " ++ decimal bytes
text_of (PacketTooLong index len) = codes "limit size " ++ decimal index ++ codes " " ++ decimal len
text_of TooManyRecords = codes "limit records 8000001"
text_of (TooManySlots slots) = codes "limit slots " ++ decimal slots
text_of (TooManySymbols symbols) = codes "limit symbols " ++ decimal symbols
text_of (WrongCode index) = codes "record " ++ decimal index ++ codes " wrong code"
text_of (BadShape index) = codes "record " ++ decimal index ++ codes " bad shape"
text_of (OtherWidth slot) = codes "slot " ++ decimal slot ++ codes " other width"
text_of (OtherEnd slot) = codes "slot " ++ decimal slot ++ codes " other end"
text_of (BadBlock slot) = codes "slot " ++ decimal slot ++ codes " bad block"
text_of (Clash slot) = codes "slot " ++ decimal slot ++ codes " clash"
text_of NoCode = codes "no code"
text_of (TooManyClasses count) = codes "classes " ++ decimal count
text_of ReadFault = codes "read fault"
text_of WriteFault = codes "write fault"
text_of NoMemory = codes "no memory"

-- the note of an end: its text, and a newline (10)
abbrev pub note_of : End → List ℕ
note_of end = text_of end ++ 10 ∷ []

-- The sink was told a note. Where one of its writes failed, it was told a prefix of the note that isn't the whole.
abbrev pub IsTold : SinkTold → SinkTold → List ℕ → Type 0
IsTold old new note = SinkGets old new note ⊎ SinkFailed old new note

-- the end at a fault of a capture
abbrev pub end_of_dump : DumpFault → End
end_of_dump Read = ReadFault
end_of_dump Memory = NoMemory
end_of_dump Preamble = Capture Preamble
end_of_dump (RecordHead i) = Capture (RecordHead i)
end_of_dump (RecordLength i) = Capture (RecordLength i)
end_of_dump (Truncated i) = Capture (Truncated i)

-- the end of thinning a capture by so many flags
abbrev pub end_of_drop : ℕ → Result Dropped DropFault → End
end_of_drop flags (Ok dropped) = Thinned dropped
end_of_drop flags (Err (Dump fault)) = end_of_dump fault
end_of_drop flags (Err More) = MoreRecords flags
end_of_drop flags (Err (Fewer n)) = FewerRecords flags n
end_of_drop flags (Err Write) = WriteFault

-- the end at a fault of a file
abbrev pub end_of_file : Role → FileFault → End
end_of_file role NotJson = FileRefused role NotJson
end_of_file role (Shape key) = FileRefused role (Shape key)
end_of_file role (Range key) = FileRefused role (Range key)
end_of_file role NoRoom = NoMemory

-- the end at a fault of a design
abbrev pub end_of_design : DesignFault → End
end_of_design design.NotBurst = NoCode
end_of_design (design.TooWide symbols) = TooManySymbols symbols
end_of_design (design.TooManyClasses count) = TooManyClasses count
end_of_design design.NoCode = NoCode
end_of_design design.Memory = NoMemory

-- the end of protecting a capture
abbrev pub end_of_protect : Result Done ProtectFault → End
end_of_protect (Ok done) = Protected done
end_of_protect (Err (TooWide bytes)) = PacketTooWide bytes
end_of_protect (Err (Unread fault)) = end_of_dump fault
end_of_protect (Err TooManyRecordsThere) = TooManyRecords
end_of_protect (Err (TooLong index len)) = PacketTooLong index len
end_of_protect (Err TooManySlotsThere) = TooManySlots 4000001
end_of_protect (Err Unwritten) = WriteFault
end_of_protect (Err NoRoomThere) = NoMemory

-- the end of repairing a capture
abbrev pub end_of_repair : Result Totals RepairEnd → End
end_of_repair (Ok totals) = Repaired totals
end_of_repair (Err (repair.Dump fault)) = end_of_dump fault
end_of_repair (Err repair.TooManyRecords) = TooManyRecords
end_of_repair (Err (repair.WrongCode index)) = WrongCode index
end_of_repair (Err (repair.BadShape index)) = BadShape index
end_of_repair (Err (repair.TooManySlots slot)) = TooManySlots slot
end_of_repair (Err (repair.Unfit (unfit.OtherWidth slot was now))) = OtherWidth slot
end_of_repair (Err (repair.Unfit (unfit.OtherEnd slot was now))) = OtherEnd slot
end_of_repair (Err (repair.Clash slot)) = Clash slot
end_of_repair (Err (repair.BadBlock slot)) = BadBlock slot
end_of_repair (Err repair.Write) = WriteFault
end_of_repair (Err repair.Memory) = NoMemory
