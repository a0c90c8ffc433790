-- What the jobs of the program's commands keep, and how they end.
use Rattle.std.proofs.lemmas.Bool.Decides.{nat_tests}
use Rattle.std.proofs.Common.{zero, suc, ◌+◌, ◌==◌, if◌then◌else◌, is_none, ◌≡◌, ◌∷◌, ◌++◌, ◌≢◌, ◌⊎◌, inl, inr, ℕ, ◌<◌, ◌≤◌, ◌∙◌, Bool, true, false, cond, nat_lt, Option, None, Some, List, [], length, Result, Ok, Err, refl, sym, ap, subst, arith}
use Rattle.sc_outside.specs.Ends.{Job, IsJob, input, write, Ends}
use Rattle.sc_outside.specs.Whole.{PutsAll, WriteFailed}
use Rattle.sc_outside.specs.Port.{Told}
use Rattle.sc_outside.proofs.EndsLaws.{Ends-at_once, Ends-no_memory, Ends-told_as, IsJob-told_as, IsJob-at_once, IsPrefix-nil, some_left}
use Rattle.sc_channel.specs.Certificate.{CertificateNumbers}
use Rattle.sc_channel.specs.Channel.{ChannelNumbers}
use Rattle.sc_codefile.specs.CertificateFile.{certificate_text}
use Rattle.sc_rate.specs.Rate.{kept_count}
use Rattle.sc_rate.specs.Residue.{bad_residue}
use Rattle.sc_rate.specs.Standard.{standard_certificate}
use Rattle.sc_channel.specs.Classes.{class_count}
use Rattle.sc_check.specs.Answer.{Refuted, refuted_of}
use Rattle.sc_channel.specs.Flags.{set_count}
use Rattle.sc_channel.specs.Loss.{bad_window}
use Rattle.sc_rtpdump.specs.declared.thin.DropFault.{DropFault}
use Rattle.sc_rtpdump.specs.declared.thin.DropFault.TheVariants.{Dump, More, Fewer}
use Rattle.sc_rtpdump.specs.declared.thin.Dropped.{Dropped}
use Rattle.sc_rtpdump.specs.Record.{Break, short_head, short_length, cut_body, Front, ends, breaks, starts, front_of}
use Rattle.sc_rtpdump.specs.Capture.{Parts, Reading, no_preamble, reads, reading_of}
use Rattle.sc_rtpdump.specs.Thin.{break_fault, end_at, rest_end, thinning, thin_end}
use Rattle.sc_rtpdump.proofs.ThinLaws.{thinning-IsJob}
use Rattle.sc_code.specs.declared.code.CodeFile.{CodeFile}
use Rattle.sc_codefile.specs.declared.fault.FileFault.{FileFault}
use Rattle.sc_rtpdump.specs.declared.fault.DumpFault.TheVariants.{Preamble, RecordHead, RecordLength, Truncated, Read, Memory}
use Rattle.sc_slots.specs.declared.protect.ProtectFault.{ProtectFault}
use Rattle.sc_slots.specs.declared.protect.ProtectFault.TheVariants.{TooWide, Dump as Unread, TooManyRecords as TooManyRecordsThere, TooLong, TooManySlots as TooManySlotsThere, Write as Unwritten, Memory as NoRoomThere}
use Rattle.sc_slots.specs.declared.protect.Protected.{Protected as Done}
use Rattle.sc_slots.specs.Protected.{Protection, protection_of, packet_len, protecting_within, protecting, IsOfInput as IsDecidedAnswer}
use Rattle.sc_slots.proofs.ProtectedLaws.{protecting-IsJob, protecting-decided}
use Rattle.sc_repair.specs.declared.repair.Repaired.{Repaired as Totals}
use Rattle.sc_repair.specs.declared.repair.RepairEnd.{RepairEnd}
use Rattle.sc_repair.specs.declared.repair.RepairEnd.TheVariants as repair
use Rattle.sc_repair.specs.declared.repairer.Unfit.TheVariants as unfit
use Rattle.sc_repair.specs.RepairLaws.{IsOfInput as IsRepairAnswer}
use Rattle.sc_repair.specs.Repairing.{repairing}
use Rattle.sc_repair.proofs.JobLaws.{repairing-IsJob, repairing-decided}
use Rattle.sc_trial.specs.declared.outcome.Trial.{Trial}
use Rattle.sc_trial.specs.declared.outcome.TrialFault.{TrialFault}
use Rattle.sc_trial.specs.declared.outcome.TrialFault.TheVariants as unmade
use Rattle.sc_trial.specs.Generated.{generated}
use Rattle.sc_trial.specs.Trial.{tried, trial_of, TrialGives}
use Rattle.streamcode.specs.declared.end.Role.{Role}
use Rattle.streamcode.specs.declared.end.End.{End}
use Rattle.streamcode.specs.declared.end.End.TheVariants.{Thinned, Generated, Protected, Repaired, Bound, Designed, Accepted, Refused, CertificateRefused, LossRefused, Usage, Capture, MoreRecords, FewerRecords, FileRefused, FileTooLong, PacketTooWide, PacketTooLong, TooManyRecords, TooManySlots, TooManySymbols, WrongCode, BadShape, OtherWidth, OtherEnd, BadBlock, Clash, NoCode, TooManyClasses, Tried, ReadFault, WriteFault, NoMemory}
use Rattle.streamcode.specs.End.{status_of, end_of_drop, end_of_protect, end_of_repair, end_of_design}
use Rattle.streamcode.specs.Jobs.{refusal, giving, lose_by, lose_job, gen_job, protect_job, repair_job, check_by, check_job, bound_job, certify_by, certify_job, maker_of, design_text, design_by, design_job, trial_by, trial_job, IsSilent}
use Rattle.sc_check.specs.Answer.{refuted_of}
use Rattle.sc_optimal.specs.declared.design.Found.{Found}
use Rattle.sc_optimal.specs.declared.kind.DesignFault.{DesignFault}
use Rattle.sc_optimal.specs.declared.kind.DesignFault.TheVariants as design
use Rattle.sc_optimal.specs.declared.kind.MakerKind.{MakerKind}
use Rattle.sc_optimal.specs.Candidates.{candidate, candidate_count, candidate_width}
use Rattle.sc_optimal.specs.Design.{is_not_burst, found_at, first_from, design_of}
use Rattle.sc_words.specs.declared.words.Kind.{Kind}
use Rattle.streamcode.specs.Bound.{bound_line}
use Rattle.streamcode.specs.Trial.{trial_line}
use Rattle.streamcode.specs.Verdict.{verdict_end, meets_text, fails_text, verdict_text}

-- ends that the words and the input decide
abbrev pub IsOfInput : End → Type 0
IsOfInput (Thinned dropped) = Unit {0}
IsOfInput (Generated records) = Unit {0}
IsOfInput (Protected done) = Unit {0}
IsOfInput (Repaired totals) = Unit {0}
IsOfInput (Tried trial) = Unit {0}
IsOfInput Accepted = Unit {0}
IsOfInput Refused = Unit {0}
IsOfInput (Bound kept period) = Unit {0}
IsOfInput (CertificateRefused residue) = Unit {0}
IsOfInput (TooManyClasses count) = Unit {0}
IsOfInput (Designed candidate k n) = Unit {0}
IsOfInput (TooManySymbols symbols) = Unit {0}
IsOfInput NoCode = Unit {0}
IsOfInput (LossRefused window) = Unit {0}
IsOfInput (FileRefused role fault) = Unit {0}
IsOfInput (FileTooLong role) = Unit {0}
IsOfInput (PacketTooWide bytes) = Unit {0}
IsOfInput (PacketTooLong index len) = Unit {0}
IsOfInput TooManyRecords = Unit {0}
IsOfInput (TooManySlots slots) = Unit {0}
IsOfInput (WrongCode index) = Unit {0}
IsOfInput (BadShape index) = Unit {0}
IsOfInput (OtherWidth slot) = Unit {0}
IsOfInput (OtherEnd slot) = Unit {0}
IsOfInput (BadBlock slot) = Unit {0}
IsOfInput (Clash slot) = Unit {0}
IsOfInput (Capture fault) = Unit {0}
IsOfInput (MoreRecords flags) = Unit {0}
IsOfInput (FewerRecords flags records) = Unit {0}
IsOfInput Usage = ⊥
IsOfInput ReadFault = ⊥
IsOfInput WriteFault = ⊥
IsOfInput NoMemory = ⊥

-- their status isn't that of words with no form, nor one of the outside
pub record IsInside (status : ℕ) : Type 0 where
  pub formed : status ≢ 2
  pub inside : (status < 7) ⊎ (9 < status)

missed_inside : (none : Bool) → IsInside (if none then 0 else 5)
missed_inside true = record { formed = λ e. omega (arith, e); inside = inl (omega arith) }
missed_inside false = record { formed = λ e. omega (arith, e); inside = inl (omega arith) }

pub of_input_inside : (end : End) → IsOfInput end → IsInside (status_of end)
of_input_inside (Thinned dropped) h = record { formed = λ e. omega (arith, e); inside = inl (omega arith) }
of_input_inside (Generated records) h = record { formed = λ e. omega (arith, e); inside = inl (omega arith) }
of_input_inside (Protected done) h = record { formed = λ e. omega (arith, e); inside = inl (omega arith) }
of_input_inside (Repaired totals) h = missed_inside (totals.missed == 0)
of_input_inside (Tried trial) h = missed_inside (trial.missed == 0)
of_input_inside Accepted h = record { formed = λ e. omega (arith, e); inside = inl (omega arith) }
of_input_inside (Bound kept period) h = record { formed = λ e. omega (arith, e); inside = inl (omega arith) }
of_input_inside (CertificateRefused residue) h = record { formed = λ e. omega (arith, e); inside = inl (omega arith) }
of_input_inside Refused h = record { formed = λ e. omega (arith, e); inside = inl (omega arith) }
of_input_inside (LossRefused window) h = record { formed = λ e. omega (arith, e); inside = inl (omega arith) }
of_input_inside (Capture fault) h = record { formed = λ e. omega (arith, e); inside = inl (omega arith) }
of_input_inside (MoreRecords flags) h = record { formed = λ e. omega (arith, e); inside = inl (omega arith) }
of_input_inside (FewerRecords flags records) h = record { formed = λ e. omega (arith, e); inside = inl (omega arith) }
of_input_inside (FileRefused role fault) h = record { formed = λ e. omega (arith, e); inside = inl (omega arith) }
of_input_inside (FileTooLong role) h = record { formed = λ e. omega (arith, e); inside = inl (omega arith) }
of_input_inside (PacketTooWide bytes) h = record { formed = λ e. omega (arith, e); inside = inl (omega arith) }
of_input_inside (PacketTooLong index len) h = record { formed = λ e. omega (arith, e); inside = inl (omega arith) }
of_input_inside TooManyRecords h = record { formed = λ e. omega (arith, e); inside = inl (omega arith) }
of_input_inside (TooManySlots slots) h = record { formed = λ e. omega (arith, e); inside = inl (omega arith) }
of_input_inside (WrongCode index) h = record { formed = λ e. omega (arith, e); inside = inl (omega arith) }
of_input_inside (BadShape index) h = record { formed = λ e. omega (arith, e); inside = inl (omega arith) }
of_input_inside (OtherWidth slot) h = record { formed = λ e. omega (arith, e); inside = inl (omega arith) }
of_input_inside (OtherEnd slot) h = record { formed = λ e. omega (arith, e); inside = inl (omega arith) }
of_input_inside (BadBlock slot) h = record { formed = λ e. omega (arith, e); inside = inl (omega arith) }
of_input_inside (Clash slot) h = record { formed = λ e. omega (arith, e); inside = inl (omega arith) }
of_input_inside (TooManyClasses count) h = record { formed = λ e. omega (arith, e); inside = inr (omega arith) }
of_input_inside (Designed candidate k n) h = record { formed = λ e. omega (arith, e); inside = inl (omega arith) }
of_input_inside (TooManySymbols symbols) h = record { formed = λ e. omega (arith, e); inside = inl (omega arith) }
of_input_inside NoCode h = record { formed = λ e. omega (arith, e); inside = inr (omega arith) }
of_input_inside Usage h = absurd h
of_input_inside ReadFault h = absurd h
of_input_inside WriteFault h = absurd h
of_input_inside NoMemory h = absurd h

pub not_inside : (a b : ℕ) → IsInside a → a ≡ b → (b ≡ 2) ⊎ ((7 ≤ b) × (b ≤ 9)) → ⊥
not_inside a b h e (inl two) = h.formed (e ∙ two)
not_inside a b h e (inr out) = elim h.inside as (λ _. ⊥) [
  | inl low ↦ omega (arith, e, low, out.0)
  | inr high ↦ omega (arith, e, high, out.1)
]

-- What every job of a run keeps: it grows, and the outside ends it as every run.
pub record IsRunJob (job : Job End) : Type 0 where
  pub is_job : IsJob job
  pub read_failed : job.read_failed ≡ ReadFault
  pub write_failed : job.write_failed ≡ WriteFault
  pub no_memory : job.no_memory ≡ NoMemory

-- What the job of every command keeps: besides, what the input decides is none of the outside's ends.
pub record IsProgramJob (job : Job End) : Type 0 where
  pub run : IsRunJob job
  pub of_input : (input : List ℕ) → IsOfInput (job.whole input).answer

pub refusal-is : (allocates : Bool) (end : End) → IsRunJob (refusal allocates end)
refusal-is allocates end = record {
  is_job = IsJob-at_once _ allocates [] ReadFault WriteFault NoMemory (IsPrefix-nil []);
  read_failed = refl;
  write_failed = refl;
  no_memory = refl;
}

break_of_input : (flags n : ℕ) (break : Break) → IsOfInput (end_of_drop flags (Err (Dump (break_fault n break))))
break_of_input flags n short_head = tt
break_of_input flags n short_length = tt
break_of_input flags n cut_body = tt

end_of_input : (flags : List Bool) (n : ℕ) (front : Front) (less : Bool) → nat_lt n (length flags) ≡ less → IsOfInput (end_of_drop (length flags) (end_at flags n front))
end_of_input flags n (breaks break) less e = break_of_input (length flags) n break
end_of_input flags n (starts rec rest) less e = tt
end_of_input flags n ends true e = subst (λ b. IsOfInput (end_of_drop (length flags) (cond b (Err (Fewer n)) (Ok (record { records = length flags; lost = set_count flags }))))) (sym e) tt
end_of_input flags n ends false e = subst (λ b. IsOfInput (end_of_drop (length flags) (cond b (Err (Fewer n)) (Ok (record { records = length flags; lost = set_count flags }))))) (sym e) tt

rest_of_input : (flags : List Bool) (parts : Parts) (more : Bool) → nat_lt (length flags) (length parts.records) ≡ more → IsOfInput (end_of_drop (length flags) (rest_end flags parts))
unfolding rest_end
rest_of_input flags parts true e =
    subst (λ b. IsOfInput (end_of_drop (length flags) (cond b (Err More) (end_at flags (length parts.records) (front_of parts.tail))))) (sym e) tt
rest_of_input flags parts false e =
    subst (λ b. IsOfInput (end_of_drop (length flags) (cond b (Err More) (end_at flags (length parts.records) (front_of parts.tail))))) (sym e)
    (end_of_input flags (length parts.records) (front_of parts.tail) (nat_lt (length parts.records) (length flags)) refl)

drop_of_input : (flags : List Bool) (reading : Reading) → IsOfInput (end_of_drop (length flags) (thin_end flags reading))
drop_of_input flags no_preamble = tt
drop_of_input flags (reads preamble parts) = rest_of_input flags parts (nat_lt (length flags) (length parts.records)) refl

lose_by-is : (window : Option ℕ) (flags : List Bool) → IsProgramJob (lose_by window flags)
lose_by-is (Some window) flags = record { run = refusal-is true (LossRefused window); of_input = λ input. tt }
lose_by-is None flags = record {
  run = record {
    is_job = IsJob-told_as (end_of_drop (length flags)) (thinning flags) (thinning-IsJob flags);
    read_failed = refl;
    write_failed = refl;
    no_memory = refl;
  };
  of_input = λ input. drop_of_input flags (reading_of input);
}

pub lose_job-is : (channel : ChannelNumbers) (flags : List Bool) → IsProgramJob (lose_job channel flags)
lose_job-is channel flags = lose_by-is (bad_window channel flags) flags

giving-is : (end : End) (text : List ℕ) → IsOfInput end → IsProgramJob (giving end text)
giving-is end text h = record {
  run = record {
    is_job = IsJob-at_once _ true [] ReadFault WriteFault NoMemory (IsPrefix-nil text);
    read_failed = refl;
    write_failed = refl;
    no_memory = refl;
  };
  of_input = λ input. h;
}

pub gen_job-is : (seed count size : ℕ) → IsProgramJob (gen_job seed count size)
gen_job-is seed count size = giving-is (Generated count) (generated seed count size) tt

verdict-is : (file : CodeFile) (refuted : Option Refuted) → IsProgramJob (giving (verdict_end refuted) (verdict_text file refuted))
verdict-is file None = giving-is Accepted (meets_text file) tt
verdict-is file (Some refuted) = giving-is Refused (fails_text file.code.k refuted) tt

check_by-is : (many : Bool) (file : CodeFile) → IsProgramJob (check_by many file)
check_by-is true file = record { run = refusal-is true (TooManyClasses (class_count file.channel)); of_input = λ input. tt }
check_by-is false file = verdict-is file (refuted_of file.code file.channel)

pub check_job-is : (file : CodeFile) → IsProgramJob (check_job file)
check_job-is file = check_by-is (nat_lt 1000000 (class_count file.channel)) file

pub bound_job-is : (channel : ChannelNumbers) → IsProgramJob (bound_job channel)
bound_job-is channel =
    let certificate = standard_certificate channel in
    giving-is (Bound (kept_count certificate) certificate.period) (certificate_text certificate ++ 10 ∷ []) tt

certify_by-is : (residue : Option ℕ) (file : CodeFile) (certificate : CertificateNumbers) → IsProgramJob (certify_by residue file certificate)
certify_by-is (Some residue) file certificate = record { run = refusal-is true (CertificateRefused residue); of_input = λ input. tt }
certify_by-is None file certificate = giving-is Accepted (bound_line file.code certificate) tt

pub certify_job-is : (file : CodeFile) (certificate : CertificateNumbers) → IsProgramJob (certify_job file certificate)
certify_job-is file certificate = certify_by-is (bad_residue file.channel certificate) file certificate

-- what is told for a kind and a channel isn't want of memory
abbrev IsDesignAnswer : Result Found DesignFault → Type 0
IsDesignAnswer (Ok found) = Unit {0}
IsDesignAnswer (Err design.NotBurst) = Unit {0}
IsDesignAnswer (Err (design.TooWide symbols)) = Unit {0}
IsDesignAnswer (Err (design.TooManyClasses count)) = Unit {0}
IsDesignAnswer (Err design.NoCode) = Unit {0}
IsDesignAnswer (Err design.Memory) = ⊥

one_answer : (test : Bool) (a b : Result Found DesignFault) → IsDesignAnswer a → IsDesignAnswer b → IsDesignAnswer (cond test a b)
one_answer true a b ha hb = ha
one_answer false a b ha hb = hb

first_answer : (kind : MakerKind) (channel : ChannelNumbers) (c n : ℕ) → IsDesignAnswer (first_from kind channel c n)
unfolding first_from
first_answer kind channel c zero = tt
first_answer kind channel c (suc n) =
    one_answer (is_none (refuted_of (candidate kind channel c) channel)) (Ok (found_at kind channel c)) (first_from kind channel (c + 1) n) tt
    (first_answer kind channel (c + 1) n)

design_answer : (kind : MakerKind) (channel : ChannelNumbers) → IsDesignAnswer (design_of kind channel)
unfolding design_of
design_answer kind channel =
    one_answer (is_not_burst kind channel) _ _ tt
    (one_answer (nat_lt 64 (candidate_width kind channel)) _ _ tt
    (one_answer (nat_lt 1000000 (class_count channel)) _ _ tt (first_answer kind channel 0 (candidate_count kind))))

design_by-is : (channel : ChannelNumbers) (answer : Result Found DesignFault) → IsDesignAnswer answer → IsProgramJob (design_by channel answer)
design_by-is channel (Ok found) h = giving-is (Designed found.candidate found.code.k (found.code.k + found.code.r)) (design_text channel found) tt
design_by-is channel (Err design.NotBurst) h = record { run = refusal-is true NoCode; of_input = λ input. tt }
design_by-is channel (Err (design.TooWide symbols)) h = record { run = refusal-is true (TooManySymbols symbols); of_input = λ input. tt }
design_by-is channel (Err (design.TooManyClasses count)) h = record { run = refusal-is true (TooManyClasses count); of_input = λ input. tt }
design_by-is channel (Err design.NoCode) h = record { run = refusal-is true NoCode; of_input = λ input. tt }
design_by-is channel (Err design.Memory) h = absurd h

pub design_job-is : (kind : Kind) (channel : ChannelNumbers) → IsProgramJob (design_job kind channel)
design_job-is kind channel = design_by-is channel (design_of (maker_of kind) channel) (design_answer (maker_of kind) channel)

trial_by-is : (wide : Bool) (packet : ℕ) (trial : Trial) → IsProgramJob (trial_by (cond wide (Err (unmade.TooWide packet)) (Ok trial)))
trial_by-is true packet trial = record { run = refusal-is true (PacketTooWide packet); of_input = λ input. tt }
trial_by-is false packet trial = giving-is (Tried trial) (trial_line trial) tt

pub trial_job-is : (file : CodeFile) (seed count size : ℕ) → IsProgramJob (trial_job file seed count size)
trial_job-is file seed count size =
    let packet = packet_len (protection_of file size) in trial_by-is (nat_lt 65527 packet) packet (tried file seed count size)

decided_of_input : (result : Result Done ProtectFault) → IsDecidedAnswer result → IsOfInput (end_of_protect result)
decided_of_input (Ok done) h = tt
decided_of_input (Err (TooWide bytes)) h = tt
decided_of_input (Err (Unread Preamble)) h = tt
decided_of_input (Err (Unread (RecordHead i))) h = tt
decided_of_input (Err (Unread (RecordLength i))) h = tt
decided_of_input (Err (Unread (Truncated i))) h = tt
decided_of_input (Err (Unread Read)) h = absurd h
decided_of_input (Err (Unread Memory)) h = absurd h
decided_of_input (Err TooManyRecordsThere) h = tt
decided_of_input (Err (TooLong index len)) h = tt
decided_of_input (Err TooManySlotsThere) h = tt
decided_of_input (Err Unwritten) h = absurd h
decided_of_input (Err NoRoomThere) h = absurd h

-- how the outside ends protecting
record IsEndedAs (job : Job (Result Done ProtectFault)) : Type 0 where
  read_failed : job.read_failed ≡ Err (Unread Read)
  write_failed : job.write_failed ≡ Err Unwritten
  no_memory : job.no_memory ≡ Err NoRoomThere

ended_within : (wide : Bool) (p : Protection) → IsEndedAs (protecting_within wide p)
ended_within true p = record { read_failed = refl; write_failed = refl; no_memory = refl }
ended_within false p = record { read_failed = refl; write_failed = refl; no_memory = refl }

ended : (file : CodeFile) (size : ℕ) → IsEndedAs (protecting file size)
ended file size = ended_within (nat_lt 65527 (packet_len (protection_of file size))) (protection_of file size)

pub protect_job-is : (file : CodeFile) (size : ℕ) → IsProgramJob (protect_job file size)
protect_job-is file size =
    let outside = ended file size in
    record {
      run = record {
        is_job = IsJob-told_as end_of_protect (protecting file size) (protecting-IsJob file size);
        read_failed = ap end_of_protect outside.read_failed;
        write_failed = ap end_of_protect outside.write_failed;
        no_memory = ap end_of_protect outside.no_memory;
      };
      of_input = λ input. decided_of_input _ (protecting-decided file size input);
    }

repaired_of_input : (result : Result Totals RepairEnd) → IsRepairAnswer result → IsOfInput (end_of_repair result)
repaired_of_input (Ok totals) h = tt
repaired_of_input (Err (repair.Dump Preamble)) h = tt
repaired_of_input (Err (repair.Dump (RecordHead i))) h = tt
repaired_of_input (Err (repair.Dump (RecordLength i))) h = tt
repaired_of_input (Err (repair.Dump (Truncated i))) h = tt
repaired_of_input (Err (repair.Dump Read)) h = absurd h
repaired_of_input (Err (repair.Dump Memory)) h = absurd h
repaired_of_input (Err repair.TooManyRecords) h = tt
repaired_of_input (Err (repair.WrongCode index)) h = tt
repaired_of_input (Err (repair.BadShape index)) h = tt
repaired_of_input (Err (repair.TooManySlots slot)) h = tt
repaired_of_input (Err (repair.Unfit (unfit.OtherWidth slot was now))) h = tt
repaired_of_input (Err (repair.Unfit (unfit.OtherEnd slot was now))) h = tt
repaired_of_input (Err (repair.Clash slot)) h = tt
repaired_of_input (Err (repair.BadBlock slot)) h = tt
repaired_of_input (Err repair.Write) h = absurd h
repaired_of_input (Err repair.Memory) h = absurd h

pub repair_job-is : (file : CodeFile) → IsProgramJob (repair_job file)
repair_job-is file = record {
  run = record {
    is_job = IsJob-told_as end_of_repair (repairing file) (repairing-IsJob file);
    read_failed = refl;
    write_failed = refl;
    no_memory = refl;
  };
  of_input = λ input. repaired_of_input _ (repairing-decided file input);
}

pub file_refused-is : (role : Role) (fault : FileFault) → IsProgramJob (refusal true (FileRefused role fault))
file_refused-is role fault = record { run = refusal-is true (FileRefused role fault); of_input = λ input. tt }

pub file_too_long-is : (role : Role) → IsProgramJob (refusal true (FileTooLong role))
file_too_long-is role = record { run = refusal-is true (FileTooLong role); of_input = λ input. tt }

-- ---- how a call ends that gives a text
pub giving_given : (end : End) (text : List ℕ) (old new : Told) → PutsAll old new text → Ends (giving end text) old new end
giving_given end text old new h =
    let there = some_left new.left in
    record {
      cause = input;
      taken = [];
      put = text;
      moves = h.puts.moves;
      unread = λ _. refl;
      caused = record { rest = there.0; left = there.1; answered = refl; given = refl; ended = λ no. absurd (cc) };
    }

pub giving_cut : (end : End) (text : List ℕ) (old new : Told) → WriteFailed old new text → Ends (giving end text) old new WriteFault
giving_cut end text old new h = record {
  cause = write;
  taken = [];
  put = h.put;
  moves = h.puts.moves;
  unread = λ _. refl;
  caused = (refl, h.rose, inl (record { rest = h.rest; parts = h.parts; more = h.short }));
}

-- ---- how `lose` ends

pub lose_refused : (channel : ChannelNumbers) (flags : List Bool) (told : Told) (window : ℕ) → bad_window channel flags ≡ Some window → Ends (lose_job channel flags) told told (LossRefused window)
lose_refused channel flags told window e =
    subst (λ w. Ends (lose_by w flags) told told (LossRefused window)) (sym e) (Ends-at_once (LossRefused window) ReadFault WriteFault NoMemory true told)

pub lose_thinned : (channel : ChannelNumbers) (flags : List Bool) (old new : Told) (result : Result Dropped DropFault) → bad_window channel flags ≡ None
    → Ends (thinning flags) old new result → Ends (lose_job channel flags) old new (end_of_drop (length flags) result)
lose_thinned channel flags old new result e h =
    subst (λ w. Ends (lose_by w flags) old new (end_of_drop (length flags) result)) (sym e) (Ends-told_as (end_of_drop (length flags)) (thinning flags) old new result h)

-- a generated capture isn't empty
pub gen_job-gives : (seed count size : ℕ) → IsSilent (gen_job seed count size) → ⊥
unfolding generated
gen_job-gives seed count size silent = cc silent.nothing

-- ---- how `check` ends
check_by_memory : (many : Bool) (file : CodeFile) (told : Told) → Ends (check_by many file) told told NoMemory
check_by_memory true file told = Ends-no_memory (refusal true (TooManyClasses (class_count file.channel))) told refl
check_by_memory false file told = Ends-no_memory (giving (verdict_end (refuted_of file.code file.channel)) (verdict_text file (refuted_of file.code file.channel))) told refl

pub check_memory : (file : CodeFile) (told : Told) → Ends (check_job file) told told NoMemory
check_memory file told = check_by_memory (nat_lt 1000000 (class_count file.channel)) file told

many_is : (n : ℕ) → 1000000 < n → nat_lt 1000000 n ≡ true
many_is n h = grind (arith, nat_tests, h)

few_is : (n : ℕ) → n ≤ 1000000 → nat_lt 1000000 n ≡ false
few_is n h = grind (arith, nat_tests, h)

pub check_many : (file : CodeFile) (told : Told) (count : ℕ) → 1000000 < class_count file.channel → count ≡ class_count file.channel → Ends (check_job file) told told (TooManyClasses count)
check_many file told count h same =
    subst (λ b. Ends (check_by b file) told told (TooManyClasses count)) (sym (many_is (class_count file.channel) h))
    (subst (λ n. Ends (refusal true (TooManyClasses (class_count file.channel))) told told (TooManyClasses n)) (sym same)
    (Ends-at_once (TooManyClasses (class_count file.channel)) ReadFault WriteFault NoMemory true told))

pub check_given : (file : CodeFile) (refuted : Option Refuted) (text : List ℕ) (end given : End) (old new : Told) → class_count file.channel ≤ 1000000 → refuted ≡ refuted_of file.code file.channel
    → text ≡ verdict_text file refuted → given ≡ verdict_end refuted → Ends (giving given text) old new end → Ends (check_job file) old new end
check_given file refuted text end given old new few same is what h =
    subst (λ b. Ends (check_by b file) old new end) (sym (few_is (class_count file.channel) few))
    (subst (λ r. Ends (giving (verdict_end r) (verdict_text file r)) old new end) same
    (subst (λ g. Ends (giving g (verdict_text file refuted)) old new end) what
    (subst (λ l. Ends (giving given l) old new end) is h)))

-- a verdict isn't empty
verdict_gives : (file : CodeFile) (refuted : Option Refuted) → verdict_text file refuted ≡ [] → ⊥
verdict_gives file None h = cc h
verdict_gives file (Some refuted) h = cc h

pub check_gives : (file : CodeFile) → class_count file.channel ≤ 1000000 → IsSilent (check_job file) → ⊥
check_gives file few silent =
    let there : IsSilent (check_by false file) = subst (λ b. IsSilent (check_by b file)) (few_is (class_count file.channel) few) silent in
    verdict_gives file (refuted_of file.code file.channel) there.nothing

-- ---- how `bound` and `certify` end
pub bound_gives : (channel : ChannelNumbers) → IsSilent (bound_job channel) → ⊥
bound_gives channel silent = cc silent.nothing

pub bound_memory : (channel : ChannelNumbers) (told : Told) → Ends (bound_job channel) told told NoMemory
bound_memory channel told = Ends-no_memory (bound_job channel) told refl

certify_by_memory : (residue : Option ℕ) (file : CodeFile) (certificate : CertificateNumbers) (told : Told) → Ends (certify_by residue file certificate) told told NoMemory
certify_by_memory (Some residue) file certificate told = Ends-no_memory (refusal true (CertificateRefused residue)) told refl
certify_by_memory None file certificate told = Ends-no_memory (giving Accepted (bound_line file.code certificate)) told refl

pub certify_memory : (file : CodeFile) (certificate : CertificateNumbers) (told : Told) → Ends (certify_job file certificate) told told NoMemory
certify_memory file certificate told = certify_by_memory (bad_residue file.channel certificate) file certificate told

pub certify_refused : (file : CodeFile) (certificate : CertificateNumbers) (told : Told) (residue : ℕ) → Some residue ≡ bad_residue file.channel certificate
    → Ends (certify_job file certificate) told told (CertificateRefused residue)
certify_refused file certificate told residue e =
    subst (λ r. Ends (certify_by r file certificate) told told (CertificateRefused residue)) e (Ends-at_once (CertificateRefused residue) ReadFault WriteFault NoMemory true told)

pub certify_given : (file : CodeFile) (certificate : CertificateNumbers) (text : List ℕ) (end : End) (old new : Told) → None ≡ bad_residue file.channel certificate → text ≡ bound_line file.code certificate
    → Ends (giving Accepted text) old new end → Ends (certify_job file certificate) old new end
certify_given file certificate text end old new e is h =
    subst (λ r. Ends (certify_by r file certificate) old new end) e (subst (λ l. Ends (giving Accepted l) old new end) is h)

pub certify_gives : (file : CodeFile) (certificate : CertificateNumbers) → None ≡ bad_residue file.channel certificate → IsSilent (certify_job file certificate) → ⊥
certify_gives file certificate e silent =
    let there : IsSilent (certify_by None file certificate) = subst (λ r. IsSilent (certify_by r file certificate)) (sym e) silent in
    cc there.nothing

-- ---- how `design` ends
design_by_memory : (channel : ChannelNumbers) (answer : Result Found DesignFault) (told : Told) → Ends (design_by channel answer) told told NoMemory
design_by_memory channel (Ok found) told = Ends-no_memory (design_by channel (Ok found)) told refl
design_by_memory channel (Err fault) told = Ends-no_memory (refusal true (end_of_design fault)) told refl

pub design_found_memory : (channel : ChannelNumbers) (found : Found) (told : Told) → Ends (design_by channel (Ok found)) told told NoMemory
design_found_memory channel found told = design_by_memory channel (Ok found) told

pub design_memory : (kind : Kind) (channel : ChannelNumbers) (told : Told) → Ends (design_job kind channel) told told NoMemory
design_memory kind channel told = design_by_memory channel (design_of (maker_of kind) channel) told

-- memory ran out, or the fault is told
pub design_told : (kind : Kind) (channel : ChannelNumbers) (told : Told) (maker : MakerKind) (result : Result Found DesignFault) (fault : DesignFault) (end : End) → maker ≡ maker_of kind
    → result ≡ Err fault → (result ≡ Err design.Memory) ⊎ (result ≡ design_of maker channel) → end ≡ end_of_design fault → Ends (design_job kind channel) told told end
design_told kind channel told maker result fault end made failed (inl memory) is =
    let same : fault ≡ design.Memory = cc in
    subst (λ e. Ends (design_job kind channel) told told e) (sym (is ∙ ap end_of_design same)) (design_memory kind channel told)
design_told kind channel told maker result fault end made failed (inr answer) is =
    subst (λ a. Ends (design_by channel a) told told end) (sym failed ∙ answer ∙ ap (λ m. design_of m channel) made)
    (subst (λ e. Ends (refusal true (end_of_design fault)) told told e) (sym is) (Ends-at_once (end_of_design fault) ReadFault WriteFault NoMemory true told))

pub design_given : (kind : Kind) (channel : ChannelNumbers) (result : Result Found DesignFault) (found : Found) (end : End) (old new : Told)
    → (result ≡ Err design.Memory) ⊎ (result ≡ design_of (maker_of kind) channel) → result ≡ Ok found
    → Ends (design_by channel (Ok found)) old new end → Ends (design_job kind channel) old new end
design_given kind channel result found end old new (inl memory) is h = absurd (cc)
design_given kind channel result found end old new (inr answer) is h = subst (λ a. Ends (design_by channel a) old new end) (sym is ∙ answer) h

-- a code file isn't empty
design_by_gives : (channel : ChannelNumbers) (found : Found) → IsSilent (design_by channel (Ok found)) → ⊥
design_by_gives channel found silent = cc silent.nothing

pub design_gives : (kind : Kind) (channel : ChannelNumbers) (result : Result Found DesignFault) (found : Found)
    → (result ≡ Err design.Memory) ⊎ (result ≡ design_of (maker_of kind) channel) → result ≡ Ok found → IsSilent (design_job kind channel) → ⊥
design_gives kind channel result found (inl memory) is silent = absurd (cc)
design_gives kind channel result found (inr answer) is silent =
    design_by_gives channel found (subst (λ a. IsSilent (design_by channel a)) (sym answer ∙ is) silent)

-- ---- how `trial` ends
trial_by_memory : (wide : Bool) (packet : ℕ) (trial : Trial) (told : Told) → Ends (trial_by (cond wide (Err (unmade.TooWide packet)) (Ok trial))) told told NoMemory
trial_by_memory true packet trial told = Ends-no_memory (refusal true (PacketTooWide packet)) told refl
trial_by_memory false packet trial told = Ends-no_memory (giving (Tried trial) (trial_line trial)) told refl

pub trial_memory : (file : CodeFile) (seed count size : ℕ) (told : Told) → Ends (trial_job file seed count size) told told NoMemory
trial_memory file seed count size told =
    let packet = packet_len (protection_of file size) in trial_by_memory (nat_lt 65527 packet) packet (tried file seed count size) told

pub trial_wide : (file : CodeFile) (seed count size : ℕ) (fault : TrialFault) (packet : ℕ) (told : Told) → TrialGives file seed count size (Err fault) → fault ≡ unmade.TooWide packet
    → Ends (trial_job file seed count size) told told (PacketTooWide packet)
trial_wide file seed count size fault packet told gives is =
    let wide : trial_of file seed count size ≡ Err (unmade.TooWide packet) = subst (λ f. TrialGives file seed count size (Err f)) is gives in
    subst (λ r. Ends (trial_by r) told told (PacketTooWide packet)) (sym wide) (Ends-at_once (PacketTooWide packet) ReadFault WriteFault NoMemory true told)

pub trial_given : (file : CodeFile) (seed count size : ℕ) (trial : Trial) (text : List ℕ) (end : End) (old new : Told) → trial_of file seed count size ≡ Ok trial → text ≡ trial_line trial
    → Ends (giving (Tried trial) text) old new end → Ends (trial_job file seed count size) old new end
trial_given file seed count size trial text end old new e is h =
    subst (λ r. Ends (trial_by r) old new end) (sym e) (subst (λ l. Ends (giving (Tried trial) l) old new end) is h)

-- a line isn't empty
trial_by_gives : (trial : Trial) → IsSilent (trial_by (Ok trial)) → ⊥
trial_by_gives trial silent = cc silent.nothing

pub trial_gives : (file : CodeFile) (seed count size : ℕ) (trial : Trial) → trial_of file seed count size ≡ Ok trial → IsSilent (trial_job file seed count size) → ⊥
trial_gives file seed count size trial e silent = trial_by_gives trial (subst (λ r. IsSilent (trial_by r)) e silent)
