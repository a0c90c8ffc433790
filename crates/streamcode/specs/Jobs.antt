-- The jobs of the program's commands, over the input and the output.
use Rattle.std.specs.Prelude.{◌≡◌, ℕ, Bool, true, false, Option, Some, None, List, [], ◌∷◌, ◌++◌, ◌+◌, length, nat_lt, Result, Ok, Err}
use Rattle.sc_outside.specs.Ends.{Job, only, at_once, told_as}
use Rattle.sc_channel.specs.Certificate.{CertificateNumbers}
use Rattle.sc_channel.specs.Channel.{ChannelNumbers}
use Rattle.sc_channel.specs.Classes.{class_count}
use Rattle.sc_check.specs.Answer.{refuted_of}
use Rattle.sc_channel.specs.Loss.{bad_window}
use Rattle.sc_rtpdump.specs.Thin.{thinning}
use Rattle.sc_code.specs.declared.code.CodeFile.{CodeFile}
use Rattle.sc_slots.specs.Protected.{protecting}
use Rattle.sc_repair.specs.Repairing.{repairing}
use Rattle.sc_codefile.specs.CertificateFile.{certificate_text}
use Rattle.sc_codefile.specs.CodeText.{code_text}
use Rattle.sc_optimal.specs.declared.design.Found.{Found}
use Rattle.sc_optimal.specs.declared.kind.DesignFault.{DesignFault}
use Rattle.sc_optimal.specs.declared.kind.MakerKind.{MakerKind}
use Rattle.sc_optimal.specs.declared.kind.MakerKind.TheVariants as maker
use Rattle.sc_optimal.specs.Design.{design_of}
use Rattle.sc_words.specs.declared.words.Kind.{Kind}
use Rattle.sc_words.specs.declared.words.Kind.TheVariants.{Ms, Layered, Optimal}
use Rattle.sc_rate.specs.Rate.{kept_count}
use Rattle.sc_rate.specs.Residue.{bad_residue}
use Rattle.sc_rate.specs.Standard.{standard_certificate}
use Rattle.sc_trial.specs.declared.outcome.Trial.{Trial}
use Rattle.sc_trial.specs.declared.outcome.TrialFault.{TrialFault}
use Rattle.sc_trial.specs.declared.outcome.TrialFault.TheVariants as unmade
use Rattle.sc_trial.specs.Generated.{generated}
use Rattle.sc_trial.specs.Trial.{trial_of}
use Rattle.streamcode.specs.declared.end.End.{End}
use Rattle.streamcode.specs.declared.end.End.TheVariants.{Generated, Bound, Designed, Accepted, CertificateRefused, LossRefused, PacketTooWide, TooManyClasses, Tried, ReadFault, WriteFault, NoMemory}
use Rattle.streamcode.specs.End.{end_of_drop, end_of_protect, end_of_repair, end_of_design}
use Rattle.streamcode.specs.Verdict.{verdict_end, verdict_text}
use Rattle.streamcode.specs.Bound.{bound_line}
use Rattle.streamcode.specs.Trial.{trial_line}

-- an end that the words decide alone, or the words and the files: nothing is read and nothing given. It may have taken
-- memory to decide.
abbrev pub refusal : Bool → End → Job End
refusal allocates end = at_once (only end) allocates [] ReadFault WriteFault NoMemory

-- A text that the words and the files decide is given, whatever the input is. Memory runs out before any of it.
abbrev pub giving : End → List ℕ → Job End
giving end text =
    at_once (record { answer = end; text = text; at_end = false }) true [] ReadFault WriteFault NoMemory

-- a loss that isn't admissible is refused; else the capture is thinned
abbrev pub lose_by : Option ℕ → List Bool → Job End
lose_by (Some window) flags = refusal true (LossRefused window)
lose_by None flags = told_as (end_of_drop (length flags)) (thinning flags)

abbrev pub lose_job : ChannelNumbers → List Bool → Job End
lose_job channel flags = lose_by (bad_window channel flags) flags

-- the generated capture is given
abbrev pub gen_job : ℕ → ℕ → ℕ → Job End
gen_job seed count size = giving (Generated count) (generated seed count size)

-- a capture is protected by a code, for packets of at most this size
abbrev pub protect_job : CodeFile → ℕ → Job End
protect_job file size = told_as end_of_protect (protecting file size)

-- a capture that was protected by a code is repaired
abbrev pub repair_job : CodeFile → Job End
repair_job file = told_as end_of_repair (repairing file)

-- Whether a code meets its channel: a channel with too many classes is refused; else the verdict is given.
abbrev pub check_by : Bool → CodeFile → Job End
check_by true file = refusal true (TooManyClasses (class_count file.channel))
check_by false file =
    giving (verdict_end (refuted_of file.code file.channel)) (verdict_text file (refuted_of file.code file.channel))

abbrev pub check_job : CodeFile → Job End
check_job file = check_by (nat_lt 1000000 (class_count file.channel)) file

-- the standard certificate of a channel is given, and a newline (10)
abbrev pub bound_by : CertificateNumbers → Job End
bound_by certificate = giving (Bound (kept_count certificate) certificate.period) (certificate_text certificate ++ 10 ∷ [])

abbrev pub bound_job : ChannelNumbers → Job End
bound_job channel = bound_by (standard_certificate channel)

-- Whether a channel accepts a certificate: it is refused at a residue; else its bound is given, with the rate of the code.
abbrev pub certify_by : Option ℕ → CodeFile → CertificateNumbers → Job End
certify_by (Some residue) file certificate = refusal true (CertificateRefused residue)
certify_by None file certificate = giving Accepted (bound_line file.code certificate)

abbrev pub certify_job : CodeFile → CertificateNumbers → Job End
certify_job file certificate = certify_by (bad_residue file.channel certificate) file certificate

-- the maker that a kind of codes stands for
abbrev pub maker_of : Kind → MakerKind
maker_of Ms = maker.Ms
maker_of Layered = maker.Layered
maker_of Optimal = maker.Optimal

-- the code file of a code that was found for a channel, as it is given: with a newline (10)
abbrev pub design_text : ChannelNumbers → Found → List ℕ
design_text channel found = code_text (record { channel = channel; code = found.code }) ++ 10 ∷ []

-- The code file of the first candidate of a kind that meets a channel is given; or it is told why there is none.
abbrev pub design_by : ChannelNumbers → Result Found DesignFault → Job End
design_by channel (Ok found) = giving (Designed found.candidate found.code.k (found.code.k + found.code.r)) (design_text channel found)
design_by channel (Err fault) = refusal true (end_of_design fault)

abbrev pub design_job : Kind → ChannelNumbers → Job End
design_job kind channel = design_by channel (design_of (maker_of kind) channel)

-- What a trial came to is given in a line; a protected packet that would be too wide is refused. That memory ran out is no function
-- of the words and the files, so it is never due.
abbrev pub trial_by : Result Trial TrialFault → Job End
trial_by (Ok tried) = giving (Tried tried) (trial_line tried)
trial_by (Err (unmade.TooWide bytes)) = refusal true (PacketTooWide bytes)
trial_by (Err unmade.Memory) = refusal true NoMemory

-- a code is tried on the generated capture and the generated loss of a seed
abbrev pub trial_job : CodeFile → ℕ → ℕ → ℕ → Job End
trial_job file seed count size = trial_by (trial_of file seed count size)

-- a job that neither reads nor gives
pub record IsSilent (job : Job End) : Type 0 where
  pub unread : job.reads ≡ false
  pub nothing : (job.whole []).text ≡ []
