-- What follows from how a run ended by the plan of its words.
use Rattle.std.proofs.Common.{◌≡◌, ◌⊎◌, ◌↔◌, inl, inr, ℕ, ◌-◌, ◌^◌, ◌<◌, Bool, true, false, nat_lt, if◌then◌else◌, Option, None, Some, IfSome, List, [], ◌∷◌, ◌++◌, length, Result, Ok, Err, refl, sym, ap, ◌∙◌, subst, arith, length-append}
use Rattle.sc_outside.specs.Cabinet.{CabinetTold, Lacks, IsStartOfFile, FetchFails, fault, lacks}
use Rattle.sc_outside.specs.Ends.{Due, Job, only, IsProperPrefix, Cause, input, read, write, memory, IsCaused, IsDue, IsOutside, GivesPrefix}
use Rattle.sc_outside.specs.Faults.{Rose}
use Rattle.sc_outside.specs.Port.{Told}
use Rattle.sc_outside.proofs.EndsLaws.{Ends-due, Ends-prefix, IsPrefix-nil}
use Rattle.sc_outside.proofs.MovesLaws.{Moves-none}
use Rattle.sc_codefile.specs.declared.fault.FileFault.{FileFault}
use Rattle.sc_codefile.specs.Reading.{code_reading, certificate_reading, loss_reading}
use Rattle.streamcode.specs.declared.end.Role.{Role}
use Rattle.streamcode.specs.declared.end.Role.TheVariants.{Code, Certificate, Loss}
use Rattle.streamcode.specs.declared.end.End.{End}
use Rattle.streamcode.specs.declared.end.End.TheVariants.{FileTooLong, Usage, ReadFault}
use Rattle.streamcode.specs.End.{status_of}
use Rattle.streamcode.specs.Files.{by_reading, by_bytes, certificate_plan, loss_plan}
use Rattle.streamcode.specs.Jobs.{refusal, lose_job, protect_job, repair_job, check_job, certify_job, trial_job}
use Rattle.streamcode.specs.Plans.{Plan, owes, fetches, most_fetched, due_by, due_of, PlanEnds, IsSilentPlan, LacksOne}
use Rattle.streamcode.specs.Runs.{command_plan, files_of, IsDueStatus, ReadRose, IsOutsideStatus, IsQuiet}
use Rattle.sc_words.specs.Words.{Command, lose, generate, protect, check, repair, bound, certify, design, trial}
use Rattle.streamcode.proofs.JobLaws.{not_inside, of_input_inside, IsRunJob, IsProgramJob, refusal-is, lose_job-is, gen_job-is, protect_job-is, repair_job-is, check_job-is, bound_job-is, certify_job-is, design_job-is, trial_job-is, file_refused-is, file_too_long-is}

-- ---- what the plans of commands keep
abbrev IsAmong : List ℕ → List (List ℕ) → Type 0
IsAmong name [] = ⊥
IsAmong name (other ∷ names) = (name ≡ other) ⊎ IsAmong name names

lacks_one : (files : Option (List (List ℕ × List ℕ))) (name : List ℕ) (names : List (List ℕ)) → IsAmong name names → Lacks files name → LacksOne files names
lacks_one files name [] a h = a
lacks_one files name (other ∷ names) (inl same) h = inl (subst (Lacks files) same h)
lacks_one files name (other ∷ names) (inr a) h = inr (lacks_one files name names a h)

-- each job that a plan comes to keeps what the job of every run keeps
abbrev IsRunPlan : Plan → Type 0
IsRunPlan (owes job) = IsRunJob job
IsRunPlan (fetches name next) = (bytes : List ℕ) → IsRunPlan (next bytes)

-- each job keeps what that of every command keeps, and each file is one of these
abbrev IsProgramPlan : List (List ℕ) → Plan → Type 0
IsProgramPlan names (owes job) = IsProgramJob job
IsProgramPlan names (fetches name next) = IsAmong name names × ((bytes : List ℕ) → IsProgramPlan names (next bytes))

run_plan : (names : List (List ℕ)) (plan : Plan) → IsProgramPlan names plan → IsRunPlan plan
run_plan names (owes job) p = p.run
run_plan names (fetches name next) p = λ bytes. run_plan names (next bytes) (p.1 bytes)

-- what is owed by the bytes of a file
module _ {A : Type 0} (role : Role) (reading : List ℕ → Result A FileFault) (names : List (List ℕ)) (next : A → Plan) (h : (file : A) → IsProgramPlan names (next file)) where
  reading_plan : (read : Result A FileFault) → IsProgramPlan names (by_reading role reading next read)
  reading_plan (Ok file) = h file
  reading_plan (Err why) = file_refused-is role why

  bytes_plan_by : (bytes : List ℕ) (short : Bool) → IsProgramPlan names (if short then by_reading role reading next (reading bytes) else owes (refusal true (FileTooLong role)))
  bytes_plan_by bytes true = reading_plan (reading bytes)
  bytes_plan_by bytes false = file_too_long-is role

  bytes_plan : (bytes : List ℕ) → IsProgramPlan names (by_bytes role reading next bytes)
  bytes_plan bytes = bytes_plan_by bytes (nat_lt (length bytes) most_fetched)

program_plan : (command : Command) → IsProgramPlan (files_of (Some command)) (command_plan (Some command))
program_plan (lose code loss) = (
  inl refl,
  bytes_plan Code code_reading (code ∷ loss ∷ []) (λ file. loss_plan loss (λ flags. owes (lose_job file.channel flags)))
      (λ file. (inr (inl refl), bytes_plan Loss loss_reading (code ∷ loss ∷ []) (λ flags. owes (lose_job file.channel flags)) (λ flags. lose_job-is file.channel flags))),
)
program_plan (generate seed count size) = gen_job-is seed count size
program_plan (protect code size) = (inl refl, bytes_plan Code code_reading (code ∷ []) (λ file. owes (protect_job file size)) (λ file. protect_job-is file size))
program_plan (check code workers) = (inl refl, bytes_plan Code code_reading (code ∷ []) (λ file. owes (check_job file)) (λ file. check_job-is file))
program_plan (repair code) = (inl refl, bytes_plan Code code_reading (code ∷ []) (λ file. owes (repair_job file)) (λ file. repair_job-is file))
program_plan (bound channel) = bound_job-is channel
program_plan (design kind channel) = design_job-is kind channel
program_plan (trial code seed count size) = (inl refl, bytes_plan Code code_reading (code ∷ []) (λ file. owes (trial_job file seed count size)) (λ file. trial_job-is file seed count size))
program_plan (certify code cert) = (
  inl refl,
  bytes_plan Code code_reading (code ∷ cert ∷ []) (λ file. certificate_plan cert (λ certificate. owes (certify_job file certificate)))
      (λ file. (inr (inl refl), bytes_plan Certificate certificate_reading (code ∷ cert ∷ []) (λ certificate. owes (certify_job file certificate)) (λ certificate. certify_job-is file certificate))),
)

is_plan : (command : Option Command) → IsRunPlan (command_plan command)
is_plan None = refusal-is false Usage
is_plan (Some command) = run_plan _ _ (program_plan command)

-- ---- what is told
some_told : {A : Type 0} (o : Option A) (Q : A → Type 0) → ((x : A) → o ≡ Some x → Q x) → IfSome o Q
some_told None Q f = tt
some_told (Some x) Q f = f x refl

of_told : {A : Type 0} (o : Option A) (Q : A → Type 0) → IfSome o Q → (x : A) → o ≡ Some x → Q x
of_told o Q h x e = subst (λ o. IfSome o Q) e h

told_map : {A : Type 0} (o : Option A) (Q R : A → Type 0) → ((x : A) → Q x → R x) → IfSome o Q → IfSome o R
told_map None Q R f h = tt
told_map (Some x) Q R f h = f x h

told_any : {A : Type 0} (o : Option A) (Q : A → Type 0) → ((x : A) → Q x) → IfSome o Q
told_any None Q f = tt
told_any (Some x) Q f = f x

-- ---- what holds of what is due, through the fetches
-- What holds of all that is due where a fetch ended the run, and what is due where its file isn't there, is so of the plan.
module _ (name : List ℕ) (next : List ℕ → Plan) (bytes : List ℕ) (Q : Due End → Type 0) where
  due_where_lacking : (files : Option (List (List ℕ × List ℕ))) → Lacks files name → Q (only ReadFault) → IfSome (due_of (fetches name next) files bytes) Q
  due_where_lacking None lack none = absurd lack
  due_where_lacking (Some files) lack none =
      subst (λ o. IfSome (due_by o (λ piece. due_of (next piece) (Some files) bytes)) Q) (sym lack) none

  due_where_failed : (old new : CabinetTold) → FetchFails old new name
      → (Rose old.faults new.faults → (due : Due End) → Q due) → Q (only ReadFault) → IfSome (due_of (fetches name next) old.files bytes) Q
  due_where_failed old new (fault rose) any none = told_any _ Q (any rose)
  due_where_failed old new (lacks lack same) any none = due_where_lacking old.files lack none

  -- what holds of what is due behind a fetch holds of what is due before it
  due_where_fetched : (files : Option (List (List ℕ × List ℕ))) (piece : List ℕ) → IsStartOfFile files name most_fetched piece
      → IfSome (due_of (next piece) files bytes) Q → IfSome (due_of (fetches name next) files bytes) Q
  due_where_fetched None piece start h = tt
  due_where_fetched (Some files) piece (file, there, is) h =
      subst (λ o. IfSome (due_by o (λ piece. due_of (next piece) (Some files) bytes)) Q) (sym there)
      (subst (λ b. IfSome (due_of (next b) (Some files) bytes) Q) is h)

-- ---- the end of a job, by its cause
module _ (job : Job End) (p : IsProgramJob job) (old new : Told) (end : End) where
  no_usage : (taken put : List ℕ) (cause : Cause) → IsCaused job old new taken put end cause → status_of end ≡ 2 → ⊥
  no_usage taken put input h s = not_inside _ _ (of_input_inside _ (p.of_input (taken ++ h.rest))) (ap status_of h.answered ∙ s) (inl refl)
  no_usage taken put read h s = let seven : 7 ≡ 2 = sym (ap status_of (h.0 ∙ p.run.read_failed)) ∙ s in omega (arith, seven)
  no_usage taken put write h s = let eight : 8 ≡ 2 = sym (ap status_of (h.0 ∙ p.run.write_failed)) ∙ s in omega (arith, eight)
  no_usage taken put memory h s = let nine : 9 ≡ 2 = sym (ap status_of (h.0 ∙ p.run.no_memory)) ∙ s in omega (arith, nine)

  read_rose : (taken put : List ℕ) (cause : Cause) → IsCaused job old new taken put end cause → status_of end ≡ 7 → Rose old.read_faults new.read_faults
  read_rose taken put input h s = absurd (not_inside _ _ (of_input_inside _ (p.of_input (taken ++ h.rest))) (ap status_of h.answered ∙ s) (inr (omega arith, omega arith)))
  read_rose taken put read h s = h.1
  read_rose taken put write h s = let eight : 8 ≡ 7 = sym (ap status_of (h.0 ∙ p.run.write_failed)) ∙ s in absurd (omega (arith, eight))
  read_rose taken put memory h s = let nine : 9 ≡ 7 = sym (ap status_of (h.0 ∙ p.run.no_memory)) ∙ s in absurd (omega (arith, nine))

  write_rose : (taken put : List ℕ) (cause : Cause) → IsCaused job old new taken put end cause → status_of end ≡ 8 → Rose old.write_faults new.write_faults
  write_rose taken put input h s = absurd (not_inside _ _ (of_input_inside _ (p.of_input (taken ++ h.rest))) (ap status_of h.answered ∙ s) (inr (omega arith, omega arith)))
  write_rose taken put read h s = let seven : 7 ≡ 8 = sym (ap status_of (h.0 ∙ p.run.read_failed)) ∙ s in absurd (omega (arith, seven))
  write_rose taken put write h s = h.1
  write_rose taken put memory h s = let nine : 9 ≡ 8 = sym (ap status_of (h.0 ∙ p.run.no_memory)) ∙ s in absurd (omega (arith, nine))

-- words with no form are ended at once
not_short : (put : List ℕ) → IsProperPrefix put [] → ⊥
not_short put h = omega (arith, ap length h.parts, length-append put h.rest, h.more)

usage_there : (old new : Told) (end : End) (taken put : List ℕ) (cause : Cause) → IsCaused (refusal false Usage) old new taken put end cause → end ≡ Usage
usage_there old new end taken put input h = sym h.answered
usage_there old new end taken put read h = absurd (cc (h.3))
usage_there old new end taken put write h = elim h.2 as (λ _. end ≡ Usage) [
  | inl part ↦ absurd (not_short put part)
  | inr part ↦ absurd (not_short put part.1)
]
usage_there old new end taken put memory h = absurd (cc (h.2))

-- ---- the clauses of a run
module _ {P : Type 0} (told : P → Told) (old new : P) (end : End) where
  -- a job that neither reads nor gives left the port alone
  pub run_untouched : (plan : Plan) (files_old files_new : CabinetTold) → PlanEnds told plan files_old files_new old new end → IsSilentPlan plan → new ≡ old
  run_untouched (owes job) files_old files_new e silent = e.2 silent
  run_untouched (fetches name next) files_old files_new (inl h) silent = h.1
  run_untouched (fetches name next) files_old files_new (inr (mid, bytes, fetched, e)) silent = run_untouched (next bytes) mid files_new e (silent bytes)

  plan_no_usage : (names : List (List ℕ)) (plan : Plan) → IsProgramPlan names plan → (files_old files_new : CabinetTold)
      → PlanEnds told plan files_old files_new old new end → status_of end ≡ 2 → ⊥
  plan_no_usage names (owes job) p files_old files_new e s = no_usage job p (told old) (told new) end e.1.taken e.1.put e.1.cause e.1.caused s
  plan_no_usage names (fetches name next) p files_old files_new (inl (inl h, same)) s = let seven : 7 ≡ 2 = sym (ap status_of h.0) ∙ s in omega (arith, seven)
  plan_no_usage names (fetches name next) p files_old files_new (inl (inr h, same)) s = let nine : 9 ≡ 2 = sym (ap status_of h.0) ∙ s in omega (arith, nine)
  plan_no_usage names (fetches name next) p files_old files_new (inr (mid, bytes, fetched, e)) s = plan_no_usage names (next bytes) (p.1 bytes) mid files_new e s

  -- a read failed, or a fetch: at a fault, or since the file isn't there
  abbrev IsReadOrLacking : List (List ℕ) → CabinetTold → CabinetTold → Type 0
  IsReadOrLacking names files_old files_new = ReadRose files_old files_new (told old) (told new) ⊎ LacksOne files_old.files names

  fetch_failed : (names : List (List ℕ)) (name : List ℕ) (files_old files_new : CabinetTold) → IsAmong name names → FetchFails files_old files_new name
      → IsReadOrLacking names files_old files_new
  fetch_failed names name files_old files_new a (fault rose) = inl (inr rose)
  fetch_failed names name files_old files_new a (lacks lack same) = inr (lacks_one files_old.files name names a lack)

  behind_fetch : (names : List (List ℕ)) (files_old mid files_new : CabinetTold) → mid.files ≡ files_old.files → mid.faults ≡ files_old.faults
      → IsReadOrLacking names mid files_new → IsReadOrLacking names files_old files_new
  behind_fetch names files_old mid files_new files faults (inl (inl rose)) = inl (inl rose)
  behind_fetch names files_old mid files_new files faults (inl (inr rose)) = inl (inr (subst (λ n. Rose n files_new.faults) faults rose))
  behind_fetch names files_old mid files_new files faults (inr lack) = inr (subst (λ o. LacksOne o names) files lack)

  plan_read_fault : (names : List (List ℕ)) (plan : Plan) → IsProgramPlan names plan → (files_old files_new : CabinetTold)
      → PlanEnds told plan files_old files_new old new end → status_of end ≡ 7 → IsReadOrLacking names files_old files_new
  plan_read_fault names (owes job) p files_old files_new e s = inl (inl (read_rose job p (told old) (told new) end e.1.taken e.1.put e.1.cause e.1.caused s))
  plan_read_fault names (fetches name next) p files_old files_new (inl (inl h, same)) s = fetch_failed names name files_old files_new p.0 h.1.cause
  plan_read_fault names (fetches name next) p files_old files_new (inl (inr h, same)) s = let nine : 9 ≡ 7 = sym (ap status_of h.0) ∙ s in absurd (omega (arith, nine))
  plan_read_fault names (fetches name next) p files_old files_new (inr (mid, bytes, fetched, e)) s =
      behind_fetch names files_old mid files_new fetched.files fetched.faults (plan_read_fault names (next bytes) (p.1 bytes) mid files_new e s)

  plan_write_fault : (names : List (List ℕ)) (plan : Plan) → IsProgramPlan names plan → (files_old files_new : CabinetTold)
      → PlanEnds told plan files_old files_new old new end → status_of end ≡ 8 → Rose (told old).write_faults (told new).write_faults
  plan_write_fault names (owes job) p files_old files_new e s = write_rose job p (told old) (told new) end e.1.taken e.1.put e.1.cause e.1.caused s
  plan_write_fault names (fetches name next) p files_old files_new (inl (inl h, same)) s = let seven : 7 ≡ 8 = sym (ap status_of h.0) ∙ s in absurd (omega (arith, seven))
  plan_write_fault names (fetches name next) p files_old files_new (inl (inr h, same)) s = let nine : 9 ≡ 8 = sym (ap status_of h.0) ∙ s in absurd (omega (arith, nine))
  plan_write_fault names (fetches name next) p files_old files_new (inr (mid, bytes, fetched, e)) s = plan_write_fault names (next bytes) (p.1 bytes) mid files_new e s

  -- however the run ended, a prefix of what is due was given
  nothing_given : new ≡ old → (due : Due End) → GivesPrefix (told old) (told new) due.text
  nothing_given same due =
      subst (λ p. GivesPrefix (told old) (told p) due.text) (sym same)
      (record { put = []; prefix = IsPrefix-nil due.text; given = (Moves-none (told old)).given })

  plan_prefix : (plan : Plan) → IsRunPlan plan → (files_old files_new : CabinetTold) → PlanEnds told plan files_old files_new old new end
      → (bytes : List ℕ) → (told old).left ≡ Some bytes → IfSome (due_of plan files_old.files bytes) (λ due. GivesPrefix (told old) (told new) due.text)
  plan_prefix (owes job) p files_old files_new e bytes there =
      of_told (told old).left (λ whole. GivesPrefix (told old) (told new) (job.whole whole).text) (Ends-prefix job (told old) (told new) end p.is_job e.1) bytes there
  plan_prefix (fetches name next) p files_old files_new (inl h) bytes there = told_any _ _ (nothing_given h.1)
  plan_prefix (fetches name next) p files_old files_new (inr (mid, piece, fetched, e)) bytes there =
      due_where_fetched name next bytes _ files_old.files piece fetched.start
      (subst (λ o. IfSome (due_of (next piece) o bytes) (λ due. GivesPrefix (told old) (told new) due.text)) fetched.files
      (plan_prefix (next piece) (p piece) mid files_new e bytes there))

  module _ (status : ℕ) (is : status_of end ≡ status) where
    abbrev IsDecidedBy : CabinetTold → CabinetTold → Due End → Type 0
    IsDecidedBy files_old files_new due = IsDueStatus due (told old) (told new) status ⊎ IsOutsideStatus files_old files_new (told old) (told new) status

    job_decided : (job : Job End) → IsRunJob job → (files_old files_new : CabinetTold) → (bytes : List ℕ)
        → IsDue (job.whole bytes) (told old) (told new) end ⊎ IsOutside job (told old) (told new) end → IsDecidedBy files_old files_new (job.whole bytes)
    job_decided job p files_old files_new bytes (inl due) = inl (record { status_is = ap status_of due.answered ∙ is; given = due.given })
    job_decided job p files_old files_new bytes (inr (inl h)) = inr (inl (sym is ∙ ap status_of (h.0 ∙ p.read_failed), inl h.1))
    job_decided job p files_old files_new bytes (inr (inr (inl h))) = inr (inr (inl (sym is ∙ ap status_of (h.0 ∙ p.write_failed), h.1)))
    job_decided job p files_old files_new bytes (inr (inr (inr h))) = inr (inr (inr (sym is ∙ ap status_of (h ∙ p.no_memory))))

    lacking_is_due : end ≡ ReadFault → new ≡ old → IsDueStatus (only ReadFault) (told old) (told new) status
    lacking_is_due failed same =
        subst (λ p. IsDueStatus (only ReadFault) (told old) (told p) status) (sym same)
        (record { status_is = sym (ap status_of failed) ∙ is; given = (Moves-none (told old)).given })

    decided_behind : (files_old mid files_new : CabinetTold) → mid.faults ≡ files_old.faults → (due : Due End) → IsDecidedBy mid files_new due → IsDecidedBy files_old files_new due
    decided_behind files_old mid files_new same due (inl h) = inl h
    decided_behind files_old mid files_new same due (inr (inl (seven, inl rose))) = inr (inl (seven, inl rose))
    decided_behind files_old mid files_new same due (inr (inl (seven, inr rose))) = inr (inl (seven, inr (subst (λ n. Rose n files_new.faults) same rose)))
    decided_behind files_old mid files_new same due (inr (inr h)) = inr (inr h)

    plan_decided : (plan : Plan) → IsRunPlan plan → (files_old files_new : CabinetTold) → PlanEnds told plan files_old files_new old new end
        → (bytes : List ℕ) → (told old).left ≡ Some bytes → IfSome (due_of plan files_old.files bytes) (IsDecidedBy files_old files_new)
    plan_decided (owes job) p files_old files_new e bytes there =
        job_decided job p files_old files_new bytes
        (of_told (told old).left (λ whole. IsDue (job.whole whole) (told old) (told new) end ⊎ IsOutside job (told old) (told new) end) (Ends-due job (told old) (told new) end e.1) bytes there)
    plan_decided (fetches name next) p files_old files_new (inl (inl h, same)) bytes there =
        due_where_failed name next bytes (IsDecidedBy files_old files_new) files_old files_new h.1.cause
        (λ rose due. inr (inl (sym is ∙ ap status_of h.0, inr rose))) (inl (lacking_is_due h.0 same))
    plan_decided (fetches name next) p files_old files_new (inl (inr h, same)) bytes there =
        told_any _ _ (λ due. inr (inr (inr (sym is ∙ ap status_of h.0))))
    plan_decided (fetches name next) p files_old files_new (inr (mid, piece, fetched, e)) bytes there =
        due_where_fetched name next bytes (IsDecidedBy files_old files_new) files_old.files piece fetched.start
        (told_map _ _ _ (decided_behind files_old mid files_new fetched.faults)
        (subst (λ o. IfSome (due_of (next piece) o bytes) (IsDecidedBy mid files_new)) fetched.files
        (plan_decided (next piece) (p piece) mid files_new e bytes there)))

    pub run_decided : (command : Option Command) (files_old files_new : CabinetTold) → PlanEnds told (command_plan command) files_old files_new old new end
        → IfSome (told old).left (λ bytes. IfSome (due_of (command_plan command) files_old.files bytes) (λ due.
        IsDueStatus due (told old) (told new) status ⊎ IsOutsideStatus files_old files_new (told old) (told new) status))
    run_decided command files_old files_new e = some_told _ _ (λ bytes there. plan_decided (command_plan command) (is_plan command) files_old files_new e bytes there)

    pub run_usage : (command : Option Command) (files_old files_new : CabinetTold) → PlanEnds told (command_plan command) files_old files_new old new end
        → (status ≡ 2) ↔ (command ≡ None)
    run_usage None files_old files_new e = (λ _. refl, λ _. sym is ∙ ap status_of (usage_there (told old) (told new) end e.1.taken e.1.put e.1.cause e.1.caused))
    run_usage (Some command) files_old files_new e = (
      λ two. absurd (plan_no_usage _ _ (program_plan command) files_old files_new e (is ∙ two)),
      λ none. absurd (cc),
    )

    pub run_read_fault : (command : Option Command) (files_old files_new : CabinetTold) → PlanEnds told (command_plan command) files_old files_new old new end
        → status ≡ 7 → ReadRose files_old files_new (told old) (told new) ⊎ LacksOne files_old.files (files_of command)
    run_read_fault None files_old files_new e seven =
        let two : 2 ≡ 7 = sym (ap status_of (usage_there (told old) (told new) end e.1.taken e.1.put e.1.cause e.1.caused)) ∙ is ∙ seven in absurd (omega (arith, two))
    run_read_fault (Some command) files_old files_new e seven = plan_read_fault _ _ (program_plan command) files_old files_new e (is ∙ seven)

    pub run_write_fault : (command : Option Command) (files_old files_new : CabinetTold) → PlanEnds told (command_plan command) files_old files_new old new end
        → status ≡ 8 → Rose (told old).write_faults (told new).write_faults
    run_write_fault None files_old files_new e eight =
        let two : 2 ≡ 8 = sym (ap status_of (usage_there (told old) (told new) end e.1.taken e.1.put e.1.cause e.1.caused)) ∙ is ∙ eight in absurd (omega (arith, two))
    run_write_fault (Some command) files_old files_new e eight = plan_write_fault _ _ (program_plan command) files_old files_new e (is ∙ eight)

  pub run_prefix : (command : Option Command) (files_old files_new : CabinetTold) → PlanEnds told (command_plan command) files_old files_new old new end
      → IfSome (told old).left (λ bytes. IfSome (due_of (command_plan command) files_old.files bytes) (λ due. GivesPrefix (told old) (told new) due.text))
  run_prefix command files_old files_new e = some_told _ _ (λ bytes there. plan_prefix (command_plan command) (is_plan command) files_old files_new e bytes there)

-- a count that stands below its last value didn't rise
still : (a b : ℕ) → b ≡ a → a < 2 ^ 64 - 1 → Rose a b → ⊥
still a b same room rose = omega (arith, rose.more, rose.later)

quiet_status : (due : Due End) (files_old files_new : CabinetTold) (old new : Told) (status : ℕ) → IsQuiet files_old files_new old new
    → IsDueStatus due old new status ⊎ IsOutsideStatus files_old files_new old new status → IsDueStatus due old new status ⊎ (status ≡ 9)
quiet_status due files_old files_new old new status q (inl d) = inl d
quiet_status due files_old files_new old new status q (inr (inl (seven, inl rose))) = absurd (still _ _ q.reads q.room_reads rose)
quiet_status due files_old files_new old new status q (inr (inl (seven, inr rose))) = absurd (still _ _ q.fetches q.room_fetches rose)
quiet_status due files_old files_new old new status q (inr (inr (inl h))) = absurd (still _ _ q.writes q.room_writes h.1)
quiet_status due files_old files_new old new status q (inr (inr (inr h))) = inr h

pub run_quiet : (plan : Plan) (files_old files_new : CabinetTold) (old new : Told) (status : ℕ)
    → IfSome old.left (λ bytes. IfSome (due_of plan files_old.files bytes) (λ due. IsDueStatus due old new status ⊎ IsOutsideStatus files_old files_new old new status))
    → IsQuiet files_old files_new old new → IfSome old.left (λ bytes. IfSome (due_of plan files_old.files bytes) (λ due. IsDueStatus due old new status ⊎ (status ≡ 9)))
run_quiet plan files_old files_new old new status h q =
    told_map old.left _ _ (λ bytes there. told_map (due_of plan files_old.files bytes) _ _ (λ due d. quiet_status due files_old files_new old new status q d) there) h
