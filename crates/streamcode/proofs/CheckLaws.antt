-- `check`, in the words of codes.
use Rattle.std.proofs.Common.{◌≡◌, ℕ, ◌<◌, ◌≤◌, true, false, Option, None, Some, List, nat_lt, refl, sym, ap, ◌∙◌, arith}
use Rattle.std.proofs.lemmas.Bool.Decides.{nat_tests}
use Rattle.sc_outside.specs.Ends.{Due}
use Rattle.sc_channel.specs.Classes.{class_count}
use Rattle.sc_code.specs.declared.code.CodeFile.{CodeFile}
use Rattle.sc_check.specs.Answer.{Refuted, refuted_of}
use Rattle.sc_check.proofs.AnswerLaws.{answer-none, answer-some}
use Rattle.streamcode.specs.declared.end.End.{End}
use Rattle.streamcode.specs.End.{status_of}
use Rattle.streamcode.specs.Jobs.{check_by}
use Rattle.streamcode.specs.Verdict.{verdict_end, verdict_text}
use Rattle.streamcode.specs.CheckLaws.{due_of_check, MayCheck, FileMeets, PrintsRefutation, ZeroIsMeeting, MeetingIsPrinted, OneIsRefuted, RefutationIsPrinted, ManyAreRefused}

-- what is due by a verdict
abbrev due_by : CodeFile → Option Refuted → Due End
due_by file refuted = record { answer = verdict_end refuted; text = verdict_text file refuted; at_end = false }

few_is : (n : ℕ) → n ≤ 1000000 → nat_lt 1000000 n ≡ false
few_is n h = grind (arith, nat_tests, h)

many_is : (n : ℕ) → 1000000 < n → nat_lt 1000000 n ≡ true
many_is n h = grind (arith, nat_tests, h)

due_few : (file : CodeFile) (input : List ℕ) → MayCheck file → due_of_check file input ≡ due_by file (refuted_of file.code file.channel)
due_few file input may = ap (λ b. (check_by b file).whole input) (few_is (class_count file.channel) may.few)

due_as : (file : CodeFile) (input : List ℕ) (refuted : Option Refuted) → MayCheck file → refuted_of file.code file.channel ≡ refuted → due_of_check file input ≡ due_by file refuted
due_as file input refuted may is = due_few file input may ∙ ap (due_by file) is

-- what a status says of a verdict
zero_of : (file : CodeFile) (refuted : Option Refuted) → status_of (verdict_end refuted) ≡ 0 → refuted ≡ None
zero_of file None s = refl
zero_of file (Some refuted) s = absurd (omega (arith, s))

one_of : (refuted : Option Refuted) → status_of (verdict_end refuted) ≡ 1 → refuted ≡ None → ⊥
one_of None s e = absurd (omega (arith, s))
one_of (Some refuted) s e = cc e

status_there : (file : CodeFile) (input : List ℕ) (n : ℕ) → MayCheck file → status_of (due_of_check file input).answer ≡ n → status_of (verdict_end (refuted_of file.code file.channel)) ≡ n
status_there file input n may s = ap (λ (d : Due End). status_of d.answer) (sym (due_few file input may)) ∙ s

pub zero-meeting : ZeroIsMeeting
zero-meeting file input may =
    let none = answer-none file.code file.channel may.code may.channel in (
      λ s. none.0 (zero_of file (refuted_of file.code file.channel) (status_there file input 0 may s)),
      λ m. ap (λ (d : Due End). status_of d.answer) (due_as file input None may (none.1 m)),
    )

pub meeting-printed : MeetingIsPrinted
meeting-printed file input may m = due_as file input None may ((answer-none file.code file.channel may.code may.channel).1 m)

printed_by : (file : CodeFile) (input : List ℕ) → MayCheck file → (FileMeets file → ⊥) → (o : Option Refuted) → refuted_of file.code file.channel ≡ o → PrintsRefutation file (due_of_check file input)
printed_by file input may fails None is = absurd (fails ((answer-none file.code file.channel may.code may.channel).0 is))
printed_by file input may fails (Some refuted) is = record {
  refuted = refuted;
  is_least = answer-some file.code file.channel refuted may.code may.channel is;
  printed = due_as file input (Some refuted) may is;
}

pub refutation-printed : RefutationIsPrinted
refutation-printed file input may fails = printed_by file input may fails (refuted_of file.code file.channel) refl

pub one-refuted : OneIsRefuted
one-refuted file input may = (
  λ s m. one_of (refuted_of file.code file.channel) (status_there file input 1 may s) ((answer-none file.code file.channel may.code may.channel).1 m),
  λ fails. ap (λ (d : Due End). status_of d.answer) (refutation-printed file input may fails).printed,
)

pub many-refused : ManyAreRefused
many-refused file input many = ap (λ b. (check_by b file).whole input) (many_is (class_count file.channel) many)
