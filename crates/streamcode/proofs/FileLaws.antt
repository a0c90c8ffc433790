-- What a run owes by the bytes of a file, and how it ends by them.
use Rattle.std.proofs.Common.{◌≡◌, inl, inr, ℕ, ◌<◌, ◌≤◌, true, false, List, length, nat_lt, Option, Some, Result, Ok, Err, refl, sym, ap, ◌∙◌, subst, arith}
use Rattle.std.proofs.lemmas.Bool.Decides.{nat_tests}
use Rattle.std.proofs.lemmas.List.{take_all}
use Rattle.sc_outside.specs.Cabinet.{CabinetTold, file_named}
use Rattle.sc_outside.specs.Port.{Told}
use Rattle.sc_outside.proofs.EndsLaws.{Ends-at_once}
use Rattle.sc_codefile.specs.declared.fault.FileFault.{FileFault}
use Rattle.streamcode.specs.declared.end.Role.{Role}
use Rattle.streamcode.specs.declared.end.End.{End}
use Rattle.streamcode.specs.declared.end.End.TheVariants.{FileTooLong, ReadFault, WriteFault, NoMemory}
use Rattle.streamcode.specs.Files.{by_reading, by_bytes, file_plan, IsRefusedBy, Came}
use Rattle.streamcode.specs.Jobs.{refusal}
use Rattle.streamcode.specs.Plans.{Plan, owes, most_fetched, due_by, due_of, PlanEnds}

module _ {A : Type 0} (role : Role) (reading : List ℕ → Result A FileFault) where
  -- which plan is left by the bytes
  left_short : (next : A → Plan) (bytes : List ℕ) → length bytes < most_fetched → by_bytes role reading next bytes ≡ by_reading role reading next (reading bytes)
  left_short next bytes short = let test : nat_lt (length bytes) most_fetched ≡ true = grind (arith, nat_tests, short) in rw (test) refl

  left_long : (next : A → Plan) (bytes : List ℕ) → most_fetched ≤ length bytes → by_bytes role reading next bytes ≡ owes (refusal true (FileTooLong role))
  left_long next bytes long = let test : nat_lt (length bytes) most_fetched ≡ false = grind (arith, nat_tests, long) in rw (test) refl

  -- what is due where the file is there, shorter than the limit, and of its form
  pub due-file : (next : A → Plan) (files : List (List ℕ × List ℕ)) (name bytes : List ℕ) (file : A) (input : List ℕ) → file_named name files ≡ Some bytes → length bytes < most_fetched
      → reading bytes ≡ Ok file → due_of (file_plan role reading name next) (Some files) input ≡ due_of (next file) (Some files) input
  due-file next files name bytes file input there short read =
      ap (λ (o : Option (List ℕ)). due_by o (λ piece. due_of (by_bytes role reading next piece) (Some files) input)) there
      ∙ ap (λ piece. due_of (by_bytes role reading next piece) (Some files) input) (take_all most_fetched bytes (omega (arith, short)))
      ∙ ap (λ plan. due_of plan (Some files) input) (left_short next bytes short ∙ ap (by_reading role reading next) read)

  module _ {P : Type 0} (told : P → Told) where
    -- a refusal that left all alone
    refused : (files : CabinetTold) (port : P) (end : End) → PlanEnds told (owes (refusal true end)) files files port port end
    refused files port end = (refl, Ends-at_once end ReadFault WriteFault NoMemory true (told port), λ _. refl)

    refused_by : (next : A → Plan) (files : CabinetTold) (port : P) (bytes : List ℕ) (end : End) → IsRefusedBy role reading bytes end → PlanEnds told (by_bytes role reading next bytes) files files port port end
    refused_by next files port bytes end (inl (is, long)) =
        subst (λ plan. PlanEnds told plan files files port port end) (sym (left_long next bytes long))
        (subst (λ e. PlanEnds told (owes (refusal true e)) files files port port end) is (refused files port end))
    refused_by next files port bytes end (inr (fault, is, short, read)) =
        subst (λ plan. PlanEnds told plan files files port port end) (sym (left_short next bytes short ∙ ap (by_reading role reading next) read))
        (subst (λ e. PlanEnds told (owes (refusal true e)) files files port port end) is (refused files port end))

    -- the run ends without the file
    pub came-not : (next : A → Plan) (old new : CabinetTold) (name : List ℕ) (port : P) (end : End) → Came role reading old new name (Err end)
        → PlanEnds told (file_plan role reading name next) old new port port end
    came-not next old new name port end (inl failed) = inl (failed, refl)
    came-not next old new name port end (inr (bytes, fetched, is)) = inr (new, bytes, fetched, refused_by next new port bytes end is)

    -- or goes on by what it holds
    pub came-file : (next : A → Plan) (old mid new : CabinetTold) (name : List ℕ) (before after : P) (file : A) (end : End) → Came role reading old mid name (Ok file)
        → PlanEnds told (next file) mid new before after end → PlanEnds told (file_plan role reading name next) old new before after end
    came-file next old mid new name before after file end (bytes, fetched, short, read) h =
        inr (mid, bytes, fetched, subst (λ plan. PlanEnds told plan mid new before after end) (sym (left_short next bytes short ∙ ap (by_reading role reading next) read)) h)
