-- What the calls of a port in memory do is what the trait asks.
use Rattle.std.proofs.Common.{◌≡◌, ℕ, ◌<◌, Some, List, [], ◌∷◌, ◌++◌, length, take, drop, IfOk, Result, Ok, Err, refl, sym, ap, ◌∙◌, arith}
use Rattle.std.proofs.lemmas.List.{take-append-drop}
use Rattle.sc_outside.specs.declared.error.Failed.{Failed}
use Rattle.sc_outside.specs.Port.{ReadGives, WriteGives}
use Rattle.sc_outside.specs.MemoryPort.{MemoryState, IsMemory, told_by, ReadsAs, WritesAs, is_refused}
use Rattle.sc_outside.proofs.FaultsLaws.{Rose-counted}
use Rattle.sc_outside.proofs.RoomSteps.{room_left}

nil_of_length : (xs : List ℕ) → length xs ≡ 0 → xs ≡ []
nil_of_length [] e = refl
nil_of_length (x ∷ xs) e = absurd (omega arith)

pub ReadGives-memory : (old new : MemoryState) (buf : List ℕ) (r : Result ℕ Failed) → 0 < length buf → IsMemory old
    → ReadsAs old new (length buf) r → IfOk r (λ n. take n buf ≡ take n old.left) → ReadGives (told_by old) (told_by new) buf r
ReadGives-memory old new buf (Ok n) room known h prefix =
    let left : new.left ≡ drop n old.left = ap (λ s. s.left) h.2 in
    record {
      bound = omega (arith, h.1);
      left = sym (take-append-drop n old.left) ∙ ap (λ l. l ++ drop n old.left) (sym prefix) ∙ ap (λ l. take n buf ++ l) (sym left);
      end = λ none. left ∙ ap (λ m. drop m old.left) none ∙ nil_of_length old.left (omega (arith, h.1, none, known.some));
      given = ap (λ s. Some s.given) h.2;
      journal = ap (λ s. s.journal) h.2;
      read_faults = ap (λ s. s.read_faults) h.2;
      write_faults = ap (λ s. s.write_faults) h.2;
    }
ReadGives-memory old new buf (Err e) room known h prefix = record {
  left = ap (λ s. s.left) h.1;
  given = ap (λ s. Some s.given) h.1;
  journal = ap (λ s. Some s.journal) h.1;
  rose = Rose-counted _ _ known.read_faults (ap (λ s. s.read_faults) h.1);
  write_faults = ap (λ s. s.write_faults) h.1;
}

pub WriteGives-memory : (old new : MemoryState) (piece : List ℕ) (r : Result ℕ Failed) → 0 < length piece → IsMemory old
    → WritesAs old new piece r → WriteGives (told_by old) (told_by new) piece r
WriteGives-memory old new piece (Ok n) some known h =
    let free : length old.given < old.room = room_left (is_refused old) old.room (length old.given) h.0 in
    record {
      some = omega (arith, h.1, free, known.some);
      bound = omega (arith, h.1);
      given = ap (λ s. s.given) h.2;
      left = ap (λ s. Some s.left) h.2;
      journal = ap (λ s. s.journal) h.2;
      write_faults = ap (λ s. s.write_faults) h.2;
      read_faults = ap (λ s. s.read_faults) h.2;
    }
WriteGives-memory old new piece (Err e) some known h = record {
  given = ap (λ s. s.given) h.1;
  left = ap (λ s. Some s.left) h.1;
  journal = ap (λ s. Some s.journal) h.1;
  rose = Rose-counted _ _ known.write_faults (ap (λ s. s.write_faults) h.1);
  read_faults = ap (λ s. s.read_faults) h.1;
}

pub ruleset memory_reads = (ReadGives-memory)

pub ruleset memory_writes = (WriteGives-memory)
