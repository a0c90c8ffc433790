-- What the calls of a growing port do is what the trait asks.
use Rattle.std.proofs.Common.{◌≡◌, ℕ, ◌-◌, ◌^◌, ◌<◌, ◌≤◌, Some, List, [], ◌∷◌, ◌++◌, length, take, drop, IfOk, Result, Ok, Err, refl, sym, ap, ◌∙◌, arith}
use Rattle.std.proofs.lemmas.List.{take-append-drop, take_all}
use Rattle.sc_outside.specs.declared.error.Failed.{Failed}
use Rattle.sc_outside.specs.Port.{ReadGives, WriteGives}
use Rattle.sc_outside.specs.GrowPort.{GrowState, told_by_grow, GrowReads, GrowWrites}
use Rattle.sc_outside.proofs.FaultsLaws.{Rose-counted}

nil_of_length : (xs : List ℕ) → length xs ≡ 0 → xs ≡ []
nil_of_length [] e = refl
nil_of_length (x ∷ xs) e = absurd (omega arith)

pub ReadGives-grow : (old new : GrowState) (buf : List ℕ) (r : Result ℕ Failed) → 0 < length buf
    → GrowReads old new (length buf) r → IfOk r (λ n. take n buf ≡ take n old.left) → ReadGives (told_by_grow old) (told_by_grow new) buf r
ReadGives-grow old new buf (Ok n) room h prefix =
    let left : new.left ≡ drop n old.left = ap (λ s. s.left) h.1 in
    record {
      bound = omega (arith, h.0);
      left = sym (take-append-drop n old.left) ∙ ap (λ l. l ++ drop n old.left) (sym prefix) ∙ ap (λ l. take n buf ++ l) (sym left);
      end = λ none. left ∙ ap (λ m. drop m old.left) none ∙ nil_of_length old.left (omega (arith, h.0, none));
      given = ap (λ s. Some s.given) h.1;
      journal = tt;
      read_faults = refl;
      write_faults = ap (λ s. s.write_faults) h.1;
    }
ReadGives-grow old new buf (Err e) room h prefix = absurd h

pub WriteGives-grow : (old new : GrowState) (piece : List ℕ) (r : Result ℕ Failed) → 0 < length piece → old.write_faults ≤ 2 ^ 64 - 1
    → GrowWrites old new piece r → WriteGives (told_by_grow old) (told_by_grow new) piece r
WriteGives-grow old new piece (Ok n) some known h = record {
  some = omega (arith, h.0);
  bound = omega (arith, h.0);
  given = ap (λ s. s.given) h.1 ∙ ap (λ l. old.given ++ l) (sym (take_all n piece (omega (arith, h.0))));
  left = ap (λ s. Some s.left) h.1;
  journal = tt;
  write_faults = ap (λ s. s.write_faults) h.1;
  read_faults = refl;
}
WriteGives-grow old new piece (Err e) some known h = record {
  given = ap (λ s. s.given) h;
  left = ap (λ s. Some s.left) h;
  journal = refl;
  rose = Rose-counted _ _ known (ap (λ s. s.write_faults) h);
  read_faults = refl;
}

pub ruleset grow_reads = (ReadGives-grow)

pub ruleset grow_writes = (WriteGives-grow)
