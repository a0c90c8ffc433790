-- Journals one after the other.
use Rattle.std.proofs.Common.{◌≡◌, ℕ, ◌+◌, List, [], ◌∷◌, ◌++◌, Option, None, Some, refl, sym, ap, ◌∙◌, arith, append_assoc, append-nil}
use Rattle.sc_outside.specs.declared.journal.Move.{Move}
use Rattle.sc_outside.specs.declared.journal.Move.TheVariants.{Read, Written}
use Rattle.sc_outside.specs.Journal.{bytes_read, bytes_written, LogsOne, Logs}

pub bytes_read-append : (xs ys : List Move) → bytes_read (xs ++ ys) ≡ bytes_read xs + bytes_read ys
bytes_read-append [] ys = omega arith
bytes_read-append (Read n ∷ xs) ys = omega (arith, bytes_read-append xs ys)
bytes_read-append (Written n ∷ xs) ys = bytes_read-append xs ys

pub bytes_written-append : (xs ys : List Move) → bytes_written (xs ++ ys) ≡ bytes_written xs + bytes_written ys
bytes_written-append [] ys = omega arith
bytes_written-append (Read n ∷ xs) ys = bytes_written-append xs ys
bytes_written-append (Written n ∷ xs) ys = omega (arith, bytes_written-append xs ys)

pub Logs-none : (old new : Option (List Move)) → new ≡ old → Logs old new 0 0
Logs-none None new e = tt
Logs-none (Some old) None e = absurd (cc)
Logs-none (Some old) (Some new) e = let same : new ≡ old = cc in ([], same ∙ sym (append-nil old), refl, refl)

pub Logs-read : (old new : Option (List Move)) (n : ℕ) → LogsOne old new (Read n) → Logs old new n 0
Logs-read None new n h = tt
Logs-read (Some old) None n h = absurd h
Logs-read (Some old) (Some new) n h = (Read n ∷ [], h, omega arith, refl)

pub Logs-written : (old new : Option (List Move)) (n : ℕ) → LogsOne old new (Written n) → Logs old new 0 n
Logs-written None new n h = tt
Logs-written (Some old) None n h = absurd h
Logs-written (Some old) (Some new) n h = (Written n ∷ [], h, refl, omega arith)

pub Logs-trans : (a b c : Option (List Move)) (r w s v : ℕ) → Logs a b r w → Logs b c s v → Logs a c (r + s) (w + v)
Logs-trans None b c r w s v p q = tt
Logs-trans (Some a) None c r w s v p q = absurd p
Logs-trans (Some a) (Some b) None r w s v p q = absurd q
Logs-trans (Some a) (Some b) (Some c) r w s v p q = (
  p.0 ++ q.0,
  q.1 ∙ ap (λ l. l ++ q.0) p.1 ∙ append_assoc a p.0 q.0,
  bytes_read-append p.0 q.0 ∙ ap (λ n. n + bytes_read q.0) p.2 ∙ ap (λ n. r + n) q.2,
  bytes_written-append p.0 q.0 ∙ ap (λ n. n + bytes_written q.0) p.3 ∙ ap (λ n. w + n) q.3,
)
