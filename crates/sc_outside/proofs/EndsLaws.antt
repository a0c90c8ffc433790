-- What follows from how a call ended, and how the end of a call is told as that of the call around it.
use Rattle.std.proofs.Common.{◌≡◌, ◌⊎◌, inl, inr, ℕ, Bool, true, List, [], ◌++◌, Option, None, Some, IfSome, refl, sym, ap, ◌∙◌, subst, append-nil, append_assoc}
use Rattle.std.specs.Io.KnownBytes.{IsAtEnd, Consumes, Appends}
use Rattle.sc_outside.specs.Port.{Told, Moves}
use Rattle.sc_outside.specs.Ends.{Due, Job, IsPrefix, IsProperPrefix, IsJob, IsLeft, IsDecided, IsShort, Cause, input, read, write, memory, IsCaused, Ends, told_as, only, at_once, IsDue, IsOutside, GivesPrefix}
use Rattle.sc_outside.proofs.MovesLaws.{Moves-none}

-- ---- prefixes
pub IsPrefix-refl : (text : List ℕ) → IsPrefix text text
IsPrefix-refl text = record { rest = []; parts = sym (append-nil text) }

pub IsPrefix-nil : (text : List ℕ) → IsPrefix [] text
IsPrefix-nil text = record { rest = text; parts = refl }

pub IsPrefix-trans : (a b c : List ℕ) → IsPrefix a b → IsPrefix b c → IsPrefix a c
IsPrefix-trans a b c x y = record { rest = x.rest ++ y.rest; parts = y.parts ∙ ap (λ l. l ++ y.rest) x.parts ∙ append_assoc a x.rest y.rest }

pub IsProperPrefix-is : (a b : List ℕ) → IsProperPrefix a b → IsPrefix a b
IsProperPrefix-is a b x = record { rest = x.rest; parts = x.parts }

-- ---- what is told of an input that was taken in part
-- what holds of what was taken with what is left, wherever that is told, holds of what was there
behind : (old new : Option (List ℕ)) (taken : List ℕ) (P : List ℕ → Type 0) → Consumes old new taken
    → ((rest : List ℕ) → new ≡ Some rest → P (taken ++ rest)) → IfSome old P
behind None new taken P c f = tt
behind (Some xs) None taken P c f = absurd c
behind (Some xs) (Some ys) taken P c f = subst P (sym c) (f ys refl)

at_end_there : (new : Option (List ℕ)) (rest : List ℕ) → IsLeft new rest → rest ≡ [] → IsAtEnd new
at_end_there None rest l e = tt
at_end_there (Some xs) rest l e = l ∙ e

module _ {A : Type 0} (job : Job A) (old new : Told) (answer : A) where
  decided_due : (taken put : List ℕ) → Moves old new taken put → (d : IsDecided job new taken put answer) → (rest : List ℕ) → new.left ≡ Some rest
      → IsDue (job.whole (taken ++ rest)) old new answer
  decided_due taken put m d rest there =
      let same : rest ≡ d.rest = subst (λ o. IsLeft o d.rest) there d.left in
      subst (λ r. IsDue (job.whole (taken ++ r)) old new answer) (sym same) (
      record {
        answered = d.answered;
        given = subst (Appends old.given new.given) (sym d.given) m.given;
        ended = λ yes. at_end_there new.left d.rest d.left (d.ended yes);
      }
      )

  due_or_outside : (taken put : List ℕ) (cause : Cause) → Moves old new taken put → IsCaused job old new taken put answer cause
      → IfSome old.left (λ whole. IsDue (job.whole whole) old new answer ⊎ IsOutside job old new answer)
  due_or_outside taken put input m h = behind old.left new.left taken _ m.left (λ rest there. inl (decided_due taken put m h rest there))
  due_or_outside taken put read m h = behind old.left new.left taken _ m.left (λ rest there. inr (inl (h.0, h.1)))
  due_or_outside taken put write m h = behind old.left new.left taken _ m.left (λ rest there. inr (inr (inl (h.0, h.1))))
  due_or_outside taken put memory m h = behind old.left new.left taken _ m.left (λ rest there. inr (inr (inr h.0)))

  -- the answer and what was given are those due, or the outside ended the call
  pub Ends-due : Ends job old new answer → IfSome old.left (λ whole. IsDue (job.whole whole) old new answer ⊎ IsOutside job old new answer)
  Ends-due e = due_or_outside e.taken e.put e.cause e.moves e.caused

  short_prefix : (taken put rest : List ℕ) → IsJob job → (IsAtEnd (Some rest) → rest ≡ []) → IsShort job (record new { left = Some rest }) taken put
      → IsPrefix put (job.whole (taken ++ rest)).text
  short_prefix taken put rest j ended (inl part) =
      IsPrefix-trans put (job.so_far taken) _ (IsProperPrefix-is _ _ part) (j.grows taken rest)
  short_prefix taken put rest j ended (inr part) =
      subst (λ r. IsPrefix put (job.whole r).text) (sym (ap (λ r. taken ++ r) (ended part.0) ∙ append-nil taken)) (IsProperPrefix-is _ _ part.1)

  put_prefix : (taken put : List ℕ) (cause : Cause) → IsJob job → Moves old new taken put → IsCaused job old new taken put answer cause
      → (rest : List ℕ) → new.left ≡ Some rest → IsPrefix put (job.whole (taken ++ rest)).text
  put_prefix taken put input j m h rest there =
      let same : rest ≡ h.rest = subst (λ o. IsLeft o h.rest) there h.left in
      subst (λ r. IsPrefix put (job.whole (taken ++ r)).text) (sym same) (subst (IsPrefix put) (sym h.given) (IsPrefix-refl put))
  put_prefix taken put read j m h rest there = subst (λ p. IsPrefix p (job.whole (taken ++ rest)).text) (sym h.2) (j.grows taken rest)
  put_prefix taken put write j m h rest there =
      let at_left : IsShort job (record new { left = Some rest }) taken put
      = subst (λ o. IsShort job (record new { left = o }) taken put) there h.2 in
      short_prefix taken put rest j (λ e. e) at_left
  put_prefix taken put memory j m h rest there = IsPrefix-trans put (job.before_memory taken) _ h.1 (j.spares taken rest)

  -- however it ended, a prefix of what is due was given
  pub Ends-prefix : IsJob job → Ends job old new answer → IfSome old.left (λ whole. GivesPrefix old new (job.whole whole).text)
  Ends-prefix j e = behind old.left new.left e.taken _ e.moves.left (λ rest there. record {
    put = e.put;
    prefix = put_prefix e.taken e.put e.cause j e.moves e.caused rest there;
    given = e.moves.given;
  })

-- ---- the end of a call as that of the call around it
module _ {A B : Type 0} (f : A → B) (job : Job A) (old new : Told) (answer : A) where
  decided_as : (taken put : List ℕ) → IsDecided job new taken put answer → IsDecided (told_as f job) new taken put (f answer)
  decided_as taken put d = record { rest = d.rest; left = d.left; answered = ap f d.answered; given = d.given; ended = d.ended }

  caused_as : (taken put : List ℕ) (cause : Cause) → IsCaused job old new taken put answer cause → IsCaused (told_as f job) old new taken put (f answer) cause
  caused_as taken put input h = decided_as taken put h
  caused_as taken put read h = (ap f h.0, h.1, h.2, h.3)
  caused_as taken put write h = (ap f h.0, h.1, h.2)
  caused_as taken put memory h = (ap f h.0, h.1, h.2)

  pub Ends-told_as : Ends job old new answer → Ends (told_as f job) old new (f answer)
  Ends-told_as e = record {
    cause = e.cause;
    taken = e.taken;
    put = e.put;
    moves = e.moves;
    unread = e.unread;
    caused = caused_as e.taken e.put e.cause e.caused;
  }

pub IsJob-told_as : {A B : Type 0} (f : A → B) (job : Job A) → IsJob job → IsJob (told_as f job)
IsJob-told_as f job j = record { grows = j.grows; spares = j.spares }

-- some input is left, whether it is told or not
pub some_left : (left : Option (List ℕ)) → (rest : List ℕ) × IsLeft left rest
some_left None = ([], tt)
some_left (Some xs) = (xs, refl)

-- a call that left its port alone, answered at once and gave nothing
pub Ends-at_once : {A : Type 0} (answer r w m : A) (allocates : Bool) (told : Told) → Ends (at_once (only answer) allocates [] r w m) told told answer
Ends-at_once answer r w m allocates told =
    let there = some_left told.left in
    record {
      cause = input;
      taken = [];
      put = [];
      moves = Moves-none told;
      unread = λ _. refl;
      caused = record { rest = there.0; left = there.1; answered = refl; given = refl; ended = λ no. absurd (cc) };
    }

pub IsJob-at_once : {A : Type 0} (due : Due A) (allocates : Bool) (spared : List ℕ) (r w m : A) → IsPrefix spared due.text → IsJob (at_once due allocates spared r w m)
IsJob-at_once due allocates spared r w m h = record { grows = λ taken rest. IsPrefix-refl due.text; spares = λ taken rest. h }

-- want of memory before the port was touched
pub Ends-no_memory : {A : Type 0} (job : Job A) (told : Told) → job.allocates ≡ true → Ends job told told job.no_memory
Ends-no_memory job told takes = record {
  cause = memory;
  taken = [];
  put = [];
  moves = Moves-none told;
  unread = λ _. refl;
  caused = (refl, IsPrefix-nil (job.before_memory []), takes);
}
