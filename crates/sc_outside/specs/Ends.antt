-- How a call ends that reads an input and gives an output: who decided it, over the bytes that were taken and put. Said
-- once for all such calls. Of this project.
use Rattle.std.specs.Prelude.{◌≡◌, ◌⊎◌, ℕ, ◌<◌, Bool, true, false, List, [], ◌++◌, length, Option, Some, None}
use Rattle.std.specs.Io.KnownBytes.{IsAtEnd, Appends}
use Rattle.sc_outside.specs.Faults.{Rose}
use Rattle.sc_outside.specs.Port.{Told, Moves}

-- What is due for a whole input: the answer, and the bytes that are given. Some answers come at the input's end alone.
pub record Due (A : Type 0) : Type 0 where
  pub answer : A
  pub text : List ℕ
  pub at_end : Bool

-- What a call owes.
pub record Job (A : Type 0) : Type 0 where
  -- whether it reads at all, and whether it takes memory
  pub reads : Bool
  pub allocates : Bool
  -- the bytes that are due once these were taken, whatever follows them
  pub so_far : List ℕ → List ℕ
  -- what is due where this is the whole input
  pub whole : List ℕ → Due A
  -- the most that is given by then where memory runs out once these bytes were taken
  pub before_memory : List ℕ → List ℕ
  -- the answers where a read failed, where a write failed, and where memory ran out
  pub read_failed : A
  pub write_failed : A
  pub no_memory : A

-- bytes with which a text begins
pub record IsPrefix (put text : List ℕ) : Type 0 where
  pub rest : List ℕ
  pub parts : text ≡ put ++ rest

-- bytes with which a text begins, that aren't the whole of it
pub record IsProperPrefix (put text : List ℕ) : Type 0 where
  pub rest : List ℕ
  pub parts : text ≡ put ++ rest
  pub more : 0 < length rest

-- The law that each job keeps: what is due so far is a prefix of what is due in the end, and so is what memory's end leaves.
pub record IsJob {A : Type 0} (job : Job A) : Type 0 where
  pub grows : (taken rest : List ℕ) → IsPrefix (job.so_far taken) (job.whole (taken ++ rest)).text
  pub spares : (taken rest : List ℕ) → IsPrefix (job.before_memory taken) (job.whole (taken ++ rest)).text

-- what is left of the input: that which is told or, where it isn't told, any
abbrev pub IsLeft : Option (List ℕ) → List ℕ → Type 0
IsLeft None rest = Unit {0}
IsLeft (Some left) rest = left ≡ rest

-- The input decided: this is what is due for the bytes that were taken and those that are left.
pub record IsDecided {A : Type 0} (job : Job A) (new : Told) (taken put : List ℕ) (answer : A) : Type 0 where
  pub rest : List ℕ
  pub left : IsLeft new.left rest
  pub answered : (job.whole (taken ++ rest)).answer ≡ answer
  pub given : (job.whole (taken ++ rest)).text ≡ put
  pub ended : (job.whole (taken ++ rest)).at_end ≡ true → rest ≡ []

-- less was put than is due for what was read: for the bytes that were taken or, at their end, for the whole input
abbrev pub IsShort : {A : Type 0} → Job A → Told → List ℕ → List ℕ → Type 0
IsShort job new taken put =
    IsProperPrefix put (job.so_far taken) ⊎ (IsAtEnd new.left × IsProperPrefix put (job.whole taken).text)

-- who decided how a call ended: the input; or the outside, by a failed read, a failed write or want of memory
pub data Cause : Type 0 where
  input : Cause
  read : Cause
  write : Cause
  memory : Cause

-- What each of them owes. After a failed read exactly what is due so far was put, and after a failed write less. A call
-- that doesn't read has no failed read, and one that takes no memory no want of it.
abbrev pub IsCaused : {A : Type 0} → Job A → Told → Told → List ℕ → List ℕ → A → Cause → Type 0
IsCaused job old new taken put answer input = IsDecided job new taken put answer
IsCaused job old new taken put answer read =
    (answer ≡ job.read_failed) × Rose old.read_faults new.read_faults × (put ≡ job.so_far taken) × (job.reads ≡ true)
IsCaused job old new taken put answer write =
    (answer ≡ job.write_failed) × Rose old.write_faults new.write_faults × IsShort job new taken put
IsCaused job old new taken put answer memory = (answer ≡ job.no_memory) × IsPrefix put (job.before_memory taken) × (job.allocates ≡ true)

-- How a call ended: these bytes were taken and those put, and someone decided the answer.
pub record Ends {A : Type 0} (job : Job A) (old new : Told) (answer : A) : Type 0 where
  pub cause : Cause
  pub taken : List ℕ
  pub put : List ℕ
  pub moves : Moves old new taken put
  pub unread : job.reads ≡ false → taken ≡ []
  pub caused : IsCaused job old new taken put answer cause

-- the job whose answers are those of another, told in other words
abbrev pub told_as : {A B : Type 0} → (A → B) → Job A → Job B
told_as f job = record {
  reads = job.reads;
  allocates = job.allocates;
  so_far = job.so_far;
  whole = λ input.
      record { answer = f (job.whole input).answer; text = (job.whole input).text; at_end = (job.whole input).at_end };
  before_memory = job.before_memory;
  read_failed = f job.read_failed;
  write_failed = f job.write_failed;
  no_memory = f job.no_memory;
}

-- an answer with nothing given
abbrev pub only : {A : Type 0} → A → Due A
only answer = record { answer = answer; text = []; at_end = false }

-- the job of a call that leaves the input unread: this is due whatever it is. It may take memory, and then at most so much
-- is given where that runs out.
abbrev pub at_once : {A : Type 0} → Due A → Bool → List ℕ → A → A → A → Job A
at_once due allocates before_memory read_failed write_failed no_memory = record {
  reads = false;
  allocates = allocates;
  so_far = λ _. due.text;
  whole = λ _. due;
  before_memory = λ _. before_memory;
  read_failed = read_failed;
  write_failed = write_failed;
  no_memory = no_memory;
}

-- the answer is the one that is due for this input, and so is what was given
pub record IsDue {A : Type 0} (due : Due A) (old new : Told) (answer : A) : Type 0 where
  pub answered : due.answer ≡ answer
  pub given : Appends old.given new.given due.text
  pub ended : due.at_end ≡ true → IsAtEnd new.left

-- the outside ended the call
abbrev pub IsOutside : {A : Type 0} → Job A → Told → Told → A → Type 0
IsOutside job old new answer =
    ((answer ≡ job.read_failed) × Rose old.read_faults new.read_faults)
    ⊎ (((answer ≡ job.write_failed) × Rose old.write_faults new.write_faults) ⊎ (answer ≡ job.no_memory))

-- a prefix of a text was given
pub record GivesPrefix (old new : Told) (text : List ℕ) : Type 0 where
  pub put : List ℕ
  pub prefix : IsPrefix put text
  pub given : Appends old.given new.given put
