-- The journal of a port: its reads and writes that succeeded, in order, each with its length in bytes.
use Rattle.std.specs.Prelude.{◌≡◌, ℕ, ◌+◌, List, [], ◌∷◌, ◌++◌, Option, None, Some, ⊤}
use Rattle.sc_outside.specs.declared.journal.Move.{Move}
use Rattle.sc_outside.specs.declared.journal.Move.TheVariants.{Read, Written}

-- how many bytes the reads took
abbrev pub bytes_read : List Move → ℕ
bytes_read [] = 0
bytes_read (Read n ∷ moves) = n + bytes_read moves
bytes_read (Written n ∷ moves) = bytes_read moves

-- how many bytes the writes gave
abbrev pub bytes_written : List Move → ℕ
bytes_written [] = 0
bytes_written (Read n ∷ moves) = bytes_written moves
bytes_written (Written n ∷ moves) = n + bytes_written moves

-- a journal that is told gained one entry
abbrev pub LogsOne : Option (List Move) → Option (List Move) → Move → Type 0
LogsOne None new move = ⊤
LogsOne (Some old) None move = ⊥
LogsOne (Some old) (Some new) move = new ≡ old ++ move ∷ []

-- a journal that is told gained entries that read and wrote so many bytes in all
abbrev pub Logs : Option (List Move) → Option (List Move) → ℕ → ℕ → Type 0
Logs None new read written = ⊤
Logs (Some old) None read written = ⊥
Logs (Some old) (Some new) read written =
    (moves : List Move) × (new ≡ old ++ moves) × (bytes_read moves ≡ read) × (bytes_written moves ≡ written)
