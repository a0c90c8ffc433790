-- A port in memory: all that its calls depend on and change.
use Rattle.std.specs.Prelude.{◌≡◌, ℕ, ◌-◌, ◌^◌, ◌≤◌, ◌==◌, ◌||◌, min, Bool, true, false, List, [], ◌∷◌, ◌++◌, length, take, drop, nat_le, Some, Result, Ok, Err}
use Rattle.std.specs.List.{list_any}
use Rattle.sc_outside.specs.declared.journal.Move.{Move}
use Rattle.sc_outside.specs.declared.journal.Move.TheVariants.{Read, Written}
use Rattle.sc_outside.specs.declared.error.Failed.{Failed}
use Rattle.sc_outside.specs.Faults.{counted}
use Rattle.sc_outside.specs.Port.{Told}

-- What a port in memory has: the bytes left and given, the journal, room for so many bytes given in all, so many
-- calls, so many bytes a call, the calls that fail, the number of calls so far, and the faults of both kinds.
pub record MemoryState : Type 0 where
  pub left : List ℕ
  pub given : List ℕ
  pub journal : List Move
  pub room : ℕ
  pub moves : ℕ
  pub piece : ℕ
  pub fails : List ℕ
  pub calls : ℕ
  pub read_faults : ℕ
  pub write_faults : ℕ

-- it tells all of its content
abbrev pub told_by : MemoryState → Told
told_by s = record {
  left = Some s.left;
  given = Some s.given;
  journal = Some s.journal;
  read_faults = s.read_faults;
  write_faults = s.write_faults;
}

-- the call at hand is one that fails, or one too many
abbrev pub is_refused : MemoryState → Bool
is_refused s = list_any (λ call. call == s.calls) s.fails || nat_le s.moves s.calls

-- as a write finds it: refused, or no room is left
abbrev pub is_refused_write : MemoryState → Bool
is_refused_write s = is_refused s || nat_le s.room (length s.given)

-- what a read into a buffer of this size answers, and what it leaves
abbrev pub ReadsAs : MemoryState → MemoryState → ℕ → Result ℕ Failed → Type 0
ReadsAs old new size (Ok n) =
    (is_refused old ≡ false) × (n ≡ min old.piece (min size (length old.left)))
    × (new ≡ record old { left = drop n old.left; journal = old.journal ++ Read n ∷ []; calls = counted old.calls })
ReadsAs old new size (Err e) =
    (is_refused old ≡ true) × (new ≡ record old { calls = counted old.calls; read_faults = counted old.read_faults })

-- what a write of these bytes answers, and what it leaves
abbrev pub WritesAs : MemoryState → MemoryState → List ℕ → Result ℕ Failed → Type 0
WritesAs old new piece (Ok n) =
    (is_refused_write old ≡ false) × (n ≡ min old.piece (min (length piece) (old.room - length old.given)))
    × (new ≡ record old { given = old.given ++ take n piece; journal = old.journal ++ Written n ∷ []; calls = counted old.calls })
WritesAs old new piece (Err e) =
    (is_refused_write old ≡ true) × (new ≡ record old { calls = counted old.calls; write_faults = counted old.write_faults })

-- what is known of each port in memory: it moves a byte at least, and its counts are kept in 64 bits
pub record IsMemory (s : MemoryState) : Type 0 where
  pub some : 1 ≤ s.piece
  pub room : length s.given ≤ s.room
  pub read_faults : s.read_faults ≤ 2 ^ 64 - 1
  pub write_faults : s.write_faults ≤ 2 ^ 64 - 1
