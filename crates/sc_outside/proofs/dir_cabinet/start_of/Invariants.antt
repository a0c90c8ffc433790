use Rattle.std.proofs.Common.{◌≡◌, ◌-◌, ◌≤◌, min, length}
use Rattle.std.specs.Io.KnownBytes.{Consumes}
use Rattle.sc_outside.proofs.dir_cabinet.start_of.Given as goal

-- what was taken so far are the reader's first bytes, and a read has room for one more at least
abbrev pub invariant-loop-piece : goal.invariant-loop-piece
invariant-loop-piece g l = record {
  bound : length l.bytes.items ≤ l.limit;
  taken : Consumes (g.R.Read.remaining l.fn.input) (g.R.Read.remaining l.input) l.bytes.items;
  room : length l.piece.items ≡ min 65536 l.limit;
}

abbrev pub decreases-loop-piece : goal.decreases-loop-piece
decreases-loop-piece g l = l.limit - length l.bytes.items
