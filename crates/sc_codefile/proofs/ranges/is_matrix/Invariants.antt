use Rattle.std.proofs.Common.{◌≡◌, drop}
use Rattle.std.specs.List.{list_all}
use Rattle.sc_codefile.specs.CodeFile.{is_row}
use Rattle.sc_codefile.proofs.ranges.is_matrix.Given as goal

abbrev pub invariant-loop-row : goal.invariant-loop-row
invariant-loop-row l = list_all (is_row l.r) l.rows ≡ list_all (is_row l.r) (drop l.row-index l.rows)
