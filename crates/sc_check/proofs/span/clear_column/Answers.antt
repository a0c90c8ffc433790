use Rattle.std.proofs.Common.{◌-◌, arith}
use Rattle.sc_check.proofs.ClearSteps.{IsCleared-zeros, IsCleared-pivot}
use Rattle.sc_check.proofs.span.clear_column.Goals as goal

pub returns-in-None-clause-cleared : goal.returns-in-None-clause-cleared
returns-in-None-clause-cleared c = IsCleared-zeros c.args.m.now c.args.c c.known.ensures.shape c.requires c.in-None.ensures

pub returns-in-Some-clause-cleared : goal.returns-in-Some-clause-cleared
returns-in-Some-clause-cleared c =
    IsCleared-pivot c.args.m.now c.row_swap.new.self c.clear_rows.new.m c.truncate.new.self c.args.c c.in-Some.p (c.rows-last.result - 1)
    c.known.ensures.shape c.clear_rows.ensures.matrix c.known-in-Some.ensures.shape c.requires (omega (arith, c.rows-last.ensures.count, c.in-Some.ensures.0)) c.in-Some.ensures.0 c.row_swap.ensures
    c.clear_rows.ensures.one_space c.clear_rows.ensures.count c.clear_rows.ensures.pivot c.clear_rows.ensures.zeros c.truncate.ensures
