use Rattle.std.proofs.Common.{arith, sym, ◌∙◌}
use Rattle.sc_check.proofs.ClearSteps.{parity-unit, parity-unit_before, parity-unit_late}
use Rattle.sc_check.proofs.span.unit_parity.Goals as goal

pub returns-then-t-s : goal.returns-then-t-s
returns-then-t-s c = sym (parity-unit_before c.args.code.now c.memory-memory.ensures.limits c.args.s c.args.i c.args.t c.args.j (omega (arith, c.if-t-s.true)))

pub returns-then-memory-t : goal.returns-then-memory-t
returns-then-memory-t c =
    sym (parity-unit_late c.args.code.now c.memory-memory.ensures.limits c.args.s c.args.i c.args.t c.args.j c.requires.symbol (omega (arith, c.if-t-s.false)) (omega (arith, c.if-memory-t.true, c.memory-memory.ensures.number)))

pub returns : goal.returns
returns c =
    c.number.ensures ∙ c.coefficient.ensures.value ∙ sym (parity-unit c.args.code.now c.memory-memory.ensures.limits c.args.s c.args.i c.args.t c.args.j c.requires.symbol (omega (arith, c.if-t-s.false)))
