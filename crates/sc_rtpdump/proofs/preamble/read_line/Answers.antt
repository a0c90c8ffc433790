use Rattle.std.proofs.Common.{◌<◌, length, take, arith}
use Rattle.std.proofs.lemmas.List.{length-set}
use Rattle.std.proofs.lemmas.Result.{err_from_is_err_and}
use Rattle.sc_outside.proofs.FaultsLaws.{Rose-earlier}
use Rattle.sc_rtpdump.proofs.PreambleSteps.{one_line_more, takes_more, one_line_kept, newline_last, takes_same}
use Rattle.sc_rtpdump.proofs.preamble.read_line.Goals as goal

pub returns-in_err-byte : goal.returns-in_err-byte
returns-in_err-byte g c =
    let failed = err_from_is_err_and c.from_residual.result c.from_residual.ensures.1 in
    let so_far = c.loop-i.invariant.takes in
    let last = c.in_err-byte.ensures in
    rw failed.1 (
      record {
        taken = take c.loop-i.i c.loop-i.bytes;
        takes = takes_same _ _ _ _ so_far last.0;
        holds = c.loop-i.invariant.one_line;
      },
      Rose-earlier _ _ _ so_far.moves.read_faults last.1,
    )

pub returns-in-None : goal.returns-in-None
returns-in-None g c =
    let last = rw c.in-None.is at c.in_ok-byte.ensures in
    record {
      taken = take c.loop-i.i c.loop-i.bytes;
      takes = takes_same _ _ _ _ c.loop-i.invariant.takes last.0;
      holds = (c.loop-i.invariant.one_line, λ _. last.1);
    }

pub returns-then-byte-eq10 : goal.returns-then-byte-eq10
returns-then-byte-eq10 g c =
    let last = rw c.in-Some.is at c.in_ok-byte.ensures in
    let bytes = c.loop-i.bytes in
    let i = c.loop-i.i in
    let b = c.in-Some.byte in
    let within : c.loop-i.i < length c.loop-i.bytes = omega (arith, c.loop-i-test.true, c.loop-i.auto.bytes) in
    (rw length-set within, one_line_kept bytes i b c.loop-i.invariant.one_line, newline_last bytes i b within c.if-byte-eq10.true, takes_more _ _ _ bytes i b within c.loop-i.invariant.takes last)

pub loop-i-preserved : goal.loop-i-preserved
loop-i-preserved g c =
    let last = rw c.in-Some.is at c.in_ok-byte.ensures in
    let within : c.loop-i.i < length c.loop-i.bytes = omega (arith, c.loop-i-test.true, c.loop-i.auto.bytes) in
    record {
      takes = takes_more _ _ _ c.loop-i.bytes c.loop-i.i c.in-Some.byte within c.loop-i.invariant.takes last;
      one_line = one_line_more c.loop-i.bytes c.loop-i.i c.in-Some.byte within c.loop-i.invariant.one_line c.if-byte-eq10.false;
    }
