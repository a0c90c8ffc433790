use Rattle.std.proofs.Common.{[], arith}
use Rattle.streamcode.specs.Verdict.{block_text}
use Rattle.streamcode.proofs.VerdictSteps.{join-behind}
use Rattle.streamcode.proofs.verdict.push_stream.Goals as goal

pub loop-t-preserved : goal.loop-t-preserved
loop-t-preserved c =
    join-behind 32 block_text c.args.stream.now c.loop-t.t [] _ _ _ _ (omega arith) c.loop-t.invariant c.in_ok-push_separator.ensures c.in_ok-push_block.ensures
