use Rattle.std.proofs.Common.{subst, arith}
use Rattle.sc_optimal.specs.Design.{IsTried}
use Rattle.sc_optimal.proofs.DesignSteps.{behind_none, behind_more, behind_found, behind_all}
use Rattle.sc_optimal.proofs.design.first_of.Goals as goal

pub loop-c-init : goal.loop-c-init
loop-c-init g c = behind_none c.args.kind c.args.channel.now

pub returns-in-Some : goal.returns-in-Some
returns-in-Some g c =
    behind_found c.args.kind c.args.channel.now c.loop-c.c c.in-Some.code (omega (arith, c.candidate_count-c-end.ensures)) c.loop-c.invariant
    (subst (IsTried c.args.kind c.args.channel.now c.loop-c.c) c.in-Some.is c.in_ok-code.ensures.tried)

pub loop-c-preserved : goal.loop-c-preserved
loop-c-preserved g c =
    behind_more c.args.kind c.args.channel.now c.loop-c.c (omega (arith, c.candidate_count-c-end.ensures)) c.loop-c.invariant
    (subst (IsTried c.args.kind c.args.channel.now c.loop-c.c) c.in_default.is c.in_ok-code.ensures.tried)

pub returns : goal.returns
returns g c = behind_all c.args.kind c.args.channel.now c.loop-c.c (omega (arith, c.candidate_count-c-end.ensures)) c.loop-c.invariant
