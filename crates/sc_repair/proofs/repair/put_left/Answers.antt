use Rattle.std.proofs.Common.{◌≤◌, [], Ok, ap, subst}
use Rattle.sc_repair.specs.Repairer.{Repairer}
use Rattle.sc_repair.specs.Repairing.{taken_of}
use Rattle.sc_repair.specs.Steps.{AllGives, LosesTo, end_of, values_by}
use Rattle.sc_repair.proofs.LastSteps.{left_begins, left_loses, left_fails, left_given, left_refused}
use Rattle.sc_repair.proofs.repair.put_left.Goals as goal

pub returns-in_default : goal.returns-in_default
returns-in_default g c file slots text set rests width =
    let limit = subst (λ n. n ≤ 4000000) (ap (λ (x : Repairer). x.passed) c.finish-end.ensures.same) c.finish-end.ensures.sound.few in
    let b = left_begins file slots c.args.repairer.now c.args.missed.now text set rests limit c.finish-end.new.self c.finish-end.ensures.same width in
    left_loses file slots c.args.repairer.now c.finish-end.new.self c.args.missed.now text set rests limit c.finish-end.ensures.same width (g.P.Port.told c.args.port.now) (g.P.Port.told c.put_all.new.port) c.put_all.new.pending c.put_all.new.missed
    (subst (λ l. LosesTo (values_by c.finish-end.new.self (taken_of file slots)) (g.P.Port.told c.args.port.now) (g.P.Port.told c.put_all.new.port) l text) c.requires.empty
    (c.in_default.ensures.gives (taken_of file slots) text (c.finish-end.ensures.stands (taken_of file slots) rests.ready.stands) b.2 b.3))

pub returns-in_default-flush : goal.returns-in_default-flush
returns-in_default-flush g c file slots text set rests width =
    let limit = subst (λ n. n ≤ 4000000) (ap (λ (x : Repairer). x.passed) c.finish-end.ensures.same) c.finish-end.ensures.sound.few in
    let b = left_begins file slots c.args.repairer.now c.args.missed.now text set rests limit c.finish-end.new.self c.finish-end.ensures.same width in
    left_fails file slots c.args.repairer.now c.finish-end.new.self c.args.missed.now text set rests limit c.finish-end.ensures.same width (g.P.Port.told c.args.port.now) (g.P.Port.told c.put_all.new.port) c.put_all.new.pending c.put_all.new.missed c.in-Ok.all
    (subst (λ l. AllGives (values_by c.finish-end.new.self (taken_of file slots)) (end_of c.finish-end.new.self (taken_of file slots)) (g.P.Port.told c.args.port.now) (g.P.Port.told c.put_all.new.port) l c.put_all.new.pending c.put_all.new.missed text (Ok c.in-Ok.all)) c.requires.empty
    (c.in-Ok.ensures.gives (taken_of file slots) text (c.finish-end.ensures.stands (taken_of file slots) rests.ready.stands) b.2 b.3))
    (g.P.Port.told c.flush.new.port) c.flush.new.self c.in_default-flush.ensures

pub returns-in-None : goal.returns-in-None
returns-in-None g c file slots text set rests width =
    let limit = subst (λ n. n ≤ 4000000) (ap (λ (x : Repairer). x.passed) c.finish-end.ensures.same) c.finish-end.ensures.sound.few in
    let b = left_begins file slots c.args.repairer.now c.args.missed.now text set rests limit c.finish-end.new.self c.finish-end.ensures.same width in
    left_given file slots c.args.repairer.now c.finish-end.new.self c.args.missed.now text set rests limit c.finish-end.ensures.same width (g.P.Port.told c.args.port.now) (g.P.Port.told c.put_all.new.port) c.put_all.new.pending c.put_all.new.missed
    (g.P.Port.told c.flush.new.port) c.finish-end.result (c.finish-end.ensures.end (taken_of file slots) rests.ready.stands)
    (subst (λ o. AllGives (values_by c.finish-end.new.self (taken_of file slots)) (end_of c.finish-end.new.self (taken_of file slots)) (g.P.Port.told c.args.port.now) (g.P.Port.told c.put_all.new.port) [] c.put_all.new.pending c.put_all.new.missed text (Ok o)) c.in-None.is
    (subst (λ l. AllGives (values_by c.finish-end.new.self (taken_of file slots)) (end_of c.finish-end.new.self (taken_of file slots)) (g.P.Port.told c.args.port.now) (g.P.Port.told c.put_all.new.port) l c.put_all.new.pending c.put_all.new.missed text (Ok c.in-Ok.all)) c.requires.empty
    (c.in-Ok.ensures.gives (taken_of file slots) text (c.finish-end.ensures.stands (taken_of file slots) rests.ready.stands) b.2 b.3)))
    c.in-Ok-flush.ensures.1

pub returns-in-Some : goal.returns-in-Some
returns-in-Some g c file slots text set rests width =
    let limit = subst (λ n. n ≤ 4000000) (ap (λ (x : Repairer). x.passed) c.finish-end.ensures.same) c.finish-end.ensures.sound.few in
    let b = left_begins file slots c.args.repairer.now c.args.missed.now text set rests limit c.finish-end.new.self c.finish-end.ensures.same width in
    left_refused file slots c.args.repairer.now c.finish-end.new.self c.args.missed.now text set rests limit c.finish-end.ensures.same width (g.P.Port.told c.args.port.now) (g.P.Port.told c.put_all.new.port) c.put_all.new.pending c.put_all.new.missed
    (g.P.Port.told c.flush.new.port) c.in-Some.slot
    (subst (λ o. AllGives (values_by c.finish-end.new.self (taken_of file slots)) (end_of c.finish-end.new.self (taken_of file slots)) (g.P.Port.told c.args.port.now) (g.P.Port.told c.put_all.new.port) [] c.put_all.new.pending c.put_all.new.missed text (Ok o)) c.in-Some.is
    (subst (λ l. AllGives (values_by c.finish-end.new.self (taken_of file slots)) (end_of c.finish-end.new.self (taken_of file slots)) (g.P.Port.told c.args.port.now) (g.P.Port.told c.put_all.new.port) l c.put_all.new.pending c.put_all.new.missed text (Ok c.in-Ok.all)) c.requires.empty
    (c.in-Ok.ensures.gives (taken_of file slots) text (c.finish-end.ensures.stands (taken_of file slots) rests.ready.stands) b.2 b.3)))
    c.in-Ok-flush.ensures.1
