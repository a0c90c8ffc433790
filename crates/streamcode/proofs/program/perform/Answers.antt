use Rattle.std.proofs.Common.{◌≡◌, Some, refl, sym, subst}
use Rattle.sc_words.specs.Command.{meaning}
use Rattle.sc_words.specs.Words.{repair}
use Rattle.streamcode.specs.InTime.{RepairsInTime}
use Rattle.streamcode.specs.Plans.{PlanEnds}
use Rattle.streamcode.specs.Runs.{command_plan}
use Rattle.streamcode.proofs.JobLaws.{gen_job-gives}
use Rattle.streamcode.proofs.program.perform.Goals as goal

pub returns-in-Gen-clause-ends : goal.returns-in-Gen-clause-ends
returns-in-Gen-clause-ends g c =
    let files = g.C.Cabinet.told c.args.cabinet.now in
    subst (λ command. PlanEnds g.P.Port.told (command_plan (Some (meaning command))) files files c.args.port.now c.generate.new.port c.generate.result) (sym c.in-Gen.is)
    (refl, c.generate.ensures, λ silent. absurd (gen_job-gives _ _ _ silent))

pub returns-in-Repair-clause-in_time : goal.returns-in-Repair-clause-in_time
returns-in-Repair-clause-in_time g c = λ code is.
    let asked : Some (repair c.in-Repair.code.now) ≡ Some (repair code) = subst (λ command. Some (meaning command) ≡ Some (repair code)) c.in-Repair.is is in
    let same : c.in-Repair.code.now ≡ code = cc in
    subst (λ name. RepairsInTime name (g.C.Cabinet.told c.args.cabinet.now) (g.P.Port.told c.args.port.now) (g.P.Port.told c.repair.new.port)) same c.repair.ensures.in_time
