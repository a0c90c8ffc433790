use Rattle.std.proofs.Common.{refl, sym, subst}
use Rattle.sc_outside.proofs.EndsLaws.{Ends-told_as}
use Rattle.sc_repair.specs.Prompt.{IsPrompt}
use Rattle.sc_repair.specs.Repairing.{repairing}
use Rattle.streamcode.specs.End.{end_of_repair}
use Rattle.streamcode.specs.Jobs.{repair_job}
use Rattle.streamcode.specs.Plans.{owes, PlanEnds}
use Rattle.sc_codefile.specs.Reading.{code_reading}
use Rattle.streamcode.specs.declared.end.Role.TheVariants.{Code}
use Rattle.streamcode.proofs.FileLaws.{came-not, came-file}
use Rattle.streamcode.proofs.InTimeLaws.{untouched-prompt, came-same}
use Rattle.streamcode.proofs.repair.repair.Goals as goal

pub returns-in-Ok-clause-ends : goal.returns-in-Ok-clause-ends
returns-in-Ok-clause-ends g c =
    let told = g.P.Port.told in
    let files = g.C.Cabinet.told c.fetch_code.new.cabinet in
    let job = repair_job c.in-Ok.file in
    came-file Code code_reading told (λ file. owes (repair_job file)) _ files files c.args.name.now c.args.port.now c.repair_all.new.port c.in-Ok.file c.of_repair.result c.in-Ok.ensures
    (subst (PlanEnds told (owes job) files files c.args.port.now c.repair_all.new.port) (sym c.of_repair.ensures)
    (refl, Ends-told_as end_of_repair (repairing c.in-Ok.file) _ _ c.repair_all.result c.repair_all.ensures.ends, λ silent. absurd (cc silent.unread)))

pub returns-in-Err-clause-ends : goal.returns-in-Err-clause-ends
returns-in-Err-clause-ends g c =
    came-not Code code_reading g.P.Port.told (λ file. owes (repair_job file)) _ _ c.args.name.now c.args.port.now c.in-Err.end c.in-Err.ensures

pub returns-in-Ok-clause-in_time : goal.returns-in-Ok-clause-in_time
returns-in-Ok-clause-in_time g c = λ files file there h.
    subst (λ f. IsPrompt (repair_job f) (g.P.Port.told c.args.port.now) (g.P.Port.told c.repair_all.new.port))
    (came-same (g.C.Cabinet.told c.args.cabinet.now) _ c.args.name.now files file c.in-Ok.file there h c.in-Ok.ensures) c.repair_all.ensures.prompt

pub returns-in-Err-clause-in_time : goal.returns-in-Err-clause-in_time
returns-in-Err-clause-in_time g c = λ files file there h. untouched-prompt (repair_job file) (g.P.Port.told c.args.port.now)
