use Rattle.std.proofs.Common.{refl, sym, subst}
use Rattle.sc_outside.proofs.EndsLaws.{Ends-told_as}
use Rattle.sc_slots.specs.Protected.{protecting}
use Rattle.streamcode.specs.End.{end_of_protect}
use Rattle.streamcode.specs.Jobs.{protect_job}
use Rattle.streamcode.specs.Plans.{owes, PlanEnds}
use Rattle.sc_codefile.specs.Reading.{code_reading}
use Rattle.streamcode.specs.declared.end.Role.TheVariants.{Code}
use Rattle.streamcode.proofs.FileLaws.{came-not, came-file}
use Rattle.streamcode.proofs.protect.protect.Goals as goal

pub returns-in-Ok : goal.returns-in-Ok
returns-in-Ok g c =
    let told = g.P.Port.told in
    let files = g.C.Cabinet.told c.fetch_code.new.cabinet in
    let job = protect_job c.in-Ok.file c.args.size in
    came-file Code code_reading told (λ file. owes (protect_job file c.args.size)) _ files files c.args.name.now c.args.port.now c.protect_all.new.port c.in-Ok.file c.of_protect.result c.in-Ok.ensures
    (subst (PlanEnds told (owes job) files files c.args.port.now c.protect_all.new.port) (sym c.of_protect.ensures)
    (refl, Ends-told_as end_of_protect (protecting c.in-Ok.file c.args.size) _ _ c.protect_all.result c.protect_all.ensures.ends, λ silent. c.protect_all.ensures.untouched silent.unread))

pub returns-in-Err : goal.returns-in-Err
returns-in-Err g c =
    came-not Code code_reading g.P.Port.told (λ file. owes (protect_job file c.args.size)) _ _ c.args.name.now c.args.port.now c.in-Err.end c.in-Err.ensures
