use Rattle.std.proofs.Common.{◌≡◌, false, None, refl, sym, subst}
use Rattle.sc_outside.proofs.EndsLaws.{Ends-at_once}
use Rattle.streamcode.specs.declared.end.End.TheVariants.{Usage, ReadFault, WriteFault, NoMemory}
use Rattle.streamcode.specs.InTime.{GivesInTime}
use Rattle.streamcode.specs.Plans.{PlanEnds}
use Rattle.streamcode.specs.Runs.{command_plan}
use Rattle.sc_words.specs.Words.{command_of, texts}
use Rattle.streamcode.proofs.program.answer.Goals as goal

pub returns-in-None-clause-ends : goal.returns-in-None-clause-ends
returns-in-None-clause-ends g c =
    let told = g.P.Port.told in
    let files = g.C.Cabinet.told c.args.cabinet.now in
    let none : command_of (texts c.args.words.now.items) ≡ None = c.in-None.ensures.command in
    subst (λ o. PlanEnds told (command_plan o) files files c.args.port.now c.args.port.now Usage) (sym none)
    (refl, Ends-at_once Usage ReadFault WriteFault NoMemory false (told c.args.port.now), λ _. refl)

pub returns-in-Some-clause-in_time : goal.returns-in-Some-clause-in_time
returns-in-Some-clause-in_time g c =
    subst (λ command. GivesInTime command (g.C.Cabinet.told c.args.cabinet.now) (g.P.Port.told c.args.port.now) (g.P.Port.told c.perform.new.port))
    (sym c.in-Some.ensures.command) c.perform.ensures.in_time
