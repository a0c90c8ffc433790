use Rattle.std.proofs.Common.{◌≡◌, None, Some, sym, ap, ◌∙◌, subst}
use Rattle.sc_outside.specs.Ends.{Ends}
use Rattle.sc_channel.specs.Loss.{bad_window}
use Rattle.streamcode.specs.End.{end_of_drop}
use Rattle.streamcode.specs.Jobs.{lose_job}
use Rattle.streamcode.proofs.JobLaws.{lose_refused, lose_thinned}
use Rattle.streamcode.proofs.lose.lose_flags.Goals as goal

pub returns-in-Some-clause-ends : goal.returns-in-Some-clause-ends
returns-in-Some-clause-ends g c =
    let channel = c.args.channel.now in
    let found : bad_window channel c.args.flags.now ≡ Some c.in-Some.window = ap (bad_window channel) (sym c.as_slice.ensures) ∙ sym c.in-Some.ensures.value in
    lose_refused channel c.args.flags.now (g.P.Port.told c.args.port.now) c.in-Some.window found

pub returns-clause-ends : goal.returns-clause-ends
returns-clause-ends g c =
    let told = g.P.Port.told in
    let channel = c.args.channel.now in
    let flags = c.args.flags.now in
    let none : bad_window channel flags ≡ None = ap (bad_window channel) (sym c.as_slice.ensures) ∙ sym c.first_bad_window.ensures.value ∙ c.in_default.is in
    let outcome = c.drop_records-outcome.result in
    subst (Ends (lose_job channel flags) (told c.args.port.now) (told c.drop_records-outcome.new.port))
    (ap (λ n. end_of_drop n outcome) (sym c.len.ensures) ∙ sym c.of_drop.ensures)
    (lose_thinned channel flags _ _ outcome none c.drop_records-outcome.ensures)
