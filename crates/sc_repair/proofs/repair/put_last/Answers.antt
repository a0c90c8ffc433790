use Rattle.std.proofs.Common.{Some, sym, subst}
use Rattle.std.proofs.lemmas.Result.{err_from_is_err_and}
use Rattle.sc_repair.specs.Repairing.{values_text, slots_in, values_so_far}
use Rattle.sc_repair.specs.RepairSteps.{IsGoing, Knows, GivesLast}
use Rattle.sc_repair.proofs.LastSteps.{none_left, some_left, left_last}
use Rattle.sc_repair.proofs.repair.put_last.Goals as goal

pub returns-in_err-end-in-Some : goal.returns-in_err-end-in-Some
returns-in_err-end-in-Some g c file records going k =
    let failed = err_from_is_err_and c.from_residual.result c.from_residual.ensures.1 in
    let set : IsGoing file (Some c.in-Some.repairer) c.args.state.now.counts = subst (λ o. IsGoing file o c.args.state.now.counts) c.in-Some.is going in
    let known : Knows file records (Some c.in-Some.repairer) c.args.state.now.counts = subst (λ o. Knows file records o c.args.state.now.counts) c.in-Some.is k in
    rw (failed.1, failed.2) (left_last file records _ _ c.put_left.new.missed c.in_err-end-in-Some.field-0.0
    (c.in_err-end-in-Some.ensures file (slots_in file records) (values_text (values_so_far file records)) set known.keeps.0 known.keeps.1))

pub returns-in-None : goal.returns-in-None
returns-in-None g c file records going k =
    subst (GivesLast file records _ _) (sym c.with_end.ensures)
    (none_left file records c.args.state.now.counts _ (subst (λ o. IsGoing file o c.args.state.now.counts) c.in-None.is going) (subst (λ o. Knows file records o c.args.state.now.counts) c.in-None.is k))

pub returns-in_ok-end-in-Some : goal.returns-in_ok-end-in-Some
returns-in_ok-end-in-Some g c file records going k =
    let set : IsGoing file (Some c.in-Some.repairer) c.args.state.now.counts = subst (λ o. IsGoing file o c.args.state.now.counts) c.in-Some.is going in
    let known : Knows file records (Some c.in-Some.repairer) c.args.state.now.counts = subst (λ o. Knows file records o c.args.state.now.counts) c.in-Some.is k in
    subst (GivesLast file records _ _) (sym c.with_end-in-Some.ensures)
    (some_left file records c.in-Some.repairer c.args.state.now.counts c.put_left.new.missed _ _ c.in_ok-end-in-Some.end known
    (c.in_ok-end-in-Some.ensures file (slots_in file records) (values_text (values_so_far file records)) set known.keeps.0 known.keeps.1))
