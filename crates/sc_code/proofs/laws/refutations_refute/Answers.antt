use Rattle.sc_code.proofs.MeetsLaws.{not_Meets-from_refutation, IsRefutation-from_undecided}
use Rattle.sc_code.proofs.laws.refutations_refute.Goals as goal

pub returns-clause-refutes : goal.returns-clause-refutes
returns-clause-refutes g c = not_Meets-from_refutation g.met.F.Field.field g.met.F.Field.action

pub returns-clause-found : goal.returns-clause-found
returns-clause-found g c = IsRefutation-from_undecided g.met.F.Field.field g.met.F.Field.action
