use Rattle.std.proofs.Common.{subst}
use Rattle.std.proofs.lemmas.List.{get_or_default}
use Rattle.sc_matrix.specs.Module.{IsByte}
use Rattle.sc_echelon.proofs.equation.known_bytes.Goals as goal

pub returns : goal.returns
returns c = λ k d l. subst IsByte (get_or_default c.args.bytes.now k 0 d l) (c.type_inv.bytes k).fits
