use Rattle.sc_field.proofs.Halves.{IsByHalves-tables}
use Rattle.sc_field.proofs.multiplier.Multiplier.new.Goals as goal

pub invariant_of-result : goal.invariant_of-result
invariant_of-result g c = record {
  products = IsByHalves-tables g.met.F.Field.action c.args.coefficient _ _ c.known.ensures c.products-low.ensures c.products-high.ensures;
}
