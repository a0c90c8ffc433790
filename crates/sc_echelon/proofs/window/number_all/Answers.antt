use Rattle.std.proofs.Common.{set, subst, ◌∙◌, ap, arith}
use Rattle.std.proofs.lemmas.List.Elements.{All-more}
use Rattle.sc_echelon.proofs.NumberRows.{write_more}
use Rattle.sc_echelon.proofs.window.number_all.Goals as goal

pub loop-i-preserved : goal.loop-i-preserved
loop-i-preserved g c = record {
  value =
      ap (set c.loop-i.numbers c.loop-i.i) c.number.ensures
      ∙ write_more g.F.Field.number c.args.xs.now c.args.numbers.now c.loop-i.numbers c.loop-i.i c.index-xs-i.result 0 (omega arith) c.requires c.loop-i.invariant.value c.index-xs-i.is;
  elements = All-more g.F.Field.IsElement c.args.xs.now c.loop-i.i c.index-xs-i.result (omega arith) c.loop-i.invariant.elements (subst g.F.Field.IsElement c.index-xs-i.is c.known.ensures);
}
