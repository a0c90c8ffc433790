use Rattle.sc_slots.proofs.SettledLaws.{IsPut-monotone}
use Rattle.sc_slots.proofs.TextLaws.{IsText-begins}
use Rattle.sc_slots.proofs.repair_laws.nothing_is_taken_back.Goals as goal

pub returns : goal.returns
returns g c = record {
  put = IsPut-monotone g.F.Field.zero g.F.Field.act;
  text = λ k m deadline write. IsText-begins g.F.Field.zero g.F.Field.act k m deadline write;
}
