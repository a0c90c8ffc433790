use Rattle.sc_slots.proofs.LeftLaws.{AreLeft-left_by, HasEnds-left_by, taken_from-left_by}
use Rattle.sc_slots.proofs.repair_laws.what_is_left_is_taken.Goals as goal

pub returns : goal.returns
returns g c = record {
  taken = taken_from-left_by g.F.Field.zero g.F.Field.act;
  left = AreLeft-left_by g.F.Field.zero g.F.Field.act;
  ends = HasEnds-left_by g.F.Field.zero g.F.Field.act;
}
