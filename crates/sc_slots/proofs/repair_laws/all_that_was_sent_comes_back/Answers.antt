use Rattle.sc_slots.proofs.EndLaws.{no_clash, block_recovered, block_settled, end_is_known, none_is_missed, text_is_sent}
use Rattle.sc_slots.proofs.repair_laws.all_that_was_sent_comes_back.Goals as goal

pub returns : goal.returns
returns g c = record {
  no_clash = no_clash g.F.Field.zero g.F.Field.act;
  recovered = block_recovered g.F.Field.zero g.F.Field.act;
  in_time = block_settled g.F.Field.zero g.F.Field.act;
  end = end_is_known g.F.Field.zero g.F.Field.act;
  none_missed = none_is_missed g.F.Field.zero g.F.Field.act;
  text = λ rule k channel m blocks loss taken write none. text_is_sent g.F.Field.zero g.F.Field.act rule k channel m blocks loss taken write none;
}
