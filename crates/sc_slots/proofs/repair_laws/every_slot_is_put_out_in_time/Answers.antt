use Rattle.sc_slots.proofs.SettledLaws.{put_after_deadline}
use Rattle.sc_slots.proofs.repair_laws.every_slot_is_put_out_in_time.Goals as goal

pub returns : goal.returns
returns g c = put_after_deadline g.F.Field.zero g.F.Field.act
