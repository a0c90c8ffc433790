use Rattle.sc_slots.proofs.SettledLaws.{IsSettled-unique, IsSettled-stays}
use Rattle.sc_slots.proofs.repair_laws.one_value.Goals as goal

pub returns : goal.returns
returns g c k m deadline taken v w t x y le none hx hy =
    IsSettled-unique g.F.Field.zero g.F.Field.act k m deadline taken w t x y (IsSettled-stays g.F.Field.zero g.F.Field.act k m deadline taken v w t x le none hx) hy
