use Rattle.std.proofs.Common.{◌≡◌, []}
use Rattle.sc_slots.specs.Kept.{taken_in, end_after, front_after, kept_after}
use Rattle.sc_slots.proofs.KeptLaws.{StandsFor-steps, IsClash-iff_none_kept}
use Rattle.sc_slots.proofs.repair_laws.clash_where_nothing_is_kept.Goals as goal

pub returns : goal.returns
returns g c k m steps slot w may below le lt e reach none =
    IsClash-iff_none_kept g.F.Field.zero g.F.Field.act k m (taken_in steps) slot w (end_after steps 0) (front_after steps 0)
    (kept_after g.F.Field.zero g.F.Field.act k m steps 0 (λ blocks. blocks ≡ [])) below le lt e reach none (StandsFor-steps g.F.Field.zero g.F.Field.act k m steps may)
