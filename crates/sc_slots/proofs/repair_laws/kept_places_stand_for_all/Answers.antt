use Rattle.std.proofs.Common.{◌≡◌, []}
use Rattle.sc_slots.specs.Kept.{taken_in, end_after, front_after, kept_after}
use Rattle.sc_slots.proofs.KeptLaws.{StandsFor-steps, AllHave-iff_kept}
use Rattle.sc_slots.proofs.repair_laws.kept_places_stand_for_all.Goals as goal

pub returns : goal.returns
returns g c = record {
  stands = StandsFor-steps g.F.Field.zero g.F.Field.act;
  told = λ k m steps t b may.
      AllHave-iff_kept g.F.Field.zero g.F.Field.act k m (taken_in steps) (end_after steps 0) (front_after steps 0) t b
      (kept_after g.F.Field.zero g.F.Field.act k m steps 0 (λ blocks. blocks ≡ [])) (StandsFor-steps g.F.Field.zero g.F.Field.act k m steps may);
}
