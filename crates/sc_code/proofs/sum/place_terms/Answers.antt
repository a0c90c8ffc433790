use Rattle.std.proofs.Common.{◌≡◌, ℕ, ◌+◌, ◌<◌, get_or, length, map, sym, ap, ◌∙◌, refl, arith}
use Rattle.std.proofs.Math.Seq.{map-set_same}
use Rattle.std.proofs.lemmas.List.{get_or-map, length-map}
use Rattle.sc_code.specs.Ring.{place_of}
use Rattle.sc_code.proofs.SumSteps.{placed_more, placed_all}
use Rattle.sc_code.proofs.sum.place_terms.Goals as goal

pub loop-x-preserved : goal.loop-x-preserved
loop-x-preserved g c =
    let x = c.loop-x.x in
    let ring = c.args.ring.now in
    let within : x < length c.args.spots.now = grind arith in (
      map-set_same (λ t. t.multiplier.coefficient) c.loop-x.terms x _ c.index-terms-x.result refl ∙ c.loop-x.invariant.0,
      placed_more (λ t. t.at) c.loop-x.terms (map (λ spot. place_of ring spot.lag + spot.at) c.args.spots.now) x _ (grind arith)
          (ap (λ (n : ℕ). n + (get_or c.args.spots.now x (record { lag = 0; at = 0 })).at) c.place.ensures.value
          ∙ sym (get_or-map (λ spot. place_of ring spot.lag + spot.at) c.args.spots.now x (record { lag = 0; at = 0 }) 0 within))
          c.loop-x.invariant.1,
    )

pub returns-clause-places : goal.returns-clause-places
returns-clause-places g c =
    let ring = c.args.ring.now in
    let spots = c.args.spots.now in
    let l : length (map (λ spot. place_of ring spot.lag + spot.at) spots) ≡ length spots = length-map spots (λ spot. place_of ring spot.lag + spot.at) in
    let same : length spots ≡ length c.loop-x.terms = grind arith in
    placed_all (λ t. t.at) c.loop-x.terms (map (λ spot. place_of ring spot.lag + spot.at) spots) c.loop-x.x (l ∙ same) (grind arith) c.loop-x.invariant.1
