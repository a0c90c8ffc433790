use Rattle.std.proofs.Common.{ℕ, ◌+◌, ◌<◌, ◌≤◌, List, length, map, get_or, true, All, ap, ◌∙◌, arith}
use Rattle.std.proofs.lemmas.List.{with_items_is}
use Rattle.std.proofs.lemmas.Simd.{get_or-replicate}
use Rattle.sc_field.specs.Terms.{sum_at}
use Rattle.sc_field.proofs.Sums.{get_or-whole}
use Rattle.sc_code.specs.declared.sum.Spot.{Spot}
use Rattle.sc_code.specs.Ring.{place_of}
use Rattle.sc_code.proofs.SumSteps.{All-unmap, spots_within, terms_within, sum_at-sum_of}
use Rattle.sc_code.proofs.sum.Sum.write.Goals as goal

pub place_terms-requires-clause-lags : goal.place_terms-requires-clause-lags
place_terms-requires-clause-lags g c =
    let ring = c.args.ring.now in
    let told : All (λ (s : Spot). (s.lag < length ring.places) × (s.at + length c.args.dst.now ≤ ring.size)) c.as_slice.result.now =
    rw c.as_slice.ensures.value
    (All-unmap (λ (spot : ℕ × ℕ). (spot.0 < length ring.places) × (spot.1 + length c.args.dst.now ≤ ring.size)) (λ (s : Spot). (s.lag, s.at)) c.self.inside.spots.items
    (rw (ap (λ s. s.spots) c.self.view_is) c.requires.within)) in
    λ k d lt. (told k d lt).0

pub place_terms-requires-clause-within : goal.place_terms-requires-clause-within
place_terms-requires-clause-within g c =
    let ring = c.args.ring.now in
    let told : All (λ (s : Spot). (s.lag < length ring.places) × (s.at + length c.args.dst.now ≤ ring.size)) c.as_slice.result.now =
    rw c.as_slice.ensures.value
    (All-unmap (λ (spot : ℕ × ℕ). (spot.0 < length ring.places) × (spot.1 + length c.args.dst.now ≤ ring.size)) (λ (s : Spot). (s.lag, s.at)) c.self.inside.spots.items
    (rw (ap (λ s. s.spots) c.self.view_is) c.requires.within)) in
    λ k d lt. let room = (told k d lt).1 in omega arith

pub combine-requires : goal.combine-requires
combine-requires g c =
    let ring = c.args.ring.now in
    let told : All (λ (s : Spot). (s.lag < length ring.places) × (s.at + length c.args.dst.now ≤ ring.size)) c.as_slice.result.now =
    rw c.as_slice.ensures.value
    (All-unmap (λ (spot : ℕ × ℕ). (spot.0 < length ring.places) × (spot.1 + length c.args.dst.now ≤ ring.size)) (λ (s : Spot). (s.lag, s.at)) c.self.inside.spots.items
    (rw (ap (λ s. s.spots) c.self.view_is) c.requires.within)) in
    let same = c.as_slice-2.ensures.value ∙ with_items_is c.self.inside.terms c.place_terms.new.terms (c.place_terms.auto.terms ∙ c.as_mut_slice.ensures.len) in
    rw (same, c.bytes.ensures.value)
    (terms_within (λ t. t.at) c.place_terms.new.terms c.as_slice.result.now (λ (s : Spot). place_of ring s.lag + s.at) (length c.args.dst.now) (length ring.bytes) c.place_terms.ensures.places
    (spots_within ring c.as_slice.result.now (λ (s : Spot). s.lag) (λ (s : Spot). s.at) (length c.args.dst.now) c.bytes.ensures.within told))

pub returns-clause-sum : goal.returns-clause-sum
returns-clause-sum g c x lt =
    let ring = c.args.ring.now in
    let act = g.F.Field.act in
    let terms = c.as_slice-2.result.now in
    let src = c.bytes.result.now in
    let n = length c.args.dst.now in
    let told : All (λ (s : Spot). (s.lag < length ring.places) × (s.at + length c.args.dst.now ≤ ring.size)) c.as_slice.result.now =
    rw c.as_slice.ensures.value
    (All-unmap (λ (spot : ℕ × ℕ). (spot.0 < length ring.places) × (spot.1 + length c.args.dst.now ≤ ring.size)) (λ (s : Spot). (s.lag, s.at)) c.self.inside.spots.items
    (rw (ap (λ s. s.spots) c.self.view_is) c.requires.within)) in
    let same = c.as_slice-2.ensures.value ∙ with_items_is c.self.inside.terms c.place_terms.new.terms (c.place_terms.auto.terms ∙ c.as_mut_slice.ensures.len) in
    ap (λ (xs : List ℕ). get_or xs x 0) c.combine.ensures
    ∙ get_or-whole (λ t. act t.multiplier.coefficient) (λ t. t.at) terms src true c.args.dst.now
    (rw (same, c.bytes.ensures.value)
    (terms_within (λ t. t.at) c.place_terms.new.terms c.as_slice.result.now (λ (s : Spot). place_of ring s.lag + s.at) (length c.args.dst.now) (length ring.bytes) c.place_terms.ensures.places
    (spots_within ring c.as_slice.result.now (λ (s : Spot). s.lag) (λ (s : Spot). s.at) (length c.args.dst.now) c.bytes.ensures.within told))) x lt
    ∙ ap (sum_at (λ t. act t.multiplier.coefficient) (λ t. t.at) terms src x) (get_or-replicate n x 0 0 lt)
    ∙ sum_at-sum_of act (λ t. t.multiplier.coefficient) (λ t. t.at) terms c.as_slice.result.now (λ (s : Spot). place_of ring s.lag + s.at) src x c.args.self.now (λ lag at. get_or ring.bytes (place_of ring lag + at + x) 0) (λ (s : Spot). (s.lag, s.at))
    (ap (map (λ t. t.at)) same ∙ c.place_terms.ensures.places)
    (ap (map (λ t. t.multiplier.coefficient)) same ∙ c.place_terms.ensures.coefficients ∙ ap (map (λ t. t.multiplier.coefficient)) c.as_mut_slice.ensures.value ∙ ap (λ s. s.coefficients) c.self.view_is)
    (ap (map (λ (s : Spot). (s.lag, s.at))) c.as_slice.ensures.value ∙ ap (λ s. s.spots) c.self.view_is)
    (λ s. ap (λ (bs : List ℕ). get_or bs (place_of ring s.lag + s.at + x) 0) c.bytes.ensures.value)
