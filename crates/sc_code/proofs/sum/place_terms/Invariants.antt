use Rattle.std.proofs.Common.{◌≡◌, ℕ, ◌+◌, ◌<◌, get_or, map}
use Rattle.sc_code.specs.Ring.{place_of}
use Rattle.sc_code.proofs.sum.place_terms.Given as goal

abbrev pub invariant-loop-x : goal.invariant-loop-x
invariant-loop-x g l =
    (map (λ t. t.multiplier.coefficient) l.terms ≡ map (λ t. t.multiplier.coefficient) l.fn.terms)
    × ((y : ℕ) → y < l.x → get_or (map (λ t. t.at) l.terms) y 0 ≡ get_or (map (λ spot. place_of l.ring spot.lag + spot.at) l.spots) y 0)
