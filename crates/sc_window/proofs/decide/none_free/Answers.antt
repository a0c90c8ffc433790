use Rattle.std.proofs.Common.{refl, arith}
use Rattle.sc_window.proofs.decide.none_free.Goals as goal

pub returns : goal.returns
returns g c = (λ yes col lt. c.loop-col.invariant col (omega arith), λ none. refl)
