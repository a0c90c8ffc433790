use Rattle.std.proofs.Common.{◌≡◌, map, drop}
use Rattle.sc_codefile.specs.Value.{is_among}
use Rattle.sc_codefile.proofs.numbers.is_among.Given as goal

abbrev pub invariant-loop-known : goal.invariant-loop-known
invariant-loop-known l =
    is_among (map (λ key. key.now) l.keys) l.key ≡ is_among (map (λ key. key.now) (drop l.known-index l.keys)) l.key
