use Rattle.std.proofs.Common.{◌≡◌, ◌+◌, ◌*◌, ◌++◌, length, map, drop}
use Rattle.sc_channel.specs.Flags.{set_count}
use Rattle.sc_window.specs.Window.{symbols_of, spelled}
use Rattle.sc_window.proofs.decide.spell.Given as goal

-- with what the slots left give these are the numbers of the whole stream
abbrev pub invariant-loop-t : goal.invariant-loop-t
invariant-loop-t g l = record {
  left : length l.vector ≡ l.from + l.k * set_count (drop l.t l.class);
  numbers : l.numbers.items ++ map g.F.Field.number (symbols_of (spelled g.F.Field.zero l.k (drop l.t l.class) (drop l.from l.vector)))
      ≡ map g.F.Field.number (symbols_of (spelled g.F.Field.zero l.k l.class l.vector));
}
