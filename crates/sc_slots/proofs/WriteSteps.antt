-- The parts of a slot's record, written one after the other.
use Rattle.std.proofs.Common.{◌≡◌, ℕ, List, ◌++◌, subst}
use Rattle.sc_outside.specs.Port.{Told}
use Rattle.sc_outside.specs.Whole.{PutsAll, WriteFailed}
use Rattle.sc_outside.proofs.WholeLaws.{PutsAll-trans, WriteFailed-first, WriteFailed-then}

module _ (head block parity all : List ℕ) (parts : head ++ (block ++ parity) ≡ all) where
  pub puts_three : (a b c d : Told) → PutsAll a b head → PutsAll b c block → PutsAll c d parity → PutsAll a d all
  puts_three a b c d p q t = subst (PutsAll a d) parts (PutsAll-trans a b d head (block ++ parity) p (PutsAll-trans b c d block parity q t))

  pub fails_first : (a b : Told) → WriteFailed a b head → WriteFailed a b all
  fails_first a b f = subst (WriteFailed a b) parts (WriteFailed-first a b head (block ++ parity) f)

  pub fails_second : (a b c : Told) → PutsAll a b head → WriteFailed b c block → WriteFailed a c all
  fails_second a b c p f =
      subst (WriteFailed a c) parts (WriteFailed-then a b c head (block ++ parity) p.puts (WriteFailed-first b c block parity f))

  pub fails_third : (a b c d : Told) → PutsAll a b head → PutsAll b c block → WriteFailed c d parity → WriteFailed a d all
  fails_third a b c d p q f =
      subst (WriteFailed a d) parts (WriteFailed-then a b d head (block ++ parity) p.puts (WriteFailed-then b c d block parity q.puts f))
