-- Parts of a piece that are written one after the other.
use Rattle.std.proofs.Common.{ℕ, List, [], ◌++◌, refl, sym, ap, ◌∙◌, arith, length-append, append_assoc}
use Rattle.sc_outside.specs.Port.{Told, Puts}
use Rattle.sc_outside.specs.Whole.{PutsAll, WriteFailed}
use Rattle.sc_outside.proofs.FaultsLaws.{Rose-earlier}
use Rattle.sc_outside.proofs.MovesLaws.{Puts-none, Puts-trans}

-- a write failed within the first part
pub WriteFailed-first : (old new : Told) (a b : List ℕ) → WriteFailed old new a → WriteFailed old new (a ++ b)
WriteFailed-first old new a b h = record {
  put = h.put;
  rest = h.rest ++ b;
  parts = ap (λ l. l ++ b) h.parts ∙ append_assoc h.put h.rest b;
  short = omega (arith, length-append h.rest b, h.short);
  puts = h.puts;
  rose = h.rose;
}

-- a write failed after the first part
pub WriteFailed-then : (old mid new : Told) (a b : List ℕ) → Puts old mid a → WriteFailed mid new b → WriteFailed old new (a ++ b)
WriteFailed-then old mid new a b p h = record {
  put = a ++ h.put;
  rest = h.rest;
  parts = ap (λ l. a ++ l) h.parts ∙ sym (append_assoc a h.put h.rest);
  short = h.short;
  puts = Puts-trans old mid new a h.put p h.puts;
  rose = Rose-earlier _ _ _ p.moves.write_faults h.rose;
}

-- no bytes are written by no call
pub PutsAll-none : (a : Told) → PutsAll a a []
PutsAll-none a = record { puts = Puts-none a; write_faults = refl }

pub PutsAll-trans : (a b c : Told) (p q : List ℕ) → PutsAll a b p → PutsAll b c q → PutsAll a c (p ++ q)
PutsAll-trans a b c p q x y = record { puts = Puts-trans a b c p q x.puts y.puts; write_faults = y.write_faults ∙ x.write_faults }
