-- What a port's moments have to do with each other: nothing moved, one call, and one stretch after another.
use Rattle.std.proofs.Common.{◌≡◌, ℕ, List, [], ◌++◌, length, take, Option, refl, sym, ◌∙◌, subst, arith, length-append, length-take}
use Rattle.std.specs.Io.KnownBytes.{Consumes, Appends}
use Rattle.std.proofs.KnownBytes.{Consumes-nil, Consumes-kept, Consumes-trans, Appends-nil, Appends-kept, Appends-trans}
use Rattle.sc_outside.specs.Port.{Told, MovesIn, MovesOut, ReadFails, WriteFails, Moves, Takes, Puts}
use Rattle.sc_outside.proofs.JournalSteps.{Logs-none, Logs-read, Logs-written, Logs-trans}

same_left : (a b : Option (List ℕ)) → b ≡ a → Consumes a b []
same_left a b e = subst (λ x. Consumes a x []) (sym e) (Consumes-nil a)

same_given : (a b : Option (List ℕ)) → b ≡ a → Appends a b []
same_given a b e = subst (λ x. Appends a x []) (sym e) (Appends-nil a)

pub Moves-none : (a : Told) → Moves a a [] []
Moves-none a = record {
  left = Consumes-nil _;
  given = Appends-nil _;
  journal = Logs-none _ _ refl;
  read_faults = omega arith;
  write_faults = omega arith;
}

pub Moves-trans : (a b c : Told) (t u p q : List ℕ) → Moves a b t p → Moves b c u q → Moves a c (t ++ u) (p ++ q)
Moves-trans a b c t u p q x y = record {
  left = Consumes-trans _ _ _ t u x.left y.left;
  given = Appends-trans _ _ _ p q x.given y.given;
  journal = rw (length-append t u, length-append p q) (Logs-trans _ _ _ (length t) (length p) (length u) (length q) x.journal y.journal);
  read_faults = omega arith;
  write_faults = omega arith;
}

pub Takes-none : (a : Told) → Takes a a []
Takes-none a = record { moves = Moves-none a; given = refl; write_faults = refl }

pub Takes-trans : (a b c : Told) (t u : List ℕ) → Takes a b t → Takes b c u → Takes a c (t ++ u)
Takes-trans a b c t u x y = record {
  moves = Moves-trans a b c t u [] [] x.moves y.moves;
  given = y.given ∙ x.given;
  write_faults = y.write_faults ∙ x.write_faults;
}

pub Puts-none : (a : Told) → Puts a a []
Puts-none a = record { moves = Moves-none a; left = refl; read_faults = refl }

pub Puts-trans : (a b c : Told) (p q : List ℕ) → Puts a b p → Puts b c q → Puts a c (p ++ q)
Puts-trans a b c p q x y = record {
  moves = Moves-trans a b c [] [] p q x.moves y.moves;
  left = y.left ∙ x.left;
  read_faults = y.read_faults ∙ x.read_faults;
}

-- one read
pub Takes-one : (a b : Told) (n : ℕ) (buf : List ℕ) → MovesIn a b n buf → Takes a b (take n buf)
Takes-one a b n buf h =
    let size : length (take n buf) ≡ n = omega (arith, length-take n buf, h.bound) in
    record {
      moves = record {
        left = h.left;
        given = same_given _ _ h.given;
        journal = rw size (Logs-read _ _ n h.journal);
        read_faults = omega (arith, h.read_faults);
        write_faults = omega (arith, h.write_faults);
      };
      given = h.given;
      write_faults = h.write_faults;
    }

-- one write
pub Puts-one : (a b : Told) (n : ℕ) (piece : List ℕ) → MovesOut a b n piece → Puts a b (take n piece)
Puts-one a b n piece h =
    let size : length (take n piece) ≡ n = omega (arith, length-take n piece, h.bound) in
    record {
      moves = record {
        left = same_left _ _ h.left;
        given = h.given;
        journal = rw size (Logs-written _ _ n h.journal);
        read_faults = omega (arith, h.read_faults);
        write_faults = omega (arith, h.write_faults);
      };
      left = h.left;
      read_faults = h.read_faults;
    }

-- a read that failed
pub Takes-failed : (a b : Told) → ReadFails a b → Takes a b []
Takes-failed a b h = record {
  moves = record {
    left = Consumes-kept _ _ _ [] (Consumes-nil _) h.left;
    given = same_given _ _ h.given;
    journal = Logs-none _ _ h.journal;
    read_faults = omega (arith, h.rose);
    write_faults = omega (arith, h.write_faults);
  };
  given = h.given;
  write_faults = h.write_faults;
}

-- a write that failed
pub Puts-failed : (a b : Told) → WriteFails a b → Puts a b []
Puts-failed a b h = record {
  moves = record {
    left = same_left _ _ h.left;
    given = Appends-kept _ _ _ [] (Appends-nil _) h.given;
    journal = Logs-none _ _ h.journal;
    read_faults = omega (arith, h.read_faults);
    write_faults = omega (arith, h.rose);
  };
  left = h.left;
  read_faults = h.read_faults;
}
