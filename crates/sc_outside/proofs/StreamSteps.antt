-- Calls that were interrupted, and then one that wasn't.
use Rattle.std.proofs.Common.{ℕ, List, None, Some, Option, sym, ◌∙◌}
use Rattle.std.specs.Io.KnownBytes.{Keeps, Consumes, Appends}
use Rattle.std.proofs.KnownBytes.{Keeps-refl, Keeps-trans}

pub Keeps-Consumes : (a b c : Option (List ℕ)) (bs : List ℕ) → Keeps a b → Consumes b c bs → Consumes a c bs
Keeps-Consumes None b c bs k h = tt
Keeps-Consumes (Some x) None c bs k h = absurd k
Keeps-Consumes (Some x) (Some y) None bs k h = absurd h
Keeps-Consumes (Some x) (Some y) (Some z) bs k h = sym k ∙ h

pub Keeps-Appends : (a b c : Option (List ℕ)) (bs : List ℕ) → Keeps a b → Appends b c bs → Appends a c bs
Keeps-Appends None b c bs k h = tt
Keeps-Appends (Some x) None c bs k h = absurd k
Keeps-Appends (Some x) (Some y) None bs k h = absurd h
Keeps-Appends (Some x) (Some y) (Some z) bs k h = cc

pub ruleset interrupted = (Keeps-refl, Keeps-trans, Keeps-Consumes, Keeps-Appends)
