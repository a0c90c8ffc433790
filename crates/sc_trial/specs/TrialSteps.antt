-- What the parts of a trial do. For private contracts alone.
use Rattle.std.specs.Prelude.{◌≡◌, ℕ, ◌+◌, Bool, List, [], ◌∷◌, length, drop, nat_eq, Ok, IsOk, if◌then◌else◌}
use Rattle.std.specs.List.{starts_with}
use Rattle.sc_rtpdump.specs.declared.thin.Dropped.{Dropped}
use Rattle.sc_rtpdump.specs.Thin.{thinning}
use Rattle.sc_code.specs.declared.code.CodeFile.{CodeFile}
use Rattle.sc_slots.specs.Protected.{protecting}
use Rattle.sc_repair.specs.Repairing.{repairing}

-- a capture was protected
pub record ProtectsAs (file : CodeFile) (size : ℕ) (capture sent : List ℕ) : Type 0 where
  pub answered : IsOk ((protecting file size).whole capture).answer
  pub given : ((protecting file size).whole capture).text ≡ sent

-- its slots were thinned
pub record ThinsAs (flags : List Bool) (sent arrived : List ℕ) (dropped : Dropped) : Type 0 where
  pub answered : ((thinning flags).whole sent).answer ≡ Ok dropped
  pub given : ((thinning flags).whole sent).text ≡ arrived

-- what arrived was repaired
abbrev pub RepairsAs : CodeFile → List ℕ → List ℕ → Type 0
RepairsAs file arrived back = ((repairing file).whole arrived).text ≡ back

-- how many of these pieces come back, where some of them stand one after the other, in their order
abbrev pub back_count : List (List ℕ) → List ℕ → ℕ
back_count [] back = 0
back_count (piece ∷ pieces) back =
    if starts_with nat_eq back piece then 1 + back_count pieces (drop (length piece) back) else back_count pieces back
