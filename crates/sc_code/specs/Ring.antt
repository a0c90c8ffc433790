-- The last blocks of a stream as they lie in memory: side by side, each at a place of its own.
use Rattle.std.specs.Prelude.{ℕ, ◌+◌, ◌-◌, ◌≤◌, ◌⊎◌, ⊤, List, [], ◌∷◌, length, map, take, drop, All, slice_index, refl}
use Rattle.std.specs.Coded.{Coded, code_by, coded×, coded_ℕ, coded_list}

-- blocks of `size` bytes, and the places where they begin, the oldest block first
pub record Ring : Type 0 where
  pub size : ℕ
  pub bytes : List ℕ
  pub places : List ℕ

-- a ring is stored as the tuple of its fields
abbrev pub ring_code : Coded Ring
ring_code =
    code_by (ℕ × (List ℕ × List ℕ)) (coded× coded_ℕ (coded× (coded_list coded_ℕ) (coded_list coded_ℕ))) (λ r. (r.size, (r.bytes, r.places)))
    (λ p. record { size = p.0; bytes = p.1.0; places = p.1.1 }) (λ _. refl)

-- the blocks, the oldest first
abbrev pub blocks_of : Ring → List (List ℕ)
blocks_of r = map (λ place. take r.size (drop place r.bytes)) r.places

-- the place of the block that is `lag` blocks older than the newest
abbrev pub place_of : Ring → ℕ → ℕ
place_of r lag = slice_index r.places (length r.places - 1 - lag)

-- two blocks don't overlap
abbrev pub IsApart : ℕ → ℕ → ℕ → Type 0
IsApart size p q = (p + size ≤ q) ⊎ (q + size ≤ p)

-- no two blocks overlap
abbrev pub AreApart : ℕ → List ℕ → Type 0
AreApart size [] = ⊤
AreApart size (p ∷ ps) = All (IsApart size p) ps × AreApart size ps

-- there is a block, each lies within the bytes, and none overlaps another
pub record IsRing (r : Ring) : Type 0 where
  pub some : 1 ≤ length r.places
  pub within : All (λ place. place + r.size ≤ length r.bytes) r.places
  pub apart : AreApart r.size r.places
