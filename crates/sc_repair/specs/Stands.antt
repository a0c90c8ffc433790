-- The histories that a repairer stands for, and what its answers say of them.
use Rattle.std.specs.Prelude.{◌≡◌, ℕ, ◌+◌, ◌<◌, ◌≤◌, Bool, true, false, List, length, Contains, Option, Some, None}
use Rattle.sc_field.specs.Gf256.{gf256_product}
use Rattle.sc_matrix.specs.Layout.{cut}
use Rattle.sc_echelon.specs.Knowledge.{IsSolution}
use Rattle.sc_code.specs.Code.{IsCode}
use Rattle.sc_code.specs.Stream.{IsBlock}
use Rattle.sc_slots.specs.Taken.{Taken, one_past, claimed, least_end, known_end, HaveFittingEnds}
use Rattle.sc_slots.specs.Repair.{IsRecovered, IsSettledAs, IsMissed, IsSettled}
use Rattle.sc_slots.specs.Rows.{HasSymbolsIn}
use Rattle.sc_slots.specs.History.{IsHistory}
use Rattle.sc_repair.specs.declared.repairer.Put.{Put}
use Rattle.sc_repair.specs.declared.repairer.Put.TheVariants.{Block, Missed}
use Rattle.sc_repair.specs.Repairer.{Repairer, places_for}

-- the end that is claimed, or else one above the greatest source slot taken, or 0
abbrev pub HasEnd : Bool → ℕ → List (Taken ℕ) → Type 0
HasEnd false end taken = (claimed taken ≡ None) × (least_end taken ≡ end)
HasEnd true end taken = claimed taken ≡ Some end

-- a taken slot is one of the repairer's width, by a code of its k, its r and at most its memory
pub record HasShape (s : Repairer) (slot : Taken ℕ) : Type 0 where
  pub is_code : IsCode (λ x. x < 256) slot.code
  pub symbols : slot.code.k ≡ s.k
  pub parities : slot.code.r ≡ s.r
  pub lags : length slot.code.lags ≤ s.memory + 1
  pub block : IsBlock s.k s.m slot.block
  pub parity : IsBlock s.r s.m slot.parity

-- The taken slots of a history that a repairer stands for. What it knows at its places is solved by the symbols of some
-- blocks exactly where a stream that fits the taken slots has these blocks there. Once the input is at its end, slots are
-- put out that needn't be settled; `put` counts those before.
pub record Stands (s : Repairer) (taken : List (Taken ℕ)) : Type 0 where
  pub put : ℕ
  pub put_before : put ≤ s.next
  pub is_put : s.finished ≡ false → put ≡ s.next
  pub history : IsHistory 0 gf256_product s.k s.m s.deadline s.memory taken s.passed put (s.front + places_for s.memory s.deadline) s.front (HasSymbolsIn s.k s.m (places_for s.memory s.deadline) (IsSolution gf256_product s.known))
  pub past : s.past ≡ one_past taken
  pub has_end : HasEnd s.is_claimed s.end taken
  pub fitting : HaveFittingEnds taken
  pub shapes : (slot : Taken ℕ) → Contains taken slot → HasShape s slot

-- what is put out next while the input goes on, where this is the block that is put out
abbrev pub IsNext : Repairer → List (Taken ℕ) → List ℕ → Option Put → Type 0
IsNext s taken block (Some (Block slot)) =
    (slot ≡ s.next) × IsSettledAs 0 gf256_product s.k s.m s.deadline taken s.passed s.next (cut s.k s.m block)
IsNext s taken block (Some (Missed slot)) = (slot ≡ s.next) × IsMissed 0 gf256_product s.k s.m s.deadline taken s.passed s.next
IsNext s taken block None =
    (value : Option (List (List ℕ))) → IsSettled 0 gf256_product s.k s.m s.deadline taken s.passed s.next value → ⊥

-- slot t isn't recovered
abbrev pub IsNotRecovered : Repairer → List (Taken ℕ) → ℕ → Type 0
IsNotRecovered s taken t = (b : List (List ℕ)) → IsRecovered 0 gf256_product s.k s.m s.deadline taken t b → ⊥

-- the slots from the next one to be put out up to t are passed over: none is recovered, and none lies below the known end
abbrev pub ArePassedOver : Repairer → List (Taken ℕ) → ℕ → Type 0
ArePassedOver s taken t = (i : ℕ) → s.next ≤ i → i < t → (known_end taken ≤ i) × IsNotRecovered s taken i

-- what is put out next once the input is at its end: the next slot up to the last taken one that is recovered or missed
abbrev pub IsLeft : Repairer → List (Taken ℕ) → List ℕ → Option Put → Type 0
IsLeft s taken block (Some (Block slot)) =
    (s.next ≤ slot) × (slot < one_past taken) × IsRecovered 0 gf256_product s.k s.m s.deadline taken slot (cut s.k s.m block)
    × ArePassedOver s taken slot
IsLeft s taken block (Some (Missed slot)) =
    (s.next ≤ slot) × (slot < known_end taken) × IsNotRecovered s taken slot × ArePassedOver s taken slot
IsLeft s taken block None = ArePassedOver s taken (one_past taken)

-- how far the next call is
abbrev pub OutCounts : Repairer → Repairer → Option Put → Type 0
OutCounts old new (Some (Block slot)) =
    (new ≡ record old { next = slot + 1; block = new.block }) × (old.next ≤ slot) × (slot < old.passed)
OutCounts old new (Some (Missed slot)) =
    (new ≡ record old { next = slot + 1; block = new.block }) × (old.next ≤ slot) × (slot < old.passed)
OutCounts old new None = (new ≡ record old { block = new.block }) × (old.finished ≡ false → old.passed ≤ old.next + old.deadline)
