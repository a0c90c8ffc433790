-- A slot that is taken: its shape, and what its equations say of the history.
use Rattle.std.proofs.Common.{◌≡◌, ℕ, ◌+◌, ◌-◌, ◌*◌, ◌<◌, ◌≤◌, Bool, true, false, List, [], ◌∷◌, ◌++◌, length, All, max, eqb, refl, sym, ap, ◌∙◌, subst, arith, inl, inr}
use Rattle.std.proofs.lemmas.Bool.{cases_lt, cases_eq, cond-true, cond-false, eq-eqb, ne_eqb}
use Rattle.sc_field.specs.Gf256.{gf256_product}
use Rattle.sc_matrix.specs.Module.{IsByte}
use Rattle.sc_matrix.specs.Layout.{cut}
use Rattle.sc_matrix.proofs.LayoutLaws.{length-cut, vectors-cut}
use Rattle.sc_echelon.specs.Knowledge.{Knowledge, IsSolution}
use Rattle.sc_code.specs.Code.{Code, IsCode}
use Rattle.sc_code.specs.Stream.{IsBlock}
use Rattle.sc_slots.specs.Slot.{Slot}
use Rattle.sc_slots.specs.Taken.{Taken, AllBelow, least_end, taken_slot}
use Rattle.std.proofs.lemmas.List.Elements.{Contains-append_right}
use Rattle.sc_slots.specs.Repair.{IsClash}
use Rattle.sc_repair.specs.Repairer.{Repairer, places_for, IsSound, FitsEnd}
use Rattle.sc_repair.specs.Stands.{Stands, HasShape, HasEnd}
use Rattle.sc_repair.specs.Equations.{LearnsSlot, RefusesSlot, at_block, at_parity, Learns, Refuses, HasSymbols}
use Rattle.sc_repair.proofs.StandsSteps.{meets_rows, refuses_block, refuses_parity, end_after_source, end_after_claim}
use Rattle.sc_repair.proofs.CallSteps.{Stands-clash, Stands-taken}

-- bytes cut into symbols are a block
pub block_of_bytes : (k m : ℕ) (bytes : List ℕ) → length bytes ≡ k * m → All IsByte bytes → IsBlock k m (cut k m bytes)
block_of_bytes k m bytes e h = record { width = length-cut k m bytes; entries = vectors-cut IsByte k m bytes e h }

module _ (s : Repairer) (code : Code ℕ) (slot : Slot) (is_code : IsCode IsByte code) (ek : code.k ≡ s.k) (er : code.r ≡ s.r) (lags : length code.lags ≤ s.memory + 1) (em : slot.m ≡ s.m) (block : length slot.block ≡ s.k * s.m) (parity : length slot.parity ≡ s.r * s.m) (block_bytes : All IsByte slot.block) (parity_bytes : All IsByte slot.parity) where
  abbrev it : Taken ℕ
  it = taken_slot code slot

  block_is : it.block ≡ cut s.k s.m slot.block
  block_is = ap (λ (k : ℕ). cut k slot.m slot.block) ek ∙ ap (λ (m : ℕ). cut s.k m slot.block) em

  parity_is : it.parity ≡ cut it.code.r s.m slot.parity
  parity_is = ap (λ (m : ℕ). cut code.r m slot.parity) em

  parity_cut : it.parity ≡ cut s.r s.m slot.parity
  parity_cut = parity_is ∙ ap (λ (r : ℕ). cut r s.m slot.parity) er

  shape : HasShape s it
  shape =
      record {
        is_code = is_code;
        symbols = ek;
        parities = er;
        lags = lags;
        block = subst (IsBlock s.k s.m) (sym block_is) (block_of_bytes s.k s.m slot.block block block_bytes);
        parity = subst (IsBlock s.r s.m) (sym parity_cut) (block_of_bytes s.r s.m slot.parity parity parity_bytes);
      }

  module _ (sound : IsSound s) (on : s.finished ≡ false) (near : s.passed ≤ s.next + s.deadline) (room : s.passed < s.front + places_for s.memory s.deadline) (number : slot.number ≡ s.passed) where
    pub clash_where_none : RefusesSlot s.known code s.m (places_for s.memory s.deadline) (s.passed - s.front) slot.block slot.parity → (taken : List (Taken ℕ)) → Stands s taken → IsClash 0 gf256_product s.k s.m (taken ++ it ∷ []) s.passed
    clash_where_none (at_block none) =
        Stands-clash s it shape sound on near room number
        (refuses_block s.k s.m (places_for s.memory s.deadline) (s.passed - s.front) it slot.block s.known block_is
        (subst (λ (k : ℕ). Refuses s.known (HasSymbols k s.m (places_for s.memory s.deadline) (s.passed - s.front) k slot.block)) ek none))
    clash_where_none (at_parity mid first none) =
        Stands-clash s it shape sound on near room number
        (refuses_parity s.k s.m (places_for s.memory s.deadline) (s.passed - s.front) it slot.block slot.parity s.known mid block_is parity_is
        (subst (λ (k : ℕ). Learns s.known mid (HasSymbols k s.m (places_for s.memory s.deadline) (s.passed - s.front) k slot.block)) ek first) none)

    pub taken_where_learned : (new : Knowledge ℕ) (is_claimed : Bool) (end : ℕ) → LearnsSlot s.known new code s.m (places_for s.memory s.deadline) (s.passed - s.front) slot.block slot.parity
        → new.cols ≡ places_for s.memory s.deadline * s.k → new.width ≡ s.m → ((symbols : List (List ℕ)) × IsSolution gf256_product new symbols)
        → FitsEnd s.is_claimed s.end slot.number slot.end → (taken : List (Taken ℕ)) → (HasEnd s.is_claimed s.end taken → HasEnd is_claimed end (taken ++ it ∷ [])) → Stands s taken
        → Stands (record s { passed = s.passed + 1; past = s.passed + 1; is_claimed = is_claimed; end = end; known = new }) (taken ++ it ∷ []) × (IsClash 0 gf256_product s.k s.m (taken ++ it ∷ []) s.passed → ⊥)
    taken_where_learned new is_claimed end learns cols width some fits taken ends h =
        Stands-taken s it shape sound on near room number new is_claimed end cols width some
        (meets_rows s.k s.m (places_for s.memory s.deadline) (s.passed - s.front) it slot.block slot.parity s.known learns.mid new ek block_is parity_is
        (subst (λ (k : ℕ). Learns s.known learns.mid (HasSymbols k s.m (places_for s.memory s.deadline) (s.passed - s.front) k slot.block)) ek learns.of_block) learns.of_parity)
        fits taken ends h

-- ---- the end after a slot

least_end-le : (taken : List (Taken ℕ)) (n : ℕ) → AllBelow taken n → least_end taken ≤ n
least_end-le [] n below = omega arith
least_end-le (slot ∷ taken) n below =
    let first : slot.number < n = below slot (0, omega arith, refl) in
    let rest : least_end taken ≤ n = least_end-le taken n (λ t x. below t (Contains-append_right (slot ∷ []) taken t x)) in
    elim (cases_eq slot.end 0) [
      | inl none ↦ (let e : least_end (slot ∷ taken) ≡ max (slot.number + 1) (least_end taken) = cond-true (eqb slot.end 0) (max (slot.number + 1) (least_end taken)) (least_end taken) (eq-eqb slot.end 0 none) in omega arith)
      | inr some ↦ (let e : least_end (slot ∷ taken) ≡ least_end taken = cond-false (eqb slot.end 0) (max (slot.number + 1) (least_end taken)) (least_end taken) (ne_eqb slot.end 0 some) in omega arith)
    ]

pub end_after : (is_claimed now_claimed : Bool) (end now : ℕ) (taken : List (Taken ℕ)) (slot : Taken ℕ) → AllBelow taken slot.number → FitsEnd is_claimed end slot.number slot.end
    → (slot.end ≡ 0 → (now ≡ slot.number + 1) × (now_claimed ≡ is_claimed)) → (0 < slot.end → (now ≡ slot.number + 1 - slot.end) × (now_claimed ≡ true))
    → HasEnd is_claimed end taken → HasEnd now_claimed now (taken ++ slot ∷ [])
end_after is_claimed now_claimed end now taken slot below fits of_source of_flush h =
    elim (cases_eq slot.end 0) [
      | inr some ↦
          let positive : 0 < slot.end = elim (cases_lt 0 slot.end) [ inl lt ↦ lt | inr le ↦ (let none : slot.end ≡ 0 = omega arith in absurd (some none)) ] in
          let to = of_flush positive in
          subst (λ (b : Bool). HasEnd b now (taken ++ slot ∷ [])) (sym to.1) (subst (λ (x : ℕ). HasEnd true x (taken ++ slot ∷ [])) (sym to.0) (end_after_claim is_claimed end taken slot positive fits h))
      | inl none ↦
          let to = of_source none in
          subst (λ (b : Bool). HasEnd b now (taken ++ slot ∷ [])) (sym to.1) (subst (λ (x : ℕ). HasEnd is_claimed x (taken ++ slot ∷ [])) (sym to.0) (go is_claimed none fits h))
    ] where
      go : (b : Bool) → slot.end ≡ 0 → FitsEnd b end slot.number slot.end → HasEnd b end taken → HasEnd b (slot.number + 1) (taken ++ slot ∷ [])
      go true none fit e = let some : 0 < slot.end = fit.0 in absurd (omega arith)
      go false none fit e = let l : least_end taken ≡ end = e.1 in let le = least_end-le taken slot.number below in end_after_source end taken slot none (omega arith) e
