-- A repairer, call by call: the history that it stands for goes on.
use Rattle.std.proofs.Common.{◌≡◌, ℕ, ◌+◌, ◌-◌, ◌*◌, ◌<◌, ◌≤◌, ◌↔◌, Bool, true, false, List, [], ◌∷◌, ◌++◌, length, get_or, max, nat_eq, eqb, if◌then◌else◌, Some, None, take, All, refl, sym, ap, ap₂, ◌∙◌, subst, arith, inl, inr}
use Rattle.std.proofs.lemmas.Bool.{cases_lt, cond-true, cond-false, eq-eqb, ne_eqb}
use Rattle.std.proofs.lemmas.List.{length-append, get_or_append_left, get_or_at, take-append-le, take_at}
use Rattle.std.proofs.Math.Nat.{mul_comm, mul-sub}
use Rattle.sc_field.specs.Laws.Gf256Laws.{gf256_field, gf256_action}
use Rattle.sc_field.specs.Gf256.{gf256_product}
use Rattle.sc_matrix.specs.Module.{IsByte}
use Rattle.sc_matrix.specs.Vector.{IsVector}
use Rattle.sc_matrix.specs.Layout.{cut}
use Rattle.sc_echelon.specs.Knowledge.{Knowledge, IsSolution, IsBytes, Forgets}
use Rattle.sc_code.specs.Code.{IsCode}
use Rattle.sc_code.specs.Stream.{IsBlock, IsStream}
use Rattle.sc_slots.specs.Taken.{Taken, HasFittingEnd, source, first_claim, same_claim, HaveFittingEnds, least_end}
use Rattle.sc_slots.specs.Repair.{IsClash}
use Rattle.sc_slots.proofs.EndLaws.{least_end-push, claimed-push_after, claimed-push_first}
use Rattle.sc_slots.specs.Kept.{IsAfterFree, IsAfterTake, IsAfterForget}
use Rattle.sc_slots.specs.History.{next_front, IsHistory}
use Rattle.sc_slots.specs.Rows.{symbols_of, blocks_of, HasSymbolsIn, MeetsRows}
use Rattle.sc_slots.proofs.HistoryLaws.{IsHistory-start, IsHistory-same, IsHistory-forget, IsHistory-free, IsHistory-take, IsClash-iff_empty}
use Rattle.sc_slots.proofs.SymbolLaws.{after_forgetting_symbols}
use Rattle.sc_slots.proofs.ColumnLaws.{HasSymbolsIn-any, HasSymbolsIn-blocks_of, after_adding_rows}
use Rattle.sc_repair.specs.Repairer.{FitsEnd}
use Rattle.sc_repair.specs.Stands.{HasEnd}
use Rattle.sc_repair.specs.Equations.{Learns, Refuses, HasSymbols, HasParities}

sub_mul : (n c k : ℕ) → (n - c) * k ≡ n * k - c * k
sub_mul n c k = mul_comm (n - c) k ∙ mul-sub k n c ∙ ap₂ (λ (a b : ℕ). a - b) (mul_comm k n) (mul_comm k c)

-- ---- the sets of lists of symbols

-- a list of so many symbols of m bytes is one of byte strings
as_values : (m n cols w : ℕ) (symbols : List (List ℕ)) → cols ≡ n → w ≡ m → length symbols ≡ n → All (IsVector IsByte m) symbols → IsVector (IsBytes w) cols symbols
as_values m n cols w symbols ec ew e h =
    subst (λ (x : ℕ). IsVector (IsBytes x) cols symbols) (sym ew) (record { width = e ∙ sym ec; entries = h })

module _ (deadline memory : ℕ) where
  -- ---- at the start

  pub history_at_start : (k m n : ℕ) (known : Knowledge ℕ) → ((symbols : List (List ℕ)) → IsVector (IsBytes m) (n * k) symbols → IsSolution gf256_product known symbols) → IsHistory 0 gf256_product k m deadline memory [] 0 0 (0 + n) 0 (HasSymbolsIn k m n (IsSolution gf256_product known))
  history_at_start k m n known any =
      let place : n ≡ 0 + n = omega arith in
      subst (λ (v : ℕ). IsHistory 0 gf256_product k m deadline memory [] 0 0 v 0 (HasSymbolsIn k m n (IsSolution gf256_product known))) place
      (IsHistory-same 0 gf256_product k m deadline memory [] 0 0 n 0 (λ blocks. IsStream k m blocks × (length blocks ≡ n)) (HasSymbolsIn k m n (IsSolution gf256_product known))
      (HasSymbolsIn-any k m n (IsSolution gf256_product known) (λ symbols count h. any symbols (record { width = count; entries = h })))
      (IsHistory-start 0 gf256_product k m deadline memory n))

  -- ---- places are given up

  pub history_given_up : (k m n c : ℕ) (old new : Knowledge ℕ) (taken : List (Taken ℕ)) (w p front : ℕ) → old.cols ≡ n * k → old.width ≡ m → c ≤ n → front + c ≤ next_front memory w p → Forgets gf256_product (c * k) old new
      → IsHistory 0 gf256_product k m deadline memory taken w p (front + n) front (HasSymbolsIn k m n (IsSolution gf256_product old))
      → IsHistory 0 gf256_product k m deadline memory taken w p ((front + c) + n) (front + c) (HasSymbolsIn k m n (IsSolution gf256_product new))
  history_given_up k m n c old new taken w p front cols width le within forgets h =
      let sets = IsSolution gf256_product in
      let less : old.cols - c * k ≡ (n - c) * k = ap (λ (x : ℕ). x - c * k) cols ∙ sym (sub_mul n c k) in
      let same : (blocks : List (List (List ℕ))) → HasSymbolsIn k m n (IsSolution gf256_product new) blocks ↔ IsAfterFree k m c (IsAfterForget c (HasSymbolsIn k m n (IsSolution gf256_product old))) blocks =
      after_forgetting_symbols k m n c (IsSolution gf256_product old) (IsSolution gf256_product new) le (λ symbols count hs.
      let both = forgets symbols (as_values m (n * k) old.cols old.width symbols cols width count hs) in (
        λ x.
            let us = both.0 x in
            (us.0, us.1.width, subst (λ (v : ℕ). All (IsVector IsByte v) us.0) width us.1.entries, subst (λ (v : ℕ). IsSolution gf256_product old (us.0 ++ take v symbols)) less us.2),
        λ x. both.1 (x.0, as_values m (c * k) (c * k) old.width x.0 refl width x.1 x.2, subst (λ (v : ℕ). IsSolution gf256_product old (x.0 ++ take v symbols)) (sym less) x.3),
      )) in
      let place : (front + n) + c ≡ (front + c) + n = omega arith in
      subst (λ (v : ℕ). IsHistory 0 gf256_product k m deadline memory taken w p v (front + c) (HasSymbolsIn k m n (IsSolution gf256_product new))) place
      (IsHistory-same 0 gf256_product k m deadline memory taken w p ((front + n) + c) (front + c) (IsAfterFree k m c (IsAfterForget c (HasSymbolsIn k m n (IsSolution gf256_product old)))) (HasSymbolsIn k m n (IsSolution gf256_product new))
      (λ blocks. ((same blocks).1, (same blocks).0))
      (IsHistory-free 0 gf256_product k m deadline memory taken w p (front + n) (front + c) c (IsAfterForget c (HasSymbolsIn k m n (IsSolution gf256_product old)))
      (IsHistory-forget 0 gf256_product k m deadline memory taken w p (front + n) front c (HasSymbolsIn k m n (IsSolution gf256_product old)) within h)))

  -- ---- slot w is taken

  -- the slot's rows cut what is kept
  sets_after_taking : (m n : ℕ) (slot : Taken ℕ) (place : ℕ) (old new : Knowledge ℕ) → place < n → IsCode IsByte slot.code → IsBlock slot.code.k m slot.block → IsBlock slot.code.r m slot.parity
      → ((symbols : List (List ℕ)) → IsSolution gf256_product new symbols ↔ (IsSolution gf256_product old symbols × MeetsRows 0 1 gf256_product slot.code.k m n slot place symbols))
      → (blocks : List (List (List ℕ))) → IsAfterTake 0 gf256_product m slot place (HasSymbolsIn slot.code.k m n (IsSolution gf256_product old)) blocks ↔ HasSymbolsIn slot.code.k m n (IsSolution gf256_product new) blocks
  sets_after_taking m n slot place old new lt hc hb hp learns blocks =
      let both = after_adding_rows gf256_field gf256_action m n slot place (IsSolution gf256_product old) blocks hc hb hp lt in (
        λ x. (let y = both.1 x in record { is_stream = y.is_stream; count = y.count; is_in = (learns (symbols_of blocks)).1 y.is_in }),
        λ x. both.0 (record { is_stream = x.is_stream; count = x.count; is_in = (learns (symbols_of blocks)).0 x.is_in }),
      )

  pub history_taken : (m n : ℕ) (slot : Taken ℕ) (old new : Knowledge ℕ) (taken : List (Taken ℕ)) (w p front : ℕ) → slot.number ≡ w → w < front + n → front ≤ w → length slot.code.lags ≤ memory + 1 → w ≤ p + deadline
      → IsCode IsByte slot.code → IsBlock slot.code.k m slot.block → IsBlock slot.code.r m slot.parity → new.cols ≡ n * slot.code.k → new.width ≡ m → ((symbols : List (List ℕ)) × IsSolution gf256_product new symbols)
      → ((symbols : List (List ℕ)) → IsSolution gf256_product new symbols ↔ (IsSolution gf256_product old symbols × MeetsRows 0 1 gf256_product slot.code.k m n slot (slot.number - front) symbols))
      → IsHistory 0 gf256_product slot.code.k m deadline memory taken w p (front + n) front (HasSymbolsIn slot.code.k m n (IsSolution gf256_product old))
      → IsHistory 0 gf256_product slot.code.k m deadline memory (taken ++ slot ∷ []) (w + 1) p (front + n) front (HasSymbolsIn slot.code.k m n (IsSolution gf256_product new))
      × (IsClash 0 gf256_product slot.code.k m (taken ++ slot ∷ []) w → ⊥)
  history_taken m n slot old new taken w p front number room from lags near hc hb hp cols width some learns h =
      let k = slot.code.k in
      let same = sets_after_taking m n slot (slot.number - front) old new (omega arith) hc hb hp learns in
      let values = some.1.values in
      let found = HasSymbolsIn-blocks_of slot.code.k m n (IsSolution gf256_product new) some.0 (values.width ∙ cols) (subst (λ (v : ℕ). All (IsVector IsByte v) some.0) width values.entries) some.1 in
      let it = (same (blocks_of slot.code.k n some.0)).1 found in (
        IsHistory-same 0 gf256_product slot.code.k m deadline memory (taken ++ slot ∷ []) (w + 1) p (front + n) front (IsAfterTake 0 gf256_product m slot (slot.number - front) (HasSymbolsIn slot.code.k m n (IsSolution gf256_product old))) (HasSymbolsIn slot.code.k m n (IsSolution gf256_product new)) same
            (IsHistory-take 0 gf256_product slot.code.k m deadline memory taken slot w p (front + n) front (HasSymbolsIn slot.code.k m n (IsSolution gf256_product old)) near room number lags h (blocks_of slot.code.k n some.0) it),
        λ clash. (IsClash-iff_empty 0 gf256_product slot.code.k m deadline memory taken slot w p (front + n) front (HasSymbolsIn slot.code.k m n (IsSolution gf256_product old)) room number lags h).0 clash (blocks_of slot.code.k n some.0) it,
      )

  pub clash_where_refused : (m n : ℕ) (slot : Taken ℕ) (old : Knowledge ℕ) (taken : List (Taken ℕ)) (w p front : ℕ) → slot.number ≡ w → w < front + n → front ≤ w → length slot.code.lags ≤ memory + 1
      → IsCode IsByte slot.code → IsBlock slot.code.k m slot.block → IsBlock slot.code.r m slot.parity
      → ((symbols : List (List ℕ)) → IsSolution gf256_product old symbols → MeetsRows 0 1 gf256_product slot.code.k m n slot (slot.number - front) symbols → ⊥)
      → IsHistory 0 gf256_product slot.code.k m deadline memory taken w p (front + n) front (HasSymbolsIn slot.code.k m n (IsSolution gf256_product old))
      → IsClash 0 gf256_product slot.code.k m (taken ++ slot ∷ []) w
  clash_where_refused m n slot old taken w p front number room from lags hc hb hp refuses h =
      (IsClash-iff_empty 0 gf256_product slot.code.k m deadline memory taken slot w p (front + n) front (HasSymbolsIn slot.code.k m n (IsSolution gf256_product old)) room number lags h).1 (λ blocks x.
      let y = (after_adding_rows gf256_field gf256_action m n slot (slot.number - front) (IsSolution gf256_product old) blocks hc hb hp (omega arith)).1 x in
      refuses (symbols_of blocks) y.is_in.0 y.is_in.1)

-- the first rows and then those of the parity
pub meets_rows : (k m n place : ℕ) (slot : Taken ℕ) (block parity : List ℕ) (old mid new : Knowledge ℕ) → slot.code.k ≡ k → slot.block ≡ cut k m block → slot.parity ≡ cut slot.code.r m parity
    → Learns old mid (HasSymbols k m n place k block) → Learns mid new (HasParities slot.code m n place slot.code.r parity)
    → (symbols : List (List ℕ)) → IsSolution gf256_product new symbols ↔ (IsSolution gf256_product old symbols × MeetsRows 0 1 gf256_product k m n slot place symbols)
meets_rows k m n place slot block parity old mid new ek eb ep first last symbols = (
  λ x.
      let y = (last symbols).0 x in
      let z = (first symbols).0 y.0 in (
        z.0,
        record {
          of_block = λ i hi. z.1 i hi ∙ ap (λ (b : List (List ℕ)). get_or b i []) (sym eb);
          of_parity = λ j hj. y.1 j hj ∙ ap (λ (b : List (List ℕ)). get_or b j []) (sym ep);
        },
      ),
  λ x. (last symbols).1 (
    (first symbols).1 (x.0, λ i hi. x.1.of_block i hi ∙ ap (λ (b : List (List ℕ)). get_or b i []) eb),
    λ j hj. x.1.of_parity j hj ∙ ap (λ (b : List (List ℕ)). get_or b j []) ep,
  ),
)

pub refuses_block : (k m n place : ℕ) (slot : Taken ℕ) (block : List ℕ) (old : Knowledge ℕ) → slot.block ≡ cut k m block → Refuses old (HasSymbols k m n place k block)
    → (symbols : List (List ℕ)) → IsSolution gf256_product old symbols → MeetsRows 0 1 gf256_product k m n slot place symbols → ⊥
refuses_block k m n place slot block old eb none symbols s x = none symbols s (λ i hi. x.of_block i hi ∙ ap (λ (b : List (List ℕ)). get_or b i []) eb)

pub refuses_parity : (k m n place : ℕ) (slot : Taken ℕ) (block parity : List ℕ) (old mid : Knowledge ℕ) → slot.block ≡ cut k m block → slot.parity ≡ cut slot.code.r m parity
    → Learns old mid (HasSymbols k m n place k block) → Refuses mid (HasParities slot.code m n place slot.code.r parity)
    → (symbols : List (List ℕ)) → IsSolution gf256_product old symbols → MeetsRows 0 1 gf256_product k m n slot place symbols → ⊥
refuses_parity k m n place slot block parity old mid eb ep first none symbols s x =
    none symbols ((first symbols).1 (s, λ i hi. x.of_block i hi ∙ ap (λ (b : List (List ℕ)). get_or b i []) eb)) (λ j hj. x.of_parity j hj ∙ ap (λ (b : List (List ℕ)). get_or b j []) ep)

-- ---- the ends

pub FitsEnd-iff_fitting : (is_claimed : Bool) (end : ℕ) (taken : List (Taken ℕ)) (slot : Taken ℕ) → HasEnd is_claimed end taken → FitsEnd is_claimed end slot.number slot.end ↔ HasFittingEnd taken slot
FitsEnd-iff_fitting true known taken slot e = (
  λ x. same_claim x.0 (e ∙ ap Some (sym x.1)),
  λ x. elim x [
    | source none free ↦ absurd (let other : Some known ≡ None = sym e ∙ free in cc)
    | first_claim some free le ↦ absurd (let other : Some known ≡ None = sym e ∙ free in cc)
    | same_claim some it ↦ (some, let both : Some known ≡ Some (slot.number + 1 - slot.end) = sym e ∙ it in cc)
  ],
)
FitsEnd-iff_fitting false least taken slot e = (
  λ x. elim x [
    | inl none ↦ source none e.0
    | inr claims ↦ (let some : 0 < slot.end = claims.0 in let le : least ≤ slot.number + 1 - slot.end = claims.1 in let l : least_end taken ≡ least = e.1 in first_claim claims.0 e.0 (omega arith))
  ],
  λ x. elim x [
    | source none free ↦ inl none
    | first_claim some free le ↦ (let l : least_end taken ≡ least = e.1 in inr (some, omega arith))
    | same_claim some it ↦ absurd (let other : None ≡ Some (slot.number + 1 - slot.end) = sym e.0 ∙ it in cc)
  ],
)

pub fitting-push : (taken : List (Taken ℕ)) (slot : Taken ℕ) → HaveFittingEnds taken → HasFittingEnd taken slot → HaveFittingEnds (taken ++ slot ∷ [])
fitting-push taken slot all last i d lt =
    elim (cases_lt i (length taken)) [
      | inl low ↦
          subst (λ (s : Taken ℕ). HasFittingEnd (take i (taken ++ slot ∷ [])) s) (sym (get_or_append_left taken (slot ∷ []) d i low))
          (subst (λ (l : List (Taken ℕ)). HasFittingEnd l (get_or taken i d)) (sym (take-append-le i taken (slot ∷ []) (omega arith))) (all i d low))
      | inr high ↦
          let here : length taken ≡ i = omega (arith, length-append taken (slot ∷ [])) in
          subst (λ (x : ℕ). HasFittingEnd (take x (taken ++ slot ∷ [])) (get_or (taken ++ slot ∷ []) x d)) here
          (subst (λ (s : Taken ℕ). HasFittingEnd (take (length taken) (taken ++ slot ∷ [])) s) (sym (get_or_at taken slot [] d (length taken) refl))
          (subst (λ (l : List (Taken ℕ)). HasFittingEnd l slot) (sym (take_at taken (slot ∷ []) (length taken) refl)) last))
    ]

-- the end after a slot that fits
pub end_after_source : (end : ℕ) (taken : List (Taken ℕ)) (slot : Taken ℕ) → slot.end ≡ 0 → end ≤ slot.number + 1 → HasEnd false end taken → HasEnd false (slot.number + 1) (taken ++ slot ∷ [])
end_after_source end taken slot e le h =
    let l : least_end taken ≡ end = h.1 in
    let here : (if nat_eq slot.end 0 then slot.number + 1 else 0) ≡ slot.number + 1 = cond-true (eqb slot.end 0) (slot.number + 1) 0 (eq-eqb slot.end 0 e) in (
      claimed-push_first taken slot h.0 ∙ cond-true (eqb slot.end 0) None (Some (slot.number + 1 - slot.end)) (eq-eqb slot.end 0 e),
      least_end-push taken slot ∙ ap (max (least_end taken)) here ∙ omega arith,
    )

pub end_after_claim : (is_claimed : Bool) (end : ℕ) (taken : List (Taken ℕ)) (slot : Taken ℕ) → 0 < slot.end → FitsEnd is_claimed end slot.number slot.end → HasEnd is_claimed end taken → HasEnd true (slot.number + 1 - slot.end) (taken ++ slot ∷ [])
end_after_claim true known taken slot some fits h = claimed-push_after taken slot (slot.number + 1 - slot.end) (h ∙ ap Some (sym fits.1))
end_after_claim false least taken slot some fits h =
    claimed-push_first taken slot h.0 ∙ cond-false (eqb slot.end 0) None (Some (slot.number + 1 - slot.end)) (ne_eqb slot.end 0 (λ e. (let z : slot.end ≡ 0 = e in absurd (omega arith))))
