-- The same, for the numbers of a repairer: what each call says of the histories that it stands for.
use Rattle.std.proofs.Common.{◌≡◌, ℕ, ◌+◌, ◌-◌, ◌*◌, ◌<◌, ◌≤◌, ◌↔◌, Bool, true, false, List, [], ◌∷◌, ◌++◌, Option, Some, None, All, refl, sym, ap, ◌∙◌, subst, arith, inl, inr}
use Rattle.std.proofs.lemmas.List.Elements.{Contains-push_cases}
use Rattle.sc_field.specs.Gf256.{gf256_product}
use Rattle.sc_matrix.specs.Module.{IsByte}
use Rattle.sc_matrix.specs.Vector.{IsVector}
use Rattle.sc_matrix.specs.Layout.{cut}
use Rattle.sc_matrix.proofs.LayoutLaws.{length-cut}
use Rattle.sc_echelon.specs.Knowledge.{Knowledge, IsSolution, IsBytes, Forgets}
use Rattle.sc_code.specs.Code.{Code}
use Rattle.sc_code.specs.Stream.{IsBlock, block_at}
use Rattle.sc_slots.specs.Taken.{Taken, one_past, claimed, claimed_or, known_end}
use Rattle.sc_slots.specs.Repair.{IsRecovered, IsSettledAs, IsMissed, IsSettled, IsClash}
use Rattle.sc_slots.specs.Rows.{HasSymbolsIn, MeetsRows}
use Rattle.sc_slots.specs.History.{IsHistory}
use Rattle.sc_slots.proofs.HistoryLaws.{IsHistory-lost, IsHistory-put, IsSettledAs-iff_kept, IsMissed-iff_kept, not_settled-from_kept, IsRecovered-iff_kept}
use Rattle.sc_slots.proofs.ColumnLaws.{block_kept-iff_symbols, no_block_where_open}
use Rattle.sc_slots.proofs.EndLaws.{one_past-last}
use Rattle.sc_repair.specs.Repairer.{Repairer, places_for, kept_by, IsSound, FitsEnd}
use Rattle.sc_repair.specs.Stands.{Stands, HasShape, HasEnd, IsNotRecovered, ArePassedOver, IsLeft}
use Rattle.sc_repair.specs.declared.repairer.Put.{Put}
use Rattle.sc_repair.specs.declared.repairer.Put.TheVariants.{Block, Missed}
use Rattle.sc_repair.specs.Equations.{IsBlockAt, IsOpenPlace, AreOpenFrom, FindsLeft}
use Rattle.sc_repair.proofs.StandsSteps.{history_at_start, history_given_up, history_taken, clash_where_refused, FitsEnd-iff_fitting, fitting-push}

-- ---- start

pub Stands-start : (k r memory deadline m : ℕ) (known : Knowledge ℕ) (block : List ℕ) (own : Code ℕ) → ((symbols : List (List ℕ)) → IsVector (IsBytes m) (places_for memory deadline * k) symbols → IsSolution gf256_product known symbols) → Stands (kept_by k r memory deadline m 0 0 0 0 0 false false known block own) []
Stands-start k r memory deadline m known block own any =
    record {
      put = 0;
      put_before = omega arith;
      is_put = λ x. refl;
      history = history_at_start deadline memory k m (places_for memory deadline) known any;
      past = refl;
      has_end = (refl, refl);
      fitting = λ i d lt. absurd (omega arith);
      shapes = λ slot x. (let lt : x.0 < 0 = x.1 in absurd (omega arith));
    }

-- ---- giving up places

pub Stands-given_up : (s : Repairer) (c : ℕ) (new : Knowledge ℕ) → IsSound s → s.finished ≡ false → s.front + c ≤ s.next → s.front + c ≤ s.passed - s.memory → Forgets gf256_product (c * s.k) s.known new
    → (taken : List (Taken ℕ)) → Stands s taken → Stands (record s { front = s.front + c; known = new }) taken
Stands-given_up s c new sound on to_next to_reach forgets taken h =
    let put : h.put ≡ s.next = h.is_put on in
    let near = sound.in_places in
    record {
      put = h.put;
      put_before = h.put_before;
      is_put = h.is_put;
      history = history_given_up s.deadline s.memory s.k s.m (places_for s.memory s.deadline) c s.known new taken s.passed h.put s.front sound.cols sound.width (omega arith) (omega arith) forgets h.history;
      past = h.past;
      has_end = h.has_end;
      fitting = h.fitting;
      shapes = λ slot x. (let y = h.shapes slot x in record { is_code = y.is_code; symbols = y.symbols; parities = y.parities; lags = y.lags; block = y.block; parity = y.parity });
    }

-- ---- a lost slot

pub Stands-lost : (s : Repairer) → s.finished ≡ false → s.passed ≤ s.next + s.deadline → s.passed < s.front + places_for s.memory s.deadline
    → (taken : List (Taken ℕ)) → Stands s taken → Stands (record s { passed = s.passed + 1 }) taken
Stands-lost s on near room taken h =
    let put : h.put ≡ s.next = h.is_put on in
    record {
      put = h.put;
      put_before = h.put_before;
      is_put = h.is_put;
      history = IsHistory-lost 0 gf256_product s.k s.m s.deadline s.memory taken s.passed h.put (s.front + places_for s.memory s.deadline) s.front (HasSymbolsIn s.k s.m (places_for s.memory s.deadline) (IsSolution gf256_product s.known)) (omega arith) room h.history;
      past = h.past;
      has_end = h.has_end;
      fitting = h.fitting;
      shapes = λ slot x. (let y = h.shapes slot x in record { is_code = y.is_code; symbols = y.symbols; parities = y.parities; lags = y.lags; block = y.block; parity = y.parity });
    }

-- ---- a taken slot

module _ (s : Repairer) (slot : Taken ℕ) (shape : HasShape s slot) (sound : IsSound s) (on : s.finished ≡ false) (near : s.passed ≤ s.next + s.deadline) (room : s.passed < s.front + places_for s.memory s.deadline) (number : slot.number ≡ s.passed) where
  -- the kept slots, in the words of the slot's code
  by_slot : (taken : List (Taken ℕ)) (h : Stands s taken)
      → IsHistory 0 gf256_product slot.code.k s.m s.deadline s.memory taken s.passed h.put (s.front + places_for s.memory s.deadline) s.front (HasSymbolsIn slot.code.k s.m (places_for s.memory s.deadline) (IsSolution gf256_product s.known))
  by_slot taken h =
      subst (λ (k : ℕ). IsHistory 0 gf256_product k s.m s.deadline s.memory taken s.passed h.put (s.front + places_for s.memory s.deadline) s.front (HasSymbolsIn k s.m (places_for s.memory s.deadline) (IsSolution gf256_product s.known)))
      (sym shape.symbols) h.history

  own_block : IsBlock slot.code.k s.m slot.block
  own_block = subst (λ (k : ℕ). IsBlock k s.m slot.block) (sym shape.symbols) shape.block

  own_parity : IsBlock slot.code.r s.m slot.parity
  own_parity = subst (λ (r : ℕ). IsBlock r s.m slot.parity) (sym shape.parities) shape.parity

  pub Stands-clash : ((symbols : List (List ℕ)) → IsSolution gf256_product s.known symbols → MeetsRows 0 1 gf256_product s.k s.m (places_for s.memory s.deadline) slot (s.passed - s.front) symbols → ⊥)
      → (taken : List (Taken ℕ)) → Stands s taken → IsClash 0 gf256_product s.k s.m (taken ++ slot ∷ []) s.passed
  Stands-clash refuses taken h =
      let a = sound.front_put in
      let b = sound.in_passed in
      let place : s.passed - s.front ≡ slot.number - s.front = omega arith in
      subst (λ (k : ℕ). IsClash 0 gf256_product k s.m (taken ++ slot ∷ []) s.passed) shape.symbols
      (clash_where_refused s.deadline s.memory s.m (places_for s.memory s.deadline) slot s.known taken s.passed h.put s.front number room (omega arith) shape.lags shape.is_code own_block own_parity
      (subst (λ (k : ℕ). (symbols : List (List ℕ)) → IsSolution gf256_product s.known symbols → MeetsRows 0 1 gf256_product k s.m (places_for s.memory s.deadline) slot (slot.number - s.front) symbols → ⊥) (sym shape.symbols)
      (subst (λ (p : ℕ). (symbols : List (List ℕ)) → IsSolution gf256_product s.known symbols → MeetsRows 0 1 gf256_product s.k s.m (places_for s.memory s.deadline) slot p symbols → ⊥) place refuses))
      (by_slot taken h))

  pub Stands-taken : (new : Knowledge ℕ) (is_claimed : Bool) (end : ℕ) → new.cols ≡ places_for s.memory s.deadline * s.k → new.width ≡ s.m → ((symbols : List (List ℕ)) × IsSolution gf256_product new symbols)
      → ((symbols : List (List ℕ)) → IsSolution gf256_product new symbols ↔ (IsSolution gf256_product s.known symbols × MeetsRows 0 1 gf256_product s.k s.m (places_for s.memory s.deadline) slot (s.passed - s.front) symbols))
      → FitsEnd s.is_claimed s.end slot.number slot.end
      → (taken : List (Taken ℕ)) → (HasEnd s.is_claimed s.end taken → HasEnd is_claimed end (taken ++ slot ∷ [])) → Stands s taken
      → Stands (record s { passed = s.passed + 1; past = s.passed + 1; is_claimed = is_claimed; end = end; known = new }) (taken ++ slot ∷ []) × (IsClash 0 gf256_product s.k s.m (taken ++ slot ∷ []) s.passed → ⊥)
  Stands-taken new is_claimed end cols width some learns fits taken ends h =
      let a = sound.front_put in
      let b = sound.in_passed in
      let put : h.put ≡ s.next = h.is_put on in
      let n = places_for s.memory s.deadline in
      let place : s.passed - s.front ≡ slot.number - s.front = omega arith in
      let both =
      history_taken s.deadline s.memory s.m (places_for s.memory s.deadline) slot s.known new taken s.passed h.put s.front number room (omega arith) shape.lags (omega arith) shape.is_code own_block own_parity
      (subst (λ (k : ℕ). new.cols ≡ places_for s.memory s.deadline * k) (sym shape.symbols) cols) width some
      (subst (λ (k : ℕ). (symbols : List (List ℕ)) → IsSolution gf256_product new symbols ↔ (IsSolution gf256_product s.known symbols × MeetsRows 0 1 gf256_product k s.m (places_for s.memory s.deadline) slot (slot.number - s.front) symbols)) (sym shape.symbols)
      (subst (λ (p : ℕ). (symbols : List (List ℕ)) → IsSolution gf256_product new symbols ↔ (IsSolution gf256_product s.known symbols × MeetsRows 0 1 gf256_product s.k s.m (places_for s.memory s.deadline) slot p symbols)) place learns))
      (by_slot taken h) in (
        record {
          put = h.put;
          put_before = h.put_before;
          is_put = h.is_put;
          history =
              subst (λ (k : ℕ). IsHistory 0 gf256_product k s.m s.deadline s.memory (taken ++ slot ∷ []) (s.passed + 1) h.put (s.front + places_for s.memory s.deadline) s.front (HasSymbolsIn k s.m (places_for s.memory s.deadline) (IsSolution gf256_product new)))
              shape.symbols both.0;
          past = sym (one_past-last taken slot (λ t x. (let lt : t.number < s.passed = h.history.below t x in omega arith)) ∙ ap (λ (u : ℕ). u + 1) number);
          has_end = ends h.has_end;
          fitting = fitting-push taken slot h.fitting ((FitsEnd-iff_fitting s.is_claimed s.end taken slot h.has_end).0 fits);
          shapes = λ t x. elim (Contains-push_cases taken slot t x) [
            | inl old ↦ (let y = h.shapes t old in record { is_code = y.is_code; symbols = y.symbols; parities = y.parities; lags = y.lags; block = y.block; parity = y.parity })
            | inr it ↦
                subst (λ (t : Taken ℕ). HasShape (record s { passed = s.passed + 1; past = s.passed + 1; is_claimed = is_claimed; end = end; known = new }) t) it
                (record { is_code = shape.is_code; symbols = shape.symbols; parities = shape.parities; lags = shape.lags; block = shape.block; parity = shape.parity })
          ];
        },
        λ clash. both.1 (subst (λ (k : ℕ). IsClash 0 gf256_product k s.m (taken ++ slot ∷ []) s.passed) (sym shape.symbols) clash),
      )

-- ---- what is put out

module _ (s : Repairer) (sound : IsSound s) (taken : List (Taken ℕ)) (h : Stands s taken) (t : ℕ) (from : s.next ≤ t) (passed : t < s.passed) where
  abbrev kept : List (List (List ℕ)) → Type 0
  kept = HasSymbolsIn s.k s.m (places_for s.memory s.deadline) (IsSolution gf256_product s.known)

  -- all that is kept has the block
  kept_block : (block : List ℕ) → IsBlockAt s.known s.k s.m block (t - s.front) → (blocks : List (List (List ℕ))) → kept blocks → block_at blocks (t - s.front) ≡ cut s.k s.m block
  kept_block block known =
      let a = sound.front_put in
      let b = sound.in_places in
      (block_kept-iff_symbols s.k s.m (places_for s.memory s.deadline) (IsSolution gf256_product s.known) (t - s.front) (cut s.k s.m block) (length-cut s.k s.m block) (omega arith)).0
      (λ i hi symbols count hs x. known i hi symbols x)

  -- or no block is in all of it
  no_kept_block : IsOpenPlace s.known s.k (t - s.front) → (b : List (List ℕ)) → ¬ ((blocks : List (List (List ℕ))) → kept blocks → block_at blocks (t - s.front) ≡ b)
  no_kept_block x =
      let a = sound.front_put in
      let b = sound.in_places in
      let o = x.is_open in
      no_block_where_open s.k s.m (places_for s.memory s.deadline) (IsSolution gf256_product s.known) (t - s.front) x.symbol o.one_list o.other_list (omega arith) x.within
      (o.one_solves.values.width ∙ sound.cols) (o.other_solves.values.width ∙ sound.cols)
      (subst (λ (w : ℕ). All (IsVector IsByte w) o.one_list) sound.width o.one_solves.values.entries) (subst (λ (w : ℕ). All (IsVector IsByte w) o.other_list) sound.width o.other_solves.values.entries)
      o.one_solves o.other_solves o.differ

  pub recovered_where_known : (block : List ℕ) → IsBlockAt s.known s.k s.m block (t - s.front) → IsRecovered 0 gf256_product s.k s.m s.deadline taken t (cut s.k s.m block)
  recovered_where_known block known =
      let p = h.put_before in
      (IsRecovered-iff_kept 0 gf256_product s.k s.m s.deadline s.memory taken s.passed h.put (s.front + places_for s.memory s.deadline) s.front kept t (cut s.k s.m block) h.history (omega arith) passed).1 (kept_block block known)

  pub not_recovered_where_open : IsOpenPlace s.known s.k (t - s.front) → IsNotRecovered s taken t
  not_recovered_where_open x b recovered =
      let p = h.put_before in
      no_kept_block x b ((IsRecovered-iff_kept 0 gf256_product s.k s.m s.deadline s.memory taken s.passed h.put (s.front + places_for s.memory s.deadline) s.front kept t b h.history (omega arith) passed).0 recovered)

  module _ (on : s.finished ≡ false) (here : t ≡ s.next) where
    -- slot t is the next one
    by_next : IsHistory 0 gf256_product s.k s.m s.deadline s.memory taken s.passed t (s.front + places_for s.memory s.deadline) s.front kept
    by_next = subst (λ (p : ℕ). IsHistory 0 gf256_product s.k s.m s.deadline s.memory taken s.passed p (s.front + places_for s.memory s.deadline) s.front kept) (h.is_put on ∙ sym here) h.history

    pub settled_where_known : (block : List ℕ) → IsBlockAt s.known s.k s.m block (t - s.front) → IsSettledAs 0 gf256_product s.k s.m s.deadline taken s.passed t (cut s.k s.m block)
    settled_where_known block known =
        (IsSettledAs-iff_kept 0 gf256_product s.k s.m s.deadline s.memory taken s.passed t (s.front + places_for s.memory s.deadline) s.front kept t (cut s.k s.m block) by_next (omega arith) passed).1 (kept_block block known)

    pub missed_where_open : IsOpenPlace s.known s.k (t - s.front) → t + s.deadline < s.passed → IsMissed 0 gf256_product s.k s.m s.deadline taken s.passed t
    missed_where_open x over =
        let near = sound.is_near in
        (IsMissed-iff_kept 0 gf256_product s.k s.m s.deadline s.memory taken s.passed t (s.front + places_for s.memory s.deadline) s.front kept by_next).1 (omega arith, no_kept_block x)

    pub not_settled_where_open : IsOpenPlace s.known s.k (t - s.front) → s.passed ≤ t + s.deadline → (value : Option (List (List ℕ))) → IsSettled 0 gf256_product s.k s.m s.deadline taken s.passed t value → ⊥
    not_settled_where_open x in_time =
        not_settled-from_kept 0 gf256_product s.k s.m s.deadline s.memory taken s.passed t (s.front + places_for s.memory s.deadline) s.front kept by_next (inr (in_time, no_kept_block x))

    -- slot t is put out
    pub Stands-put : (value : Option (List (List ℕ))) (block : List ℕ) → IsSettled 0 gf256_product s.k s.m s.deadline taken s.passed t value → Stands (record s { next = t + 1; block = block }) taken
    Stands-put value block settled =
        record {
          put = t + 1;
          put_before = omega arith;
          is_put = λ x. refl;
          history = IsHistory-put 0 gf256_product s.k s.m s.deadline s.memory taken s.passed t (s.front + places_for s.memory s.deadline) s.front kept value settled passed by_next;
          past = h.past;
          has_end = h.has_end;
          fitting = h.fitting;
          shapes = λ slot x. (let y = h.shapes slot x in record { is_code = y.is_code; symbols = y.symbols; parities = y.parities; lags = y.lags; block = y.block; parity = y.parity });
        }

-- where all passed slots are put out, the next one isn't settled
pub not_settled_at_passed : (s : Repairer) (taken : List (Taken ℕ)) → Stands s taken → s.finished ≡ false → s.next ≡ s.passed → (value : Option (List (List ℕ))) → IsSettled 0 gf256_product s.k s.m s.deadline taken s.passed s.next value → ⊥
not_settled_at_passed s taken h on e =
    not_settled-from_kept 0 gf256_product s.k s.m s.deadline s.memory taken s.passed s.next (s.front + places_for s.memory s.deadline) s.front (HasSymbolsIn s.k s.m (places_for s.memory s.deadline) (IsSolution gf256_product s.known))
    (subst (λ (p : ℕ). IsHistory 0 gf256_product s.k s.m s.deadline s.memory taken s.passed p (s.front + places_for s.memory s.deadline) s.front (HasSymbolsIn s.k s.m (places_for s.memory s.deadline) (IsSolution gf256_product s.known))) (h.is_put on) h.history)
    (inl e)

-- ---- the end of the input

pub Stands-later : (s : Repairer) (next : ℕ) (block : List ℕ) (taken : List (Taken ℕ)) → s.next ≤ next → Stands s taken → Stands (record s { next = next; finished = true; block = block }) taken
Stands-later s next block taken le h =
    let before = h.put_before in
    record {
      put = h.put;
      put_before = omega arith;
      is_put = λ x. absurd (let other : true ≡ false = x in cc);
      history = h.history;
      past = h.past;
      has_end = h.has_end;
      fitting = h.fitting;
      shapes = λ slot x. (let y = h.shapes slot x in record { is_code = y.is_code; symbols = y.symbols; parities = y.parities; lags = y.lags; block = y.block; parity = y.parity });
    }

pub known_end-claimed : (s : Repairer) (taken : List (Taken ℕ)) → s.is_claimed ≡ true → Stands s taken → known_end taken ≡ s.end
known_end-claimed s taken e h =
    let it : claimed taken ≡ Some s.end = subst (λ (b : Bool). HasEnd b s.end taken) e h.has_end in
    ap (λ (o : Option ℕ). claimed_or (one_past taken) o) it

pub known_end-open : (s : Repairer) (taken : List (Taken ℕ)) → s.is_claimed ≡ false → Stands s taken → known_end taken ≡ s.past
known_end-open s taken e h =
    let it : HasEnd false s.end taken = subst (λ (b : Bool). HasEnd b s.end taken) e h.has_end in
    ap (λ (o : Option ℕ). claimed_or (one_past taken) o) it.0 ∙ sym h.past

-- another block in the room for one
pub Stands-block : (s : Repairer) (block : List ℕ) (taken : List (Taken ℕ)) → Stands s taken → Stands (record s { block = block }) taken
Stands-block s block taken h =
    record {
      put = h.put;
      put_before = h.put_before;
      is_put = h.is_put;
      history = h.history;
      past = h.past;
      has_end = h.has_end;
      fitting = h.fitting;
      shapes = λ slot x. (let y = h.shapes slot x in record { is_code = y.is_code; symbols = y.symbols; parities = y.parities; lags = y.lags; block = y.block; parity = y.parity });
    }

-- the slots that the search passed over
pub passed_over : (s : Repairer) (end to : ℕ) → IsSound s → (taken : List (Taken ℕ)) → Stands s taken → known_end taken ≡ end → to ≤ s.past → AreOpenFrom s.known s.k s.front end s.next to → ArePassedOver s taken to
passed_over s end to sound taken h e le wide i from lt =
    let past = sound.past_passed in
    let it = wide i from lt in
    let above = it.0 in
    (omega arith, not_recovered_where_open s sound taken h i from (omega arith) it.1)

-- what the search found, as a slot that is put out
abbrev pub put_of : Option (ℕ × Bool) → Option Put
put_of None = None
put_of (Some (slot, true)) = Some (Block slot)
put_of (Some (slot, false)) = Some (Missed slot)

pub left_found : (s : Repairer) (end : ℕ) → IsSound s → (taken : List (Taken ℕ)) → Stands s taken → known_end taken ≡ end → (block : List ℕ) (found : Option (ℕ × Bool)) → FindsLeft s.known s.k s.m s.front end s.next s.past block found → IsLeft s taken block (put_of found)
left_found s end sound taken h e block None x =
    subst (λ (n : ℕ). ArePassedOver s taken n) h.past (passed_over s end s.past sound taken h e (omega arith) x)
left_found s end sound taken h e block (Some (slot, true)) x =
    let past = sound.past_passed in
    let last = h.past in
    let lt : slot < s.past = x.1 in
    (x.0, omega arith, recovered_where_known s sound taken h slot x.0 (omega arith) block x.2, passed_over s end slot sound taken h e (omega arith) x.3)
left_found s end sound taken h e block (Some (slot, false)) x =
    let past = sound.past_passed in
    let lt : slot < s.past = x.1 in
    let below : slot < end = x.2 in
    (x.0, omega arith, not_recovered_where_open s sound taken h slot x.0 (omega arith) x.3, passed_over s end slot sound taken h e (omega arith) x.4)

-- what is found lies behind the slots put out before
pub found_from : (known : Knowledge ℕ) (k m front end from to : ℕ) (block : List ℕ) (slot : ℕ) (whole : Bool) → FindsLeft known k m front end from to block (Some (slot, whole)) → from ≤ slot
found_from known k m front end from to block slot true x = x.0
found_from known k m front end from to block slot false x = x.0

-- one slot more is put out at the end of the input
pub Stands-left : (s : Repairer) (next : ℕ) (block : List ℕ) (taken : List (Taken ℕ)) → s.finished ≡ true → s.next ≤ next → Stands s taken → Stands (record s { next = next; block = block }) taken
Stands-left s next block taken ended le h = subst (λ (f : Bool). Stands (record s { next = next; block = block; finished = f }) taken) (sym ended) (Stands-later s next block taken le h)
