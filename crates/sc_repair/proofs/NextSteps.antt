-- The steps of putting out: the next slot, while the input goes on and at its end.
use Rattle.std.proofs.Common.{◌≡◌, ℕ, ◌+◌, ◌-◌, ◌*◌, ◌<◌, ◌≤◌, Bool, true, false, List, [], ◌++◌, length, take, get_or, position, Option, Some, None, Ok, Err, refl, sym, ap, ◌∙◌, subst, arith, inl, inr, append-nil}
use Rattle.std.specs.List.{concat}
use Rattle.std.proofs.lemmas.Bool.{cases_Bool, cases_lt}
use Rattle.std.proofs.lemmas.List.{length-take, take_all}
use Rattle.std.proofs.lemmas.Option.{none-some, same_Some}
use Rattle.sc_field.specs.Gf256.{gf256_product}
use Rattle.sc_matrix.specs.Layout.{cut}
use Rattle.sc_slots.specs.Taken.{Taken, one_past, known_end}
use Rattle.sc_slots.specs.Repair.{IsSettled}
use Rattle.sc_outside.specs.declared.error.Failed.{Failed}
use Rattle.sc_outside.specs.Port.{Told}
use Rattle.sc_slots.proofs.EndLaws.{known_end-le}
use Rattle.sc_slots.proofs.FlushSteps.{GivesMore-none}
use Rattle.sc_slots.proofs.MakerSteps.{concat-cut}
use Rattle.sc_repair.specs.declared.repairer.Put.TheVariants.{Block, Missed}
use Rattle.sc_repair.specs.Readings.{block_reading, block_text, frame_text, is_bad, is_bad_block}
use Rattle.sc_repair.specs.Repairer.{Repairer}
use Rattle.sc_repair.specs.Repairing.{values_text, is_bad_value}
use Rattle.sc_repair.specs.Stands.{Stands, IsNext, IsLeft, ArePassedOver, OutCounts}
use Rattle.sc_repair.specs.Steps.{PutsBlock, Done, PutsTo, PutsAll, Halts, LosesTo, values_by, values_when, end_of, end_when}
use Rattle.sc_repair.specs.Values.{value_at, put_values, outcomes}
use Rattle.sc_repair.proofs.ValueLaws.{value_at-settled, value_at-there, put_values-le, put_values-at, put_values-stops, outcomes-length, outcomes-at, outcome_at-there}
use Rattle.sc_repair.proofs.PutSteps.{take-more, bad-next, Done-missed, Done-block, Done-past}

-- From place n on, no value is put out up to that of slot t, which is v: those between aren't recovered, at or above the end.
pub record Comes (values : List (Option (List (List ℕ)))) (end n t : ℕ) (v : Option (List (List ℕ))) : Type 0 where
  pub not_before : n ≤ t
  pub within : t < length values
  pub is : get_or values t None ≡ v
  pub over : (i : ℕ) → n ≤ i → i < t → (end ≤ i) × (get_or values i None ≡ None)

module _ (values : List (Option (List (List ℕ)))) (end n t missed : ℕ) (text : List ℕ) where
  Done-up_to : (v : Option (List (List ℕ))) → Comes values end n t v → Done (take n values) end missed text → Done (take t values) end missed text
  Done-up_to v c d =
      let sum : n + (t - n) ≡ t = omega (arith, c.not_before) in
      subst (λ j. Done (take j values) end missed text) sum
      (Done-past end values n (t - n) missed text (omega (arith, c.not_before, c.within)) (λ i a b. c.over i a (omega (arith, c.not_before, b))) d)

  size : t < length values → length (take t values) ≡ t
  size lt = omega (arith, length-take t values, lt)

  pub Comes-missed : Comes values end n t None → t < end → Done (take n values) end missed text → Done (take (t + 1) values) end (missed + 1) text
  Comes-missed c below d =
      rw (take-more values t None c.within c.is) (Done-missed end (take t values) missed text (Done-up_to None c d) (omega (arith, size c.within, below)))

  pub Comes-block : (b : List (List ℕ)) (more : List ℕ) → Comes values end n t (Some b) → is_bad_block b ≡ false → more ≡ block_text b → Done (take n values) end missed text → Done (take (t + 1) values) end missed (text ++ more)
  Comes-block b more c ok e d =
      rw (take-more values t (Some b) c.within c.is) (Done-block end (take t values) missed text more b (Done-up_to (Some b) c d) ok e)

  pub Comes-bad : (b : List (List ℕ)) → Comes values end n t (Some b) → is_bad_block b ≡ true → Done (take n values) end missed text → (position is_bad_value values ≡ Some t) × (text ++ [] ≡ values_text (take t values))
  Comes-bad b c bad d =
      let upto = Done-up_to (Some b) c d in
      (bad-next values t (Some b) c.within upto.good c.is bad, append-nil text ∙ upto.is_text)

-- ---- while the input goes on

module _ (s : Repairer) (taken : List (Taken ℕ)) where
  abbrev now : List (Option (List (List ℕ)))
  now = put_values s.k s.m s.deadline taken s.passed

  -- what is put out is settled
  pub put_there : Stands s taken → s.finished ≡ false → s.next ≤ length (put_values s.k s.m s.deadline taken s.passed)
  put_there st on =
      elim (cases_lt (length now) s.next) [
        | inl lt ↦
            let e : st.put ≡ s.next = st.is_put on in
            let small : length (put_values s.k s.m s.deadline taken s.passed) < s.passed = omega (arith, lt, e, st.history.in_range) in
            let x = st.history.are_put (length now) (omega (arith, lt, e)) in
            absurd (none-some x.0 (sym (put_values-stops s.k s.m s.deadline taken s.passed small) ∙ value_at-there s.k s.m s.deadline taken s.passed (length now) x.0 x.1 small))
        | inr le ↦ le
      ]

  -- a slot that is settled is one of them
  settled_there : (x : Option (List (List ℕ))) → Stands s taken → s.finished ≡ false → s.next < s.passed → IsSettled 0 gf256_product s.k s.m s.deadline taken s.passed s.next x
      → (s.next < length (put_values s.k s.m s.deadline taken s.passed)) × (get_or (put_values s.k s.m s.deadline taken s.passed) s.next None ≡ x)
  settled_there x st on lt h =
      let there = value_at-there s.k s.m s.deadline taken s.passed s.next x h lt in
      elim (cases_lt s.next (length now)) [
        | inl in_ ↦ (in_, same_Some _ _ (sym (put_values-at s.k s.m s.deadline taken s.passed s.next in_) ∙ there))
        | inr past ↦
            let e : length (put_values s.k s.m s.deadline taken s.passed) ≡ s.next = omega (arith, past, put_there st on) in
            absurd (none-some x (sym (put_values-stops s.k s.m s.deadline taken s.passed (omega (arith, e, lt))) ∙ ap (value_at s.k s.m s.deadline taken s.passed) e ∙ there))
      ]

  pub Comes-settled : (end : ℕ) (x : Option (List (List ℕ))) → Stands s taken → s.finished ≡ false → s.next < s.passed → IsSettled 0 gf256_product s.k s.m s.deadline taken s.passed s.next x
      → Comes (put_values s.k s.m s.deadline taken s.passed) end s.next s.next x
  Comes-settled end x st on lt h =
      let there = settled_there x st on lt h in
      record { not_before = omega arith; within = there.0; is = there.1; over = λ i a b. absurd (omega (arith, a, b)) }

  -- where the next slot isn't settled, all that are have been put out
  pub none_settled : Stands s taken → s.finished ≡ false → ((x : Option (List (List ℕ))) → IsSettled 0 gf256_product s.k s.m s.deadline taken s.passed s.next x → ⊥)
      → s.next ≡ length (put_values s.k s.m s.deadline taken s.passed)
  none_settled st on none =
      elim (cases_lt s.next (length now)) [
        | inl in_ ↦ absurd (none (get_or now s.next None) (value_at-settled s.k s.m s.deadline taken s.passed s.next (get_or now s.next None) st.history.no_clash
            (omega (arith, in_, put_values-le s.k s.m s.deadline taken s.passed)) (put_values-at s.k s.m s.deadline taken s.passed s.next in_)))
        | inr past ↦ omega (arith, past, put_there st on)
      ]

  -- ---- at the end of the input

  abbrev last : List (Option (List (List ℕ)))
  last = outcomes s.k s.m s.deadline taken (one_past taken)

  over_there : (t : ℕ) → t ≤ one_past taken → ArePassedOver s taken t → (i : ℕ) → s.next ≤ i → i < t → (known_end taken ≤ i) × (get_or (outcomes s.k s.m s.deadline taken (one_past taken)) i None ≡ None)
  over_there t le over i a b =
      let h = over i a b in
      (h.0, outcomes-at s.k s.m s.deadline taken (one_past taken) i (omega (arith, b, le)) ∙ outcome_at-there s.k s.m s.deadline taken i None h.1)

  pub Comes-recovered : (t : ℕ) (block : List ℕ) → IsLeft s taken block (Some (Block t)) → Comes (outcomes s.k s.m s.deadline taken (one_past taken)) (known_end taken) s.next t (Some (cut s.k s.m block))
  Comes-recovered t block h = record {
    not_before = h.0;
    within = omega (arith, h.1, outcomes-length s.k s.m s.deadline taken (one_past taken));
    is = outcomes-at s.k s.m s.deadline taken (one_past taken) t h.1 ∙ outcome_at-there s.k s.m s.deadline taken t (Some (cut s.k s.m block)) h.2;
    over = over_there t (omega (arith, h.1)) h.3;
  }

  pub Comes-lost : (t : ℕ) (block : List ℕ) → known_end taken ≤ one_past taken → IsLeft s taken block (Some (Missed t)) → Comes (outcomes s.k s.m s.deadline taken (one_past taken)) (known_end taken) s.next t None
  Comes-lost t block le h = record {
    not_before = h.0;
    within = omega (arith, h.1, le, outcomes-length s.k s.m s.deadline taken (one_past taken));
    is = outcomes-at s.k s.m s.deadline taken (one_past taken) t (omega (arith, h.1, le)) ∙ outcome_at-there s.k s.m s.deadline taken t None h.2;
    over = over_there t (omega (arith, h.1, le)) h.3;
  }

  -- no slot is left
  pub Done-left : (missed : ℕ) (text : List ℕ) → s.next ≤ length (outcomes s.k s.m s.deadline taken (one_past taken)) → ArePassedOver s taken (one_past taken)
      → Done (take s.next (outcomes s.k s.m s.deadline taken (one_past taken))) (known_end taken) missed text → Done (outcomes s.k s.m s.deadline taken (one_past taken)) (known_end taken) missed text
  Done-left missed text le over d =
      let n = outcomes-length s.k s.m s.deadline taken (one_past taken) in
      let all : length (outcomes s.k s.m s.deadline taken (one_past taken)) ≤ s.next + (length last - s.next) = omega (arith, le) in
      subst (λ l. Done l (known_end taken) missed text) (take_all (s.next + (length last - s.next)) last all)
      (Done-past (known_end taken) last s.next (length last - s.next) missed text (omega (arith, le)) (λ i a b. over_there (one_past taken) (omega arith) over i a (omega (arith, n, le, b))) d)

-- ---- the next slot, by whether the input is at its end

-- the bytes that are put out are those of the symbols
same_bytes : (s s' : Repairer) (t : ℕ) (bytes : List ℕ) → OutCounts s s' (Some (Block t)) → bytes ≡ s'.block → length bytes ≡ s'.k * s'.m → concat (cut s.k s.m s'.block) ≡ bytes
same_bytes s s' t bytes out is size =
    let ek : s'.k ≡ s.k = ap (λ (x : Repairer). x.k) out.0 in
    let em : s'.m ≡ s.m = ap (λ (x : Repairer). x.m) out.0 in
    let n : length s'.block ≡ s.k * s.m = ap length (sym is) ∙ size ∙ ap (λ n. n * s'.m) ek ∙ ap (λ n. s.k * n) em in
    concat-cut s.k s.m s'.block n ∙ sym is

module _ (s s' : Repairer) (taken : List (Taken ℕ)) (st : Stands s taken) where
  block_comes : (t : ℕ) → (s.finished ≡ false → IsNext s taken s'.block (Some (Block t))) → (s.finished ≡ true → IsLeft s taken s'.block (Some (Block t)))
      → Comes (values_by s taken) (end_of s taken) s.next t (Some (cut s.k s.m s'.block))
  block_comes t next left =
      elim (cases_Bool s.finished) [
        | inl over ↦ rw over (Comes-recovered s taken t s'.block (left over))
        | inr on ↦ (let h = next on in rw (on, h.0) (Comes-settled s taken 4000000 (Some (cut s.k s.m s'.block)) st on h.1.is_passed h.1))
      ]

  missed_comes : (t : ℕ) → s.passed ≤ 4000000 → (s.finished ≡ false → IsNext s taken s'.block (Some (Missed t))) → (s.finished ≡ true → IsLeft s taken s'.block (Some (Missed t)))
      → Comes (values_by s taken) (end_of s taken) s.next t None × (t < end_of s taken)
  missed_comes t few next left =
      elim (cases_Bool s.finished) [
        | inl over ↦ (let h = left over in rw over (Comes-lost s taken t s'.block (known_end-le taken) h, h.1))
        | inr on ↦ (let h = next on in
            let lt : s.next < s.passed = omega (arith, h.1.is_over) in
            rw (on, h.0) (Comes-settled s taken 4000000 None st on lt h.1, omega (arith, lt, few)))
      ]

  ended : (missed : ℕ) (text : List ℕ) → (s.finished ≡ false → (x : Option (List (List ℕ))) → IsSettled 0 gf256_product s.k s.m s.deadline taken s.passed s.next x → ⊥)
      → (s.finished ≡ true → ArePassedOver s taken (one_past taken)) → s.next ≤ length (values_by s taken) → Done (take s.next (values_by s taken)) (end_of s taken) missed text → Done (values_by s taken) (end_of s taken) missed text
  ended missed text next left = ended_by s.finished refl
    where
      ended_by : (b : Bool) → s.finished ≡ b → s.next ≤ length (values_when b s taken) → Done (take s.next (values_when b s taken)) (end_when b taken) missed text → Done (values_when b s taken) (end_when b taken) missed text
      ended_by true e le d = Done-left s taken missed text le (left e) d
      ended_by false e le d =
          let here : length (put_values s.k s.m s.deadline taken s.passed) ≤ s.next = omega (arith, none_settled s taken st e (next e)) in
          subst (λ l. Done l 4000000 missed text) (take_all s.next (now s taken) here) d

  module _ (t : ℕ) (bytes : List ℕ) (a b : Told) (before after text : List ℕ) (missed : ℕ) (out : OutCounts s s' (Some (Block t))) (is : bytes ≡ s'.block) (size_is : length bytes ≡ s'.k * s'.m)
      (next : s.finished ≡ false → IsNext s taken s'.block (Some (Block t))) (left : s.finished ≡ true → IsLeft s taken s'.block (Some (Block t))) (d : Done (take s.next (values_by s taken)) (end_of s taken) missed text) where
    what : frame_text (block_reading bytes) ≡ block_text (cut s.k s.m s'.block)
    what = ap (λ l. frame_text (block_reading l)) (sym (same_bytes s s' t bytes out is size_is))

    bad_is : (v : Bool) → is_bad (block_reading bytes) ≡ v → is_bad_block (cut s.k s.m s'.block) ≡ v
    bad_is v e = ap (λ l. is_bad (block_reading l)) (same_bytes s s' t bytes out is size_is) ∙ e

    pub next_put : PutsBlock a b bytes before after (Ok true) → PutsTo (values_by s taken) (end_of s taken) s'.next a b before after missed text
    next_put h =
        let comes = block_comes t next left in
        let n : s'.next ≡ t + 1 = ap (λ (x : Repairer). x.next) out.0 in
        record {
          more = frame_text (block_reading bytes);
          gives = h.1;
          within = omega (arith, n, comes.within);
          done = rw n (Comes-block (values_by s taken) (end_of s taken) s.next t missed text (cut s.k s.m s'.block) (frame_text (block_reading bytes)) comes (bad_is false h.0) what d);
        }

    pub next_bad : PutsBlock a b bytes before after (Ok false) → Halts (values_by s taken) a b before after text t
    next_bad h =
        let x = Comes-bad (values_by s taken) (end_of s taken) s.next t missed text (cut s.k s.m s'.block) (block_comes t next left) (bad_is true h.0) d in
        record { more = []; gives = h.1; first = x.0; is_text = x.1 }

    pub next_fails : (e : Failed) → PutsBlock a b bytes before after (Err e) → LosesTo (values_by s taken) a b before text
    next_fails e h =
        let comes = block_comes t next left in
        let put = Comes-block (values_by s taken) (end_of s taken) s.next t missed text (cut s.k s.m s'.block) (frame_text (block_reading bytes)) comes (bad_is false h.0) what d in
        record { more = frame_text (block_reading bytes); loses = h.1; n = t + 1; within = omega (arith, comes.within); good = put.good; is_text = put.is_text }

  pub next_missed : (t : ℕ) (a : Told) (before text : List ℕ) (missed : ℕ) → OutCounts s s' (Some (Missed t)) → s.passed ≤ 4000000 → (s.finished ≡ false → IsNext s taken s'.block (Some (Missed t)))
      → (s.finished ≡ true → IsLeft s taken s'.block (Some (Missed t))) → Done (take s.next (values_by s taken)) (end_of s taken) missed text → PutsTo (values_by s taken) (end_of s taken) s'.next a a before before (missed + 1) text
  next_missed t a before text missed out few next left d =
      let comes = missed_comes t few next left in
      let n : s'.next ≡ t + 1 = ap (λ (x : Repairer). x.next) out.0 in
      record {
        more = [];
        gives = GivesMore-none a before;
        within = omega (arith, n, comes.0.within);
        done = rw (n, append-nil text) (Comes-missed (values_by s taken) (end_of s taken) s.next t missed text comes.0 comes.1 d);
      }

  pub next_ended : (a : Told) (before text : List ℕ) (missed : ℕ) → (s.finished ≡ false → IsNext s taken s'.block None) → (s.finished ≡ true → IsLeft s taken s'.block None)
      → s.next ≤ length (values_by s taken) → Done (take s.next (values_by s taken)) (end_of s taken) missed text → PutsAll (values_by s taken) (end_of s taken) a a before before missed text
  next_ended a before text missed next left le d = record {
    more = [];
    gives = GivesMore-none a before;
    done = rw (append-nil text) (ended missed text next left le d);
  }
