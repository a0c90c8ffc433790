-- The steps of putting out: what has been written of the values so far, and what one value more writes.
use Rattle.std.proofs.Common.{◌≡◌, ℕ, zero as naught, suc, ◌+◌, ◌<◌, ◌≤◌, true, false, cond, List, [], ◌∷◌, ◌++◌, length, take, drop, get_or, position, count_by, is_none, Option, Some, None, option_map, refl, sym, ap, ◌∙◌, arith, inl, inr, append-nil, append_assoc, length-append}
use Rattle.std.proofs.Math.Seq.{take-suc}
use Rattle.std.proofs.lemmas.Bool.{cases_lt}
use Rattle.std.proofs.lemmas.List.{take_all, take-append-le, take-append-drop, length-take}
use Rattle.std.proofs.lemmas.List.Sums.{sum_by_push}
use Rattle.sc_outside.specs.Ends.{IsPrefix}
use Rattle.sc_repair.specs.declared.repair.RepairEnd.TheVariants.{BadBlock}
use Rattle.sc_repair.specs.Readings.{block_text, is_bad_block}
use Rattle.sc_repair.specs.Repairing.{Refusal, values_text, is_bad_value, bad_among}
use Rattle.sc_repair.specs.RepairSteps.{due_text}
use Rattle.sc_repair.specs.Steps.{Done}
use Rattle.sc_code.specs.FirstBytes.{first_there}
use Rattle.sc_repair.proofs.Growth.{position-cons, position-append, values_text-append, bad_behind, bad_among-none, bad_among-lacks, bad_among-push, bad_among-behind}

-- ---- the first values

-- one value more of a list
pub take-more : (values : List (Option (List (List ℕ)))) (n : ℕ) (v : Option (List (List ℕ))) → n < length values → get_or values n None ≡ v → take (n + 1) values ≡ take n values ++ v ∷ []
take-more values n v lt e =
    let s : n + 1 ≡ suc n = omega arith in
    ap (λ i. take i values) s ∙ take-suc values n None lt ∙ ap (λ x. take n values ++ x ∷ []) e

good-push : (values : List (Option (List (List ℕ)))) (v : Option (List (List ℕ))) → position is_bad_value values ≡ None → is_bad_value v ≡ false → position is_bad_value (values ++ v ∷ []) ≡ None
good-push values v good ok =
    bad_among-none (values ++ v ∷ []) (bad_among-push values v (bad_among-lacks values good) ∙ ap (λ b. cond b (Some (let r : Refusal = record { fault = BadBlock (length values); values = values } in r)) None) ok)

place_of : (values : List (Option (List (List ℕ)))) (o : Option ℕ) (r : Refusal) → option_map (λ t. let r : Refusal = record { fault = BadBlock t; values = take t values } in r) o ≡ Some r → (t : ℕ) × (o ≡ Some t) × (r ≡ record { fault = BadBlock t; values = take t values })
place_of values None r e = absurd (cc)
place_of values (Some t) r e = (t, refl, cc)

-- where a bad block is among values, it is at a place of them, and those before it are good
pub bad_at : (values : List (Option (List (List ℕ)))) (r : Refusal) → bad_among values ≡ Some r → (t : ℕ) × (position is_bad_value values ≡ Some t) × (r ≡ record { fault = BadBlock t; values = take t values })
bad_at values r e = place_of values (position is_bad_value values) r e

-- good values and then a bad one
pub bad-next : (values : List (Option (List (List ℕ)))) (n : ℕ) (v : Option (List (List ℕ))) → n < length values → position is_bad_value (take n values) ≡ None → get_or values n None ≡ v → is_bad_value v ≡ true
    → position is_bad_value values ≡ Some n
bad-next values n v lt good e bad =
    let front = take n values in
    let back = drop (n + 1) values in
    let size : length (take n values) ≡ n = omega (arith, length-take n values, lt) in
    let parts : values ≡ take n values ++ (v ∷ drop (n + 1) values) =
    sym (take-append-drop (n + 1) values) ∙ ap (λ l. l ++ back) (take-more values n v lt e) ∙ append_assoc front (v ∷ []) back in
    let here : position is_bad_value (v ∷ drop (n + 1) values) ≡ Some 0 =
    position-cons is_bad_value v back ∙ ap (λ b. cond b (Some 0) (option_map (λ i. suc i) (position is_bad_value back))) bad in
    let at : length (take n values) + 0 ≡ n = omega (arith, size) in
    ap (position is_bad_value) parts ∙ position-append is_bad_value front (v ∷ back)
    ∙ ap (λ o. first_there o (option_map (λ i. length front + i) (position is_bad_value (v ∷ back)))) good
    ∙ ap (option_map (λ i. length front + i)) here ∙ ap Some at

-- ---- what was put out

module _ (end : ℕ) where
  counted-less : (values : List (Option (List (List ℕ)))) (v : Option (List (List ℕ))) → length values < end → take end (values ++ v ∷ []) ≡ take end values ++ v ∷ []
  counted-less values v lt =
      let all : length (values ++ v ∷ []) ≤ end = omega (arith, length-append values (v ∷ []), lt) in
      let le : length values ≤ end = omega (arith, lt) in
      take_all end (values ++ v ∷ []) all ∙ ap (λ l. l ++ v ∷ []) (sym (take_all end values le))

  -- a missed slot below the end
  pub Done-missed : (values : List (Option (List (List ℕ)))) (missed : ℕ) (text : List ℕ) → Done values end missed text → length values < end → Done (values ++ None ∷ []) end (missed + 1) text
  Done-missed values missed text d lt = record {
    good = good-push values None d.good refl;
    counted = ap (λ n. n + 1) d.counted ∙ sym (sum_by_push (λ x. cond (is_none x) 1 0) (take end values) None) ∙ sym (ap (count_by is_none) (counted-less values None lt));
    is_text = d.is_text ∙ sym (append-nil (values_text values)) ∙ sym (values_text-append values (None ∷ []));
  }

  counted-more : (values : List (Option (List (List ℕ)))) (v : Option (List (List ℕ))) → end ≤ length values → take end (values ++ v ∷ []) ≡ take end values
  counted-more values v le = take-append-le end values (v ∷ []) le

  -- a slot that isn't recovered at or above the end
  pub Done-over : (values : List (Option (List (List ℕ)))) (missed : ℕ) (text : List ℕ) → Done values end missed text → end ≤ length values → Done (values ++ None ∷ []) end missed text
  Done-over values missed text d le = record {
    good = good-push values None d.good refl;
    counted = d.counted ∙ sym (ap (count_by is_none) (counted-more values None le));
    is_text = d.is_text ∙ sym (append-nil (values_text values)) ∙ sym (values_text-append values (None ∷ []));
  }

  counted-block : (values : List (Option (List (List ℕ)))) (b : List (List ℕ)) → count_by is_none (take end (values ++ Some b ∷ [])) ≡ count_by is_none (take end values)
  counted-block values b =
      elim (cases_lt (length values) end) [
        | inl lt ↦ (let z : count_by is_none (take end values) + 0 ≡ count_by is_none (take end values) = omega arith in
            ap (count_by is_none) (counted-less values (Some b) lt) ∙ sum_by_push (λ x. cond (is_none x) 1 0) (take end values) (Some b) ∙ z)
        | inr le ↦ ap (count_by is_none) (counted-more values (Some b) le)
      ]

  -- a block that writes this
  pub Done-block : (values : List (Option (List (List ℕ)))) (missed : ℕ) (text more : List ℕ) (b : List (List ℕ)) → Done values end missed text → is_bad_block b ≡ false → more ≡ block_text b → Done (values ++ Some b ∷ []) end missed (text ++ more)
  Done-block values missed text more b d ok e = record {
    good = good-push values (Some b) d.good ok;
    counted = d.counted ∙ sym (counted-block values b);
    is_text = ap (λ l. l ++ more) d.is_text ∙ ap (λ l. values_text values ++ l) (e ∙ sym (append-nil (block_text b))) ∙ sym (values_text-append values (Some b ∷ []));
  }

  -- so many that aren't recovered, at or above the end
  pub Done-past : (values : List (Option (List (List ℕ)))) (n j missed : ℕ) (text : List ℕ) → n + j ≤ length values → ((i : ℕ) → n ≤ i → i < n + j → (end ≤ i) × (get_or values i None ≡ None))
      → Done (take n values) end missed text → Done (take (n + j) values) end missed text
  Done-past values n naught missed text le over d = let e : n + 0 ≡ n = omega arith in rw e d
  Done-past values n (suc j) missed text le over d =
      let before = Done-past values n j missed text (omega (arith, le)) (λ i a b. over i a (omega (arith, b))) d in
      let here = over (n + j) (omega arith) (omega arith) in
      let size : length (take (n + j) values) ≡ n + j = omega (arith, length-take (n + j) values, le) in
      let e : n + suc j ≡ n + j + 1 = omega arith in
      rw (e, take-more values (n + j) None (omega (arith, le)) here.1) (Done-over (take (n + j) values) missed text before (omega (arith, size, here.0)))

-- the end is no matter where it is behind all values
pub Done-end : (values : List (Option (List (List ℕ)))) (a b missed : ℕ) (text : List ℕ) → count_by is_none (take a values) ≡ count_by is_none (take b values) → Done values a missed text → Done values b missed text
Done-end values a b missed text e d = record { good = d.good; counted = d.counted ∙ e; is_text = d.is_text }

-- ---- what is due

abbrev refusal_values : Refusal → List (Option (List (List ℕ)))
refusal_values x = x.values

abbrev from_or : Option Refusal → Refusal → Refusal
from_or None r = r
from_or (Some x) r = x

-- what the first values write, if they are good, is a front of what is due
pub due-front : (values : List (Option (List (List ℕ)))) (n : ℕ) (text : List ℕ) → position is_bad_value (take n values) ≡ None → text ≡ values_text (take n values) → IsPrefix text (due_text (bad_among values) values)
due-front values n text good e = due_by (bad_among values) refl
  where
    parts : values ≡ take n values ++ drop n values
    parts = sym (take-append-drop n values)

    due_by : (o : Option Refusal) → bad_among values ≡ o → IsPrefix text (due_text o values)
    due_by None is = record {
      rest = values_text (drop n values);
      parts = ap values_text parts ∙ values_text-append (take n values) (drop n values) ∙ ap (λ l. l ++ values_text (drop n values)) (sym e);
    }
    due_by (Some r) is =
        let behind : bad_among values ≡ option_map (bad_behind (take n values) (drop n values)) (position is_bad_value (drop n values)) =
        ap bad_among parts ∙ bad_among-behind (take n values) (drop n values) (bad_among-lacks (take n values) good) in
        due_behind r (position is_bad_value (drop n values)) (sym behind ∙ is)
      where
        due_behind : (r : Refusal) (o : Option ℕ) → option_map (bad_behind (take n values) (drop n values)) o ≡ Some r → IsPrefix text (values_text r.values)
        due_behind r None h = absurd (cc)
        due_behind r (Some t) h =
            let same : r.values ≡ take n values ++ take t (drop n values) = sym (ap refusal_values (ap (λ o. from_or o r) h)) in
            record {
              rest = values_text (take t (drop n values));
              parts = ap values_text same ∙ values_text-append (take n values) (take t (drop n values)) ∙ ap (λ l. l ++ values_text (take t (drop n values))) (sym e);
            }
