-- The steps of repairing: a slot that repeats, doesn't fit, or is taken.
use Rattle.std.proofs.Common.{◌≡◌, ◌⊎◌, ℕ, ◌+◌, ◌-◌, ◌<◌, ◌≤◌, Bool, true, false, nat_eq, nat_lt, nat_le, Some, None, List, [], ◌∷◌, ◌++◌, Option, Result, Ok, Err, if◌then◌else◌, refl, sym, ap, ◌∙◌, subst, arith, inl, inr, append-nil}
use Rattle.std.proofs.lemmas.Bool.{cases_lt, cond-true, lt-ltb, le-ltb, le-leb, lt-leb, eq-eqb, ne_eqb, ltb-true, eqb-true, leb-true, and_parts, false_from_ne_true}
use Rattle.std.proofs.lemmas.List.{nil_from_length}
use Rattle.sc_outside.specs.declared.error.Failed.{Failed}
use Rattle.sc_outside.specs.Port.{Told}
use Rattle.sc_code.specs.declared.code.CodeFile.{CodeFile}
use Rattle.sc_slots.specs.Slot.{Slot}
use Rattle.sc_slots.specs.Taken.{Taken, AllBelow, taken_slot, one_past, claimed, least_end, known_end, claimed_or}
use Rattle.sc_slots.proofs.EndLaws.{AllBelow-one_past, one_past-last, claimed-push_first}
use Rattle.sc_slots.proofs.FlushSteps.{GivesMore-none}
use Rattle.sc_repair.specs.declared.repair.RepairEnd.{RepairEnd}
use Rattle.sc_repair.specs.declared.repair.RepairEnd.TheVariants.{Unfit as Unfits, TooManySlots}
use Rattle.sc_repair.specs.declared.repairer.Unfit.{Unfit}
use Rattle.sc_repair.specs.declared.repairer.Unfit.TheVariants.{OtherWidth, OtherEnd}
use Rattle.sc_repair.specs.Fit.{FitGives, end_so_far}
use Rattle.sc_repair.specs.Repairer.{Repairer, FitsEnd}
use Rattle.sc_repair.specs.Repairing.{Refusal, values_text, width_in, taken_of, put_of, values_of, still, end_fits, end_by, misfit, stop_by, refusal_by, slot_refusal}
use Rattle.sc_repair.specs.Stands.{Stands, HasEnd}
use Rattle.sc_repair.specs.RepairSteps.{IsSet, IsReady, values_now, IsRefused, due_text, FallsShort, SlotGives, SlotCounts, Rests, GetsRest, PlaceGives}
use Rattle.sc_repair.specs.Values.{put_values}
use Rattle.sc_repair.proofs.ValueLaws.{put_values-le}
use Rattle.sc_repair.proofs.Growth.{taken_of-push, taken_of-repeat}
use Rattle.sc_repair.proofs.StandsSteps.{end_after_claim}

-- ---- ends

fits_by : (is_claimed : Bool) (end number own : ℕ) (taken : List (Taken ℕ)) → HasEnd is_claimed end taken → FitsEnd is_claimed end number own → end_fits (claimed taken) (least_end taken) number own ≡ true
fits_by true end number own taken h f =
    ap (λ o. end_fits o (least_end taken) number own) h ∙ both (lt-ltb 0 own f.0) (eq-eqb (number + 1 - own) end f.1)
  where
    both : nat_lt 0 own ≡ true → nat_eq (number + 1 - own) end ≡ true → end_fits (Some end) (least_end taken) number own ≡ true
    both a b = rw (a, b) refl
fits_by false end number own taken h (inl zero) = ap (λ o. end_fits o (least_end taken) number own) h.0 ∙ rw (eq-eqb own 0 zero) refl
fits_by false end number own taken h (inr some) =
    let not_zero : nat_eq own 0 ≡ false = ne_eqb own 0 (λ e. (let z : own ≡ 0 = e in absurd (omega (arith, some.0)))) in
    ap (λ o. end_fits o (least_end taken) number own) h.0 ∙ rw not_zero (le-leb (least_end taken) (number + 1 - own) (omega (arith, some.1, h.1)))

fits_back : (is_claimed : Bool) (end number own : ℕ) (taken : List (Taken ℕ)) → HasEnd is_claimed end taken → end_fits (claimed taken) (least_end taken) number own ≡ true → FitsEnd is_claimed end number own
fits_back true end number own taken h f =
    let g : end_fits (Some end) (least_end taken) number own ≡ true = sym (ap (λ o. end_fits o (least_end taken) number own) h) ∙ f in
    let parts = and_parts (nat_lt 0 own) (nat_eq (number + 1 - own) end) g in
    (ltb-true 0 own parts.0, eqb-true (number + 1 - own) end parts.1)
fits_back false end number own taken h f =
    let g : end_fits None (least_end taken) number own ≡ true = sym (ap (λ o. end_fits o (least_end taken) number own) h.0) ∙ f in
    elim (cases_lt 0 own) [
      | inr zero ↦ inl (omega (arith, zero))
      | inl some ↦ (let not_zero : nat_eq own 0 ≡ false = ne_eqb own 0 (λ e. (let z : own ≡ 0 = e in absurd (omega (arith, some)))) in
          let le : nat_le (least_end taken) (number + 1 - own) ≡ true = sym (ap (λ (b : Bool). if b then true else nat_le (least_end taken) (number + 1 - own)) not_zero) ∙ g in
          inr (some, omega (arith, leb-true (least_end taken) (number + 1 - own) le, h.1)))
    ]

unfits_by : (is_claimed : Bool) (end number own : ℕ) (taken : List (Taken ℕ)) → HasEnd is_claimed end taken → (FitsEnd is_claimed end number own → ⊥) → end_fits (claimed taken) (least_end taken) number own ≡ false
unfits_by is_claimed end number own taken h none =
    false_from_ne_true (end_fits (claimed taken) (least_end taken) number own) (λ e. none (fits_back is_claimed end number own taken h e))

end_is : (is_claimed : Bool) (end : ℕ) (taken : List (Taken ℕ)) → HasEnd is_claimed end taken → end_by (claimed taken) (least_end taken) ≡ end_so_far is_claimed end
end_is true end taken h = ap (λ o. end_by o (least_end taken)) h
end_is false end taken h = ap (λ o. end_by o (least_end taken)) h.0 ∙ ap (λ n. end_by None n) h.1

-- ---- fitting

module _ (file : CodeFile) (slots : List Slot) (s : Repairer) (one : Slot) (st : Stands s (taken_of file slots)) (width : width_in (slots ++ one ∷ []) ≡ s.m) where
  abbrev of_end : Bool → Option Unfit
  of_end b = if b then None else Some (OtherEnd one.number (end_by (claimed (taken_of file slots)) (least_end (taken_of file slots))) one.end)

  abbrev of_width : ℕ → Bool → Option Unfit
  of_width m b = if b then of_end (end_fits (claimed (taken_of file slots)) (least_end (taken_of file slots)) one.number one.end) else Some (OtherWidth one.number m one.m)

  misfit_is : misfit file slots one ≡ of_width s.m (nat_eq one.m s.m)
  misfit_is = ap (λ m. of_width m (nat_eq one.m m)) width

  pub fitting_is : FitGives s one (Ok tt) → misfit file slots one ≡ None
  fitting_is g = misfit_is ∙ ap (of_width s.m) (eq-eqb one.m s.m g.0) ∙ ap of_end (fits_by s.is_claimed s.end one.number one.end (taken_of file slots) st.has_end g.1)

  pub unfitting_is : (u : Unfit) → FitGives s one (Err u) → misfit file slots one ≡ Some u
  unfitting_is (OtherWidth number was now) g =
      let wide : nat_eq one.m s.m ≡ false = ne_eqb one.m s.m g.0 in
      misfit_is ∙ ap (of_width s.m) wide ∙ ap (λ n. Some (OtherWidth n s.m one.m)) (sym g.1) ∙ ap (λ m. Some (OtherWidth number m one.m)) (sym g.2) ∙ ap (λ m. Some (OtherWidth number was m)) (sym g.3)
  unfitting_is (OtherEnd number was now) g =
      misfit_is ∙ ap (of_width s.m) (eq-eqb one.m s.m g.0) ∙ ap of_end (unfits_by s.is_claimed s.end one.number one.end (taken_of file slots) st.has_end g.1)
      ∙ ap (λ n. Some (OtherEnd n (end_by (claimed (taken_of file slots)) (least_end (taken_of file slots))) one.end)) (sym g.2)
      ∙ ap (λ e. Some (OtherEnd number e one.end)) (end_is s.is_claimed s.end (taken_of file slots) st.has_end ∙ sym g.3) ∙ ap (λ n. Some (OtherEnd number was n)) (sym g.4)

-- ---- what is refused is still after what was put out

pub first_width : (slots : List Slot) (one : Slot) → (slots ≡ []) ⊎ (width_in (slots ++ one ∷ []) ≡ width_in slots)
first_width [] one = inl refl
first_width (s ∷ slots) one = inr refl

pub none_put : (k m deadline : ℕ) (taken : List (Taken ℕ)) → put_values k m deadline taken 0 ≡ []
none_put k m deadline taken = nil_from_length (put_values k m deadline taken 0) (omega (arith, put_values-le k m deadline taken 0))

-- what is put out of slots, told in the numbers of the repairer
pub values_rest : (file : CodeFile) (slots : List Slot) (one : Slot) (m : ℕ) → width_in (slots ++ one ∷ []) ≡ m → values_of file slots ≡ put_of file m (taken_of file slots) (one_past (taken_of file slots))
values_rest file slots one m width =
    elim (first_width slots one) [
      | inl none ↦ rw none (none_put file.code.k 0 file.channel.t [] ∙ sym (none_put file.code.k m file.channel.t []))
      | inr same ↦ ap (λ n. put_of file n (taken_of file slots) (one_past (taken_of file slots))) (sym same ∙ width)
    ]

module _ (file : CodeFile) (slots : List Slot) (s : Repairer) (one : Slot) (missed : ℕ) (text : List ℕ) (set : IsSet file s missed) (rests : Rests file slots s missed text) (width : width_in (slots ++ one ∷ []) ≡ s.m) where
  abbrev taken : List (Taken ℕ)
  taken = taken_of file slots

  now_of : values_now s (taken_of file slots) ≡ put_of file s.m (taken_of file slots) (one_past (taken_of file slots))
  now_of =
      ap (λ k. put_values k s.m s.deadline taken s.passed) set.k ∙ ap (λ d. put_values file.code.k s.m d taken s.passed) set.deadline
      ∙ ap (put_values file.code.k s.m file.channel.t taken) rests.passed

  -- refused after what was put out
  pub still_refused : (why : Option Refusal) (fault : RepairEnd) (a : Told) (before : List ℕ) → why ≡ Some (still file slots fault) → IsRefused why a a before before text fault
  still_refused why fault a before e = record {
    refused = still file slots fault;
    is_why = e;
    is_fault = refl;
    more = [];
    gives = GivesMore-none a before;
    is_text = append-nil text ∙ rests.ready.done.is_text ∙ ap values_text (now_of ∙ sym (values_rest file slots one s.m width));
  }

  -- the tests before a slot is looked at closer
  within_is : one.number < 4000000 → slot_refusal file slots one ≡ (if nat_lt one.number (one_past (taken_of file slots)) then None else refusal_by file slots one (misfit file slots one))
  within_is lt =
      ap (λ (b : Bool). if b then Some (still file slots (TooManySlots one.number)) else (if nat_lt one.number (one_past taken) then None else refusal_by file slots one (misfit file slots one))) (lt-leb 4000000 one.number lt)

  -- a slot that repeats
  pub repeat_gives : (a : Told) (before : List ℕ) → one.number < 4000000 → one.number < s.passed → (slot_refusal file slots one ≡ None) × GetsRest file a a before before (slots ++ one ∷ []) s missed text
  repeat_gives a before lt again =
      let past : one.number < one_past (taken_of file slots) = omega (arith, again, rests.passed) in
      let same : taken_of file slots ≡ taken_of file (slots ++ one ∷ []) = sym (taken_of-repeat file slots one past) in (
        within_is lt ∙ ap (λ (b : Bool). if b then None else refusal_by file slots one (misfit file slots one)) (lt-ltb one.number (one_past taken) past),
        record {
          more = [];
          gives = GivesMore-none a before;
          rests = record {
            ready = subst (IsReady s (taken_of file (slots ++ one ∷ [])) missed) (sym (append-nil text)) (subst (λ t. IsReady s t missed text) same rests.ready);
            passed = rests.passed ∙ ap one_past same;
            claim_near = subst (λ t. one_past t ≤ known_end t + file.channel.t) same rests.claim_near;
          };
        },
      )

  ahead_is : one.number < 4000000 → s.passed ≤ one.number → slot_refusal file slots one ≡ refusal_by file slots one (misfit file slots one)
  ahead_is lt le =
      within_is lt ∙ ap (λ (b : Bool). if b then None else refusal_by file slots one (misfit file slots one)) (le-ltb one.number (one_past taken) (omega (arith, le, rests.passed)))

  -- a slot that doesn't fit
  pub unfit_gives : (u : Unfit) (a : Told) (before : List ℕ) → one.number < 4000000 → s.passed ≤ one.number → FitGives s one (Err u) → IsRefused (slot_refusal file slots one) a a before before text (Unfits u)
  unfit_gives u a before lt le g =
      still_refused (slot_refusal file slots one) (Unfits u) a before
      (ahead_is lt le ∙ ap (refusal_by file slots one) (unfitting_is file slots s one rests.ready.stands width u g))

  -- ---- a slot that fits

  module _ (lt : one.number < 4000000) (le : s.passed ≤ one.number) (g : FitGives s one (Ok tt)) (by_deadline : one.end ≤ file.channel.t) (by_number : one.end ≤ one.number + 1) where
    abbrev it : Taken ℕ
    it = taken_slot file.code one

    pub stop_is : slot_refusal file slots one ≡ stop_by file s.m (taken_of file slots) (taken_slot file.code one)
    stop_is =
        ahead_is lt le ∙ ap (refusal_by file slots one) (fitting_is file slots s one rests.ready.stands width g)
        ∙ ap (λ m. stop_by file m taken it) g.0

    pushed : taken_of file (slots ++ one ∷ []) ≡ taken_of file slots ++ taken_slot file.code one ∷ []
    pushed = taken_of-push file slots one (omega (arith, le, rests.passed))

    below : AllBelow (taken_of file slots) (taken_slot file.code one).number
    below x c = omega (arith, AllBelow-one_past taken x c, rests.passed, le)

    past_is : one_past (taken_of file slots ++ taken_slot file.code one ∷ []) ≡ one.number + 1
    past_is = one_past-last taken it below

    near_claimed : (n : ℕ) → claimed (taken_of file slots ++ taken_slot file.code one ∷ []) ≡ Some n → one.number + 1 ≤ n + file.channel.t → one_past (taken_of file slots ++ taken_slot file.code one ∷ []) ≤ known_end (taken_of file slots ++ taken_slot file.code one ∷ []) + file.channel.t
    near_claimed n e close =
        let known : known_end (taken_of file slots ++ taken_slot file.code one ∷ []) ≡ n = ap (claimed_or (one_past (taken ++ it ∷ []))) e in
        omega (arith, known, past_is, close)

    near_open : claimed (taken_of file slots ++ taken_slot file.code one ∷ []) ≡ None → one_past (taken_of file slots ++ taken_slot file.code one ∷ []) ≤ known_end (taken_of file slots ++ taken_slot file.code one ∷ []) + file.channel.t
    near_open e =
        let known : known_end (taken_of file slots ++ taken_slot file.code one ∷ []) ≡ one_past (taken_of file slots ++ taken_slot file.code one ∷ []) = ap (claimed_or (one_past (taken ++ it ∷ []))) e in
        omega (arith, known)

    near_by : (is_claimed : Bool) (end : ℕ) → HasEnd is_claimed end (taken_of file slots) → FitsEnd is_claimed end one.number one.end → one_past (taken_of file slots ++ taken_slot file.code one ∷ []) ≤ known_end (taken_of file slots ++ taken_slot file.code one ∷ []) + file.channel.t
    near_by true end h f = near_claimed (one.number + 1 - one.end) (end_after_claim true end taken it f.0 f h) (omega (arith, by_deadline))
    near_by false end h (inr some) = near_claimed (one.number + 1 - one.end) (end_after_claim false end taken it some.0 (inr some) h) (omega (arith, by_deadline))
    near_by false end h (inl zero) = near_open (claimed-push_first taken it h.0 ∙ cond-true (nat_eq one.end 0) None (Some (one.number + 1 - one.end)) (eq-eqb one.end 0 zero))

    values_with : values_of file (slots ++ one ∷ []) ≡ put_of file s.m (taken_of file slots ++ taken_slot file.code one ∷ []) (one.number + 1)
    values_with =
        ap (λ m. put_of file m (taken_of file (slots ++ one ∷ [])) (one_past (taken_of file (slots ++ one ∷ [])))) width
        ∙ ap (λ t. put_of file s.m t (one_past t)) pushed ∙ ap (put_of file s.m (taken ++ it ∷ [])) past_is

    pub place_gives : (s' : Repairer) (a b : Told) (before after : List ℕ) (missed' : ℕ) (result : Result (Result (Unit {0}) RepairEnd) Failed) → SlotCounts file one.number s s' missed' result
        → SlotGives file s s' (taken_of file slots) (taken_slot file.code one) a b before after missed' text result → PlaceGives file s s' slots one a b before after missed' text result
    place_gives s' a b before after missed' (Ok (Ok u)) counts x = (
      stop_is ∙ x.0,
      record {
        more = x.1.more;
        gives = x.1.gives;
        rests = record {
          ready = subst (λ t. IsReady s' t missed' (text ++ x.1.more)) (sym pushed) x.1.ready;
          passed = counts.1 ∙ sym past_is ∙ ap one_past (sym pushed);
          claim_near = subst (λ t. one_past t ≤ known_end t + file.channel.t) (sym pushed) (near_by s.is_claimed s.end rests.ready.stands.has_end g.1);
        };
      },
    )
    place_gives s' a b before after missed' (Ok (Err fault)) counts x = subst (λ w. IsRefused w a b before after text fault) (sym stop_is) x
    place_gives s' a b before after missed' (Err e) counts x =
        subst (λ w. FallsShort (due_text w (values_of file (slots ++ one ∷ []))) a b before text) (sym stop_is)
        (subst (λ v. FallsShort (due_text (stop_by file s.m taken it) v) a b before text) (sym values_with) x)
