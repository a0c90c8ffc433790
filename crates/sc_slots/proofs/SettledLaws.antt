-- A slot has one value, and keeps it: what is settled stays settled the same as more slots are passed and taken, and once its
-- deadline is over it is what is recovered.
use Rattle.std.proofs.Common.{◌≡◌, ℕ, zero as nought, suc, ◌+◌, ◌-◌, ◌<◌, ◌≤◌, ◌⊎◌, ◌↔◌, min, List, [], ◌∷◌, ◌++◌, take, replicate, Option, Some, None, refl, sym, ap, ◌∙◌, subst, arith, inl, inr}
use Rattle.std.proofs.lemmas.Bool.{cases_lt, cases_order}
use Rattle.std.proofs.lemmas.List.{get_or_append_left}
use Rattle.std.proofs.lemmas.List.Elements.{All-nil, Contains-append_left, Contains-append_cases}
use Rattle.sc_code.specs.Stream.{IsBlock, zero_block}
use Rattle.sc_code.proofs.ColumnLaws.{IsBlock-zeros}
use Rattle.sc_slots.specs.Taken.{Taken, AllBelow, IsTakenAt}
use Rattle.sc_slots.specs.Repair.{Fits, IsConsistent, HasNoClash, AllHave, IsClash, IsRecovered, IsSettledAs, IsMissed, IsSettled, IsOutcome, IsPut}
use Rattle.sc_slots.proofs.FitLaws.{block_at-take, AllFrom, IsTakenAt-cases, IsStream-one, Fits-take, Fits-append, Fits-zeros, Fits-later}

pub AllFrom-weaker : {A : Type 0} (taken : List (Taken A)) (v w : ℕ) → v ≤ w → AllFrom taken w → AllFrom taken v
AllFrom-weaker taken v w le from slot c = let here : w ≤ slot.number = from slot c in omega arith

module _ {A : Type 0} (zero : A) (act : A → ℕ → ℕ) (k m : ℕ) where
  -- ---- clashes

  consistent_from : (taken : List (Taken A)) (w : ℕ) → HasNoClash zero act k m taken w → (n : ℕ) → n ≤ w → IsConsistent zero act k m taken n
  consistent_from taken w none nought le = ([], record { is_stream = All-nil (IsBlock k m); count = refl; slots = λ slot c lt. absurd (omega arith) })
  consistent_from taken w none (suc n) le =
      elim (IsTakenAt-cases taken n) [
        | inl here ↦ (let e : n + 1 ≡ suc n = omega arith in subst (λ (v : ℕ). IsConsistent zero act k m taken v) e (none n (omega arith) here))
        | inr free ↦ (
            let before = consistent_from taken w none n (omega arith) in (
              before.0 ++ zero_block k m ∷ [],
              Fits-append zero act k m taken n (suc n) before.0 (zero_block k m ∷ []) before.1 (IsStream-one k m (zero_block k m) (IsBlock-zeros k m)) (omega arith)
                  (λ slot c lt. elim (cases_lt slot.number n) [ inl lower ↦ lower | inr upper ↦ absurd (free (slot, c, omega arith)) ]),
            ))
      ]

  -- There is no clash below w exactly where some stream fits all that is taken below w.
  pub HasNoClash-iff_consistent : (taken : List (Taken A)) (w : ℕ) → HasNoClash zero act k m taken w ↔ IsConsistent zero act k m taken w
  HasNoClash-iff_consistent taken w = (
    λ none. consistent_from taken w none w (omega arith),
    λ some u lt here. (take (u + 1) some.0, Fits-take zero act k m taken w (u + 1) some.0 (omega arith) some.1),
  )

  pub HasNoClash-earlier : (taken : List (Taken A)) (v w : ℕ) → v ≤ w → HasNoClash zero act k m taken w → HasNoClash zero act k m taken v
  HasNoClash-earlier taken v w le none u lt here = none u (omega arith) here

  -- slots that are taken from w on change nothing that is said of what is below w
  pub HasNoClash-later : (taken more : List (Taken A)) (w : ℕ) → AllFrom more w → HasNoClash zero act k m (taken ++ more) w ↔ HasNoClash zero act k m taken w
  HasNoClash-later taken more w from =
      let both : (u : ℕ) → u < w → (xs : List (List (List ℕ))) → Fits zero act k m (taken ++ more) (u + 1) xs ↔ Fits zero act k m taken (u + 1) xs =
      λ u lt xs. Fits-later zero act k m taken more (u + 1) xs (AllFrom-weaker more (u + 1) w (omega arith) from) in (
        λ none u lt here. (
            let some = none u lt (here.0, Contains-append_left taken more here.0 here.1, here.2) in
            (some.0, (both u lt some.0).0 some.1)),
        λ none u lt here. (
            let earlier : IsTakenAt taken u =
            elim (Contains-append_cases taken more here.0 here.1) [
              | inl c ↦ (here.0, c, here.2)
              | inr c ↦ (let le : w ≤ here.0.number = from here.0 c in let e : here.0.number ≡ u = here.2 in absurd (omega arith))
            ] in
            let some = none u lt earlier in
            (some.0, (both u lt some.0).1 some.1)),
      )

  pub IsConsistent-later : (taken more : List (Taken A)) (w : ℕ) → AllFrom more w → IsConsistent zero act k m (taken ++ more) w ↔ IsConsistent zero act k m taken w
  IsConsistent-later taken more w from =
      (λ some. (some.0, (Fits-later zero act k m taken more w some.0 from).0 some.1), λ some. (some.0, (Fits-later zero act k m taken more w some.0 from).1 some.1))

  -- a clash stays one, whatever is taken after it
  pub IsClash-later : (taken more : List (Taken A)) (u : ℕ) → AllFrom more (u + 1) → IsClash zero act k m taken u → IsClash zero act k m (taken ++ more) u
  IsClash-later taken more u from clash =
      record {
        is_taken = (clash.is_taken.0, Contains-append_left taken more clash.is_taken.0 clash.is_taken.1, clash.is_taken.2);
        none_fits = λ some. clash.none_fits ((IsConsistent-later taken more (u + 1) from).0 some);
        first = (HasNoClash-later taken more u (AllFrom-weaker more u (u + 1) (omega arith) from)).1 clash.first;
      }

  -- there is one clash at most, and none below it
  pub IsClash-unique : (taken : List (Taken A)) (u v : ℕ) → IsClash zero act k m taken u → IsClash zero act k m taken v → u ≡ v
  IsClash-unique taken u v cu cv =
      elim (cases_order u v) [
        | inl same ↦ same
        | inr apart ↦ elim apart [
          | inl lower ↦ absurd (cu.none_fits (cv.first u lower cu.is_taken))
          | inr upper ↦ absurd (cv.none_fits (cu.first v upper cv.is_taken))
        ]
      ]

  -- ---- what all streams that fit have

  pub AllHave-longer : (taken : List (Taken A)) (v w t : ℕ) (b : List (List ℕ)) → t < v → v ≤ w → AllHave zero act k m taken v t b → AllHave zero act k m taken w t b
  AllHave-longer taken v w t b lt le all stream f = sym (block_at-take v stream t lt) ∙ all (take v stream) (Fits-take zero act k m taken w v stream le f)

  pub AllHave-later : (taken more : List (Taken A)) (w t : ℕ) (b : List (List ℕ)) → AllFrom more w → AllHave zero act k m (taken ++ more) w t b ↔ AllHave zero act k m taken w t b
  AllHave-later taken more w t b from =
      (λ all stream f. all stream ((Fits-later zero act k m taken more w stream from).1 f), λ all stream f. all stream ((Fits-later zero act k m taken more w stream from).0 f))

  -- one block at most
  pub AllHave-unique : (taken : List (Taken A)) (w t : ℕ) (b c : List (List ℕ)) → IsConsistent zero act k m taken w → AllHave zero act k m taken w t b → AllHave zero act k m taken w t c → b ≡ c
  AllHave-unique taken w t b c some hb hc = sym (hb some.0 some.1) ∙ hc some.0 some.1

  -- Where nothing is taken from w on, what is said below w is said of every longer stream: zero blocks may follow.
  pub AllHave-shorter : (taken : List (Taken A)) (v w t : ℕ) (b : List (List ℕ)) → AllBelow taken v → t < v → v ≤ w → AllHave zero act k m taken w t b → AllHave zero act k m taken v t b
  AllHave-shorter taken v w t b below lt le all stream f =
      let n = f.count in
      sym (get_or_append_left stream (replicate (w - v) (zero_block k m)) [] t (omega arith))
      ∙ all (stream ++ replicate (w - v) (zero_block k m)) (Fits-zeros zero act k m taken v w stream f le (λ slot c h. below slot c))

  pub IsConsistent-longer : (taken : List (Taken A)) (v w : ℕ) → AllBelow taken v → v ≤ w → IsConsistent zero act k m taken v → IsConsistent zero act k m taken w
  IsConsistent-longer taken v w below le some =
      (some.0 ++ replicate (w - v) (zero_block k m), Fits-zeros zero act k m taken v w some.0 some.1 le (λ slot c h. below slot c))

  pub IsConsistent-shorter : (taken : List (Taken A)) (v w : ℕ) → v ≤ w → IsConsistent zero act k m taken w → IsConsistent zero act k m taken v
  IsConsistent-shorter taken v w le some = (take v some.0, Fits-take zero act k m taken w v some.0 le some.1)

  -- ---- settled slots
  module _ (deadline : ℕ) where
    -- a slot is settled one way at most
    pub IsSettled-unique : (taken : List (Taken A)) (w t : ℕ) (x y : Option (List (List ℕ))) → IsSettled zero act k m deadline taken w t x → IsSettled zero act k m deadline taken w t y → x ≡ y
    IsSettled-unique taken w t (Some b) (Some c) hb hc =
        let some = (HasNoClash-iff_consistent taken w).0 hb.no_clash in
        ap Some (AllHave-unique taken (min w (t + deadline + 1)) t b c (IsConsistent-shorter taken (min w (t + deadline + 1)) w (omega arith) some) hb.all_have hc.all_have)
    IsSettled-unique taken w t (Some b) None hb hc = absurd (hc.not_one b hb.all_have)
    IsSettled-unique taken w t None (Some c) hb hc = absurd (hb.not_one c hc.all_have)
    IsSettled-unique taken w t None None hb hc = refl

    -- a slot that is settled stays so while more slots are passed with no clash
    pub IsSettled-stays : (taken : List (Taken A)) (v w t : ℕ) (x : Option (List (List ℕ))) → v ≤ w → HasNoClash zero act k m taken w → IsSettled zero act k m deadline taken v t x → IsSettled zero act k m deadline taken w t x
    IsSettled-stays taken v w t (Some b) le none h =
        let lt : t < v = h.is_passed in
        record {
          is_passed = omega arith;
          no_clash = none;
          all_have = AllHave-longer taken (min v (t + deadline + 1)) (min w (t + deadline + 1)) t b (omega arith) (omega arith) h.all_have;
        }
    IsSettled-stays taken v w t None le none h =
        let over : t + deadline < v = h.is_over in
        let same : min v (t + deadline + 1) ≡ min w (t + deadline + 1) = omega arith in
        record {
          is_over = omega arith;
          no_clash = none;
          not_one = subst (λ (n : ℕ). (b : List (List ℕ)) → AllHave zero act k m taken n t b → ⊥) same h.not_one;
        }

    -- and whatever is taken from there on
    pub IsSettled-later : (taken more : List (Taken A)) (w t : ℕ) (x : Option (List (List ℕ))) → AllFrom more w → IsSettled zero act k m deadline (taken ++ more) w t x ↔ IsSettled zero act k m deadline taken w t x
    IsSettled-later taken more w t (Some b) from =
        let none = HasNoClash-later taken more w from in
        let all = AllHave-later taken more (min w (t + deadline + 1)) t b (AllFrom-weaker more (min w (t + deadline + 1)) w (omega arith) from) in (
          λ h. record { is_passed = h.is_passed; no_clash = none.0 h.no_clash; all_have = all.0 h.all_have },
          λ h. record { is_passed = h.is_passed; no_clash = none.1 h.no_clash; all_have = all.1 h.all_have },
        )
    IsSettled-later taken more w t None from =
        let none = HasNoClash-later taken more w from in
        let early : AllFrom more (min w (t + deadline + 1)) = AllFrom-weaker more (min w (t + deadline + 1)) w (omega arith) from in (
          λ h. record { is_over = h.is_over; no_clash = none.0 h.no_clash; not_one = λ b all. h.not_one b ((AllHave-later taken more (min w (t + deadline + 1)) t b early).1 all) },
          λ h. record { is_over = h.is_over; no_clash = none.1 h.no_clash; not_one = λ b all. h.not_one b ((AllHave-later taken more (min w (t + deadline + 1)) t b early).0 all) },
        )

    -- What a repairer looks at for its next slot: while the deadline isn't over, all that is taken.
    pub IsSettledAs-iff_all : (taken : List (Taken A)) (w t : ℕ) (b : List (List ℕ)) → t < w → w ≤ t + deadline + 1 → HasNoClash zero act k m taken w → IsSettledAs zero act k m deadline taken w t b ↔ AllHave zero act k m taken w t b
    IsSettledAs-iff_all taken w t b lt le none =
        let same : min w (t + deadline + 1) ≡ w = omega arith in (
          λ h. subst (λ (n : ℕ). AllHave zero act k m taken n t b) same h.all_have,
          λ all. record { is_passed = lt; no_clash = none; all_have = subst (λ (n : ℕ). AllHave zero act k m taken n t b) (sym same) all },
        )

    pub IsMissed-iff_not_one : (taken : List (Taken A)) (w t : ℕ) → w ≡ t + deadline + 1 → HasNoClash zero act k m taken w → IsMissed zero act k m deadline taken w t ↔ ((b : List (List ℕ)) → ¬ AllHave zero act k m taken w t b)
    IsMissed-iff_not_one taken w t e none =
        let same : min w (t + deadline + 1) ≡ w = omega arith in (
          λ h. subst (λ (n : ℕ). (b : List (List ℕ)) → AllHave zero act k m taken n t b → ⊥) same h.not_one,
          λ not. record { is_over = omega arith; no_clash = none; not_one = subst (λ (n : ℕ). (b : List (List ℕ)) → AllHave zero act k m taken n t b → ⊥) (sym same) not },
        )

    -- Once its deadline is over, a slot is settled as what is recovered, or as missed where nothing is.
    pub IsSettled-iff_outcome : (taken : List (Taken A)) (w t : ℕ) (x : Option (List (List ℕ))) → t + deadline < w → HasNoClash zero act k m taken w → IsSettled zero act k m deadline taken w t x ↔ IsOutcome zero act k m deadline taken t x
    IsSettled-iff_outcome taken w t (Some b) over none =
        let same : min w (t + deadline + 1) ≡ t + deadline + 1 = omega arith in
        let some = IsConsistent-shorter taken (t + deadline + 1) w (omega arith) ((HasNoClash-iff_consistent taken w).0 none) in (
          λ h. record { consistent = some; all_have = subst (λ (n : ℕ). AllHave zero act k m taken n t b) same h.all_have },
          λ h. record { is_passed = omega arith; no_clash = none; all_have = subst (λ (n : ℕ). AllHave zero act k m taken n t b) (sym same) h.all_have },
        )
    IsSettled-iff_outcome taken w t None over none =
        let same : min w (t + deadline + 1) ≡ t + deadline + 1 = omega arith in
        let some = IsConsistent-shorter taken (t + deadline + 1) w (omega arith) ((HasNoClash-iff_consistent taken w).0 none) in (
          λ h b r. h.not_one b (subst (λ (n : ℕ). AllHave zero act k m taken n t b) (sym same) r.all_have),
          λ h. record { is_over = over; no_clash = none; not_one = λ b all. h b (record { consistent = some; all_have = subst (λ (n : ℕ). AllHave zero act k m taken n t b) same all }) },
        )

    -- so it is settled, where it is decided whether there is one block
    pub settled_where_decided : (taken : List (Taken A)) (w t : ℕ) → t + deadline < w → HasNoClash zero act k m taken w
        → ((b : List (List ℕ)) × IsRecovered zero act k m deadline taken t b) ⊎ ((b : List (List ℕ)) → ¬ IsRecovered zero act k m deadline taken t b)
        → (x : Option (List (List ℕ))) × IsSettled zero act k m deadline taken w t x
    settled_where_decided taken w t over none (inl r) = (Some r.0, (IsSettled-iff_outcome taken w t (Some r.0) over none).1 r.1)
    settled_where_decided taken w t over none (inr not_one) = (None, (IsSettled-iff_outcome taken w t None over none).1 not_one)

    -- a block is recovered one way at most
    pub IsRecovered-unique : (taken : List (Taken A)) (t : ℕ) (b c : List (List ℕ)) → IsRecovered zero act k m deadline taken t b → IsRecovered zero act k m deadline taken t c → b ≡ c
    IsRecovered-unique taken t b c hb hc = AllHave-unique taken (t + deadline + 1) t b c hb.consistent hb.all_have hc.all_have

    pub IsOutcome-unique : (taken : List (Taken A)) (t : ℕ) (x y : Option (List (List ℕ))) → IsOutcome zero act k m deadline taken t x → IsOutcome zero act k m deadline taken t y → x ≡ y
    IsOutcome-unique taken t (Some b) (Some c) hb hc = ap Some (IsRecovered-unique taken t b c hb hc)
    IsOutcome-unique taken t (Some b) None hb hc = absurd (hc b hb)
    IsOutcome-unique taken t None (Some c) hb hc = absurd (hb c hc)
    IsOutcome-unique taken t None None hb hc = refl

    -- At the end of the input, where all that was taken is below w: a slot is recovered exactly where it is settled as a block.
    pub IsRecovered-iff_settled : (taken : List (Taken A)) (w t : ℕ) (b : List (List ℕ)) → AllBelow taken w → t < w → HasNoClash zero act k m taken w
        → IsRecovered zero act k m deadline taken t b ↔ IsSettledAs zero act k m deadline taken w t b
    IsRecovered-iff_settled taken w t b below lt none =
        elim (cases_lt (t + deadline) w) [
          | inl over ↦ (let both = IsSettled-iff_outcome taken w t (Some b) over none in (both.1, both.0))
          | inr open_yet ↦ (
              let as_all = IsSettledAs-iff_all taken w t b lt (omega arith) none in (
                λ r. as_all.1 (AllHave-shorter taken w (t + deadline + 1) t b below lt (omega arith) r.all_have),
                λ s. record {
                  consistent = IsConsistent-longer taken w (t + deadline + 1) below (omega arith) ((HasNoClash-iff_consistent taken w).0 none);
                  all_have = AllHave-longer taken w (t + deadline + 1) t b lt (omega arith) (as_all.0 s);
                },
              ))
        ]

    -- What is settled is the outcome, once nothing more is taken.
    pub IsOutcome-from_settled : (taken : List (Taken A)) (w t : ℕ) (x : Option (List (List ℕ))) → HasNoClash zero act k m taken (t + deadline + 1) → IsSettled zero act k m deadline taken w t x → IsOutcome zero act k m deadline taken t x
    IsOutcome-from_settled taken w t (Some b) none h =
        let lt : t < w = h.is_passed in
        record {
          consistent = (HasNoClash-iff_consistent taken (t + deadline + 1)).0 none;
          all_have = AllHave-longer taken (min w (t + deadline + 1)) (t + deadline + 1) t b (omega arith) (omega arith) h.all_have;
        }
    IsOutcome-from_settled taken w t None none h = (IsSettled-iff_outcome taken w t None h.is_over h.no_clash).0 h

    -- ---- the slots that are put out

    pub IsPut-unique : (taken : List (Taken A)) (w p q : ℕ) → IsPut zero act k m deadline taken w p → IsPut zero act k m deadline taken w q → p ≡ q
    IsPut-unique taken w p q hp hq =
        let rp : p ≤ w = hp.in_range in
        let rq : q ≤ w = hq.in_range in
        elim (cases_order p q) [
          | inl same ↦ same
          | inr apart ↦ elim apart [
            | inl lower ↦ (let here = hq.below p lower in absurd (hp.greatest (omega arith) here.0 here.1))
            | inr upper ↦ (let here = hp.below q upper in absurd (hq.greatest (omega arith) here.0 here.1))
          ]
        ]

    -- no slot is taken back
    pub IsPut-monotone : (taken : List (Taken A)) (v w p q : ℕ) → v ≤ w → HasNoClash zero act k m taken w → IsPut zero act k m deadline taken v p → IsPut zero act k m deadline taken w q → p ≤ q
    IsPut-monotone taken v w p q le none hp hq =
        let rp : p ≤ v = hp.in_range in
        elim (cases_lt q p) [
          | inl lower ↦ (
              let here = hp.below q lower in
              absurd (hq.greatest (omega arith) here.0 (IsSettled-stays taken v w q here.0 le none here.1)))
          | inr fine ↦ fine
        ]

    -- slots that are taken from w on don't change what is put out
    pub IsPut-later : (taken more : List (Taken A)) (w p : ℕ) → AllFrom more w → IsPut zero act k m deadline (taken ++ more) w p ↔ IsPut zero act k m deadline taken w p
    IsPut-later taken more w p from = (
      λ h. record {
        in_range = h.in_range;
        below = λ t lt. (let here = h.below t lt in (here.0, (IsSettled-later taken more w t here.0 from).0 here.1));
        greatest = λ lt x s. h.greatest lt x ((IsSettled-later taken more w p x from).1 s);
      },
      λ h. record {
        in_range = h.in_range;
        below = λ t lt. (let here = h.below t lt in (here.0, (IsSettled-later taken more w t here.0 from).1 here.1));
        greatest = λ lt x s. h.greatest lt x ((IsSettled-later taken more w p x from).0 s);
      },
    )

    -- One more slot put out: where all below p are settled, p is what is put out as soon as slot p isn't settled.
    pub IsPut-from_next : (taken : List (Taken A)) (w p : ℕ) → p ≤ w → ((t : ℕ) → t < p → (x : Option (List (List ℕ))) × IsSettled zero act k m deadline taken w t x)
        → ((x : Option (List (List ℕ))) → ¬ IsSettled zero act k m deadline taken w p x) → IsPut zero act k m deadline taken w p
    IsPut-from_next taken w p le below not = record { in_range = le; below = below; greatest = λ lt. not }

    -- Where slot p isn't settled at w, at most deadline slots are passed above it.
    pub passed_where_not_settled : (taken : List (Taken A)) (w p : ℕ) → HasNoClash zero act k m taken w → ((x : Option (List (List ℕ))) → ¬ IsSettled zero act k m deadline taken w p x) → w ≤ p + deadline
    passed_where_not_settled taken w p none not =
        elim (cases_lt (p + deadline) w) [
          | inl over ↦ absurd (not None (record {
            is_over = over;
            no_clash = none;
            not_one = λ b all. not (Some b) (record { is_passed = omega arith; no_clash = none; all_have = all });
          }))
          | inr fine ↦ fine
        ]

    -- Every slot whose deadline is over is put out.
    pub put_after_deadline : (taken : List (Taken A)) (w p t : ℕ) → HasNoClash zero act k m taken w → IsPut zero act k m deadline taken w p → t + deadline < w → t < p
    put_after_deadline taken w p t none h over =
        let r : p ≤ w = h.in_range in
        elim (cases_lt p w) [
          | inl short ↦ (let near : w ≤ p + deadline = passed_where_not_settled taken w p none (h.greatest short) in omega arith)
          | inr all ↦ omega arith
        ]
