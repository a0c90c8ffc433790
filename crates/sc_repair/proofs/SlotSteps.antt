-- The steps of repairing: a slot that fits, behind the lost ones before it.
use Rattle.std.proofs.Common.{◌≡◌, ℕ, ◌+◌, ◌≤◌, Bool, true, false, Some, None, List, [], ◌∷◌, ◌++◌, length, take, drop, position, Option, option_map, Ok, if◌then◌else◌, refl, sym, ap, ◌∙◌, subst, arith, append_assoc}
use Rattle.std.proofs.lemmas.List.{take-append-le, take-append-drop}
use Rattle.sc_field.specs.Gf256.{gf256_product}
use Rattle.sc_outside.specs.Ends.{IsPrefix}
use Rattle.sc_outside.specs.Port.{Told}
use Rattle.sc_code.specs.declared.code.CodeFile.{CodeFile}
use Rattle.sc_slots.specs.ProtectSteps.{GivesMore}
use Rattle.sc_slots.specs.Taken.{Taken}
use Rattle.sc_slots.specs.Repair.{IsConsistent, HasNoClash, IsClash}
use Rattle.sc_slots.proofs.FitLaws.{AllFrom-one}
use Rattle.sc_slots.proofs.SettledLaws.{HasNoClash-iff_consistent}
use Rattle.sc_repair.specs.declared.repair.RepairEnd.{RepairEnd}
use Rattle.sc_repair.specs.declared.repair.RepairEnd.TheVariants.{Clash, BadBlock}
use Rattle.sc_repair.specs.Repairer.{Repairer}
use Rattle.sc_repair.specs.Repairing.{Refusal, first_of, values_text, is_bad_value, bad_among, put_of, stop_by}
use Rattle.sc_repair.specs.Stands.{Stands}
use Rattle.sc_repair.specs.Steps.{Done, PutsAll, Halts, LosesTo, AllCounts, values_by, end_of}
use Rattle.sc_repair.specs.RepairSteps.{IsSet, GetsReady, values_now, PassCounts, IsRefused, due_text, FallsShort}
use Rattle.sc_repair.specs.Takes.{SameNumbers}
use Rattle.sc_repair.specs.Values.{is_consistent, put_values}
use Rattle.sc_repair.proofs.ValueLaws.{is_consistent-true, is_consistent-there, is_consistent-lacks, put_values-grow, put_values-later}
use Rattle.sc_repair.proofs.Growth.{values_text-append, bad_among-lacks, bad_among-none}
use Rattle.sc_repair.proofs.PutSteps.{due-front}
use Rattle.sc_repair.proofs.AllSteps.{GivesMore-trans, LosesMore-after}
use Rattle.sc_repair.proofs.PassSteps.{clear_later, GetsReady-after, ready_longer, ready_again}

-- ---- what stops a slot

-- by what is put out before it, whether a stream has it, and what is put out with it
abbrev stop_of : Option Refusal → Bool → Option Refusal → Refusal → Option Refusal
stop_of before fits with_it clash = first_of before (if fits then with_it else Some clash)

-- a bad block among values, and what is due up to it
pub bad_due : (values : List (Option (List (List ℕ)))) (t : ℕ) → position is_bad_value values ≡ Some t → bad_among values ≡ Some (record { fault = BadBlock t; values = take t values })
bad_due values t e = ap (option_map (λ i. let r : Refusal = record { fault = BadBlock i; values = take i values } in r)) e

-- a bad block stops the slot
halts_refused : (values : List (Option (List (List ℕ)))) (why : Option Refusal) (a b : Told) (before after text : List ℕ) (t : ℕ) → (bad_among values ≡ Some (record { fault = BadBlock t; values = take t values }) → why ≡ Some (record { fault = BadBlock t; values = take t values }))
    → Halts values a b before after text t → IsRefused why a b before after text (BadBlock t)
halts_refused values why a b before after text t is h = record {
  refused = record { fault = BadBlock t; values = take t values };
  is_why = is (bad_due values t h.first);
  is_fault = refl;
  more = h.more;
  gives = h.gives;
  is_text = h.is_text;
}

-- what is due holds what good values write at its front
loses_short : (values : List (Option (List (List ℕ)))) (due : List ℕ) (a b : Told) (before text : List ℕ) → ((n : ℕ) (t : List ℕ) → n ≤ length values → position is_bad_value (take n values) ≡ None → t ≡ values_text (take n values) → IsPrefix t due)
    → LosesTo values a b before text → FallsShort due a b before text
loses_short values due a b before text front h = record { more = h.more; loses = h.loses; prefix = front h.n (text ++ h.more) h.within h.good h.is_text }

-- more, and then it is refused or falls short
pub IsRefused-after : (why : Option Refusal) (a b c : Told) (before mid after text more : List ℕ) (fault : RepairEnd) → GivesMore a b more before mid → IsRefused why b c mid after (text ++ more) fault → IsRefused why a c before after text fault
IsRefused-after why a b c before mid after text more fault first y = record {
  refused = y.refused;
  is_why = y.is_why;
  is_fault = y.is_fault;
  more = more ++ y.more;
  gives = GivesMore-trans a b c more y.more before mid after first y.gives;
  is_text = sym (append_assoc text more y.more) ∙ y.is_text;
}

pub FallsShort-after : (due : List ℕ) (a b c : Told) (before mid text more : List ℕ) → GivesMore a b more before mid → FallsShort due b c mid (text ++ more) → FallsShort due a c before text
FallsShort-after due a b c before mid text more first y = record {
  more = more ++ y.more;
  loses = LosesMore-after a b c more y.more before mid first y.loses;
  prefix = subst (λ l. IsPrefix l due) (append_assoc text more y.more) y.prefix;
}

module _ (file : CodeFile) (m : ℕ) (taken : List (Taken ℕ)) (one : Taken ℕ) (clear : HasNoClash 0 gf256_product file.code.k m taken one.number) where
  abbrev after_it : List (Taken ℕ)
  after_it = taken ++ one ∷ []

  abbrev before_values : List (Option (List (List ℕ)))
  before_values = put_of file m taken one.number

  abbrev with_values : List (Option (List (List ℕ)))
  with_values = put_of file m after_it (one.number + 1)

  -- what is put out with the slot begins with what is put out before it
  grows : HasNoClash 0 gf256_product file.code.k m (taken ++ one ∷ []) (one.number + 1) → (rest : List (Option (List (List ℕ)))) × (put_of file m (taken ++ one ∷ []) (one.number + 1) ≡ put_of file m taken one.number ++ rest)
  grows none =
      let grown = put_values-grow file.code.k m file.channel.t after_it one.number (one.number + 1) (omega arith) none in
      (grown.0, grown.1 ∙ ap (λ l. l ++ grown.0) (put_values-later file.code.k m file.channel.t taken (one ∷ []) one.number (AllFrom-one one one.number (omega arith)) clear))

  all_fit : is_consistent file.code.k m (taken ++ one ∷ []) (one.number + 1) ≡ true → HasNoClash 0 gf256_product file.code.k m (taken ++ one ∷ []) (one.number + 1)
  all_fit yes' = (HasNoClash-iff_consistent 0 gf256_product file.code.k m after_it (one.number + 1)).1 (is_consistent-true file.code.k m after_it (one.number + 1) yes')

  -- a bad block before the slot
  pub stop_before : (r : Refusal) → bad_among (put_of file m taken one.number) ≡ Some r → stop_by file m taken one ≡ Some r
  stop_before r e = ap (λ o. first_of o (if is_consistent file.code.k m after_it (one.number + 1) then bad_among with_values else Some (record { fault = Clash one.number; values = before_values }))) e

  stop_behind : position is_bad_value (put_of file m taken one.number) ≡ None → stop_by file m taken one ≡ (if is_consistent file.code.k m (taken ++ one ∷ []) (one.number + 1) then bad_among (put_of file m (taken ++ one ∷ []) (one.number + 1)) else Some (record { fault = Clash one.number; values = put_of file m taken one.number }))
  stop_behind good = ap (λ o. first_of o (if is_consistent file.code.k m after_it (one.number + 1) then bad_among with_values else Some (record { fault = Clash one.number; values = before_values }))) (bad_among-lacks before_values good)

  -- no stream has it
  pub stop_clash : position is_bad_value (put_of file m taken one.number) ≡ None → is_consistent file.code.k m (taken ++ one ∷ []) (one.number + 1) ≡ false → stop_by file m taken one ≡ Some (record { fault = Clash one.number; values = put_of file m taken one.number })
  stop_clash good no' = stop_behind good ∙ ap (λ (b : Bool). if b then bad_among with_values else Some (record { fault = Clash one.number; values = before_values })) no'

  -- one has: then a bad block with it
  pub stop_with : position is_bad_value (put_of file m taken one.number) ≡ None → is_consistent file.code.k m (taken ++ one ∷ []) (one.number + 1) ≡ true → stop_by file m taken one ≡ bad_among (put_of file m (taken ++ one ∷ []) (one.number + 1))
  stop_with good yes' = stop_behind good ∙ ap (λ (b : Bool). if b then bad_among with_values else Some (record { fault = Clash one.number; values = before_values })) yes'

  abbrev due : List ℕ
  due = due_text (stop_by file m taken one) with_values

  due_with : (n : ℕ) (text : List ℕ) → position is_bad_value (put_of file m taken one.number) ≡ None → is_consistent file.code.k m (taken ++ one ∷ []) (one.number + 1) ≡ true
      → position is_bad_value (take n (put_of file m (taken ++ one ∷ []) (one.number + 1))) ≡ None → text ≡ values_text (take n (put_of file m (taken ++ one ∷ []) (one.number + 1)))
      → IsPrefix text (due_text (stop_by file m taken one) (put_of file m (taken ++ one ∷ []) (one.number + 1)))
  due_with n text good fits ok e = subst (λ o. IsPrefix text (due_text o with_values)) (sym (stop_with good fits)) (due-front with_values n text ok e)

  whole_front : (n : ℕ) (text : List ℕ) → text ≡ values_text (take n (put_of file m taken one.number)) → IsPrefix text (values_text (put_of file m taken one.number))
  whole_front n text e = record {
    rest = values_text (drop n before_values);
    parts = ap values_text (sym (take-append-drop n before_values)) ∙ values_text-append (take n before_values) (drop n before_values) ∙ ap (λ l. l ++ values_text (drop n before_values)) (sym e);
  }

  -- what good values before the slot write is a front of what is due
  pub due_before : (n : ℕ) (text : List ℕ) → n ≤ length (put_of file m taken one.number) → position is_bad_value (take n (put_of file m taken one.number)) ≡ None → text ≡ values_text (take n (put_of file m taken one.number))
      → IsPrefix text (due_text (stop_by file m taken one) (put_of file m (taken ++ one ∷ []) (one.number + 1)))
  due_before n text le good e = by_first (bad_among before_values) refl
    where
      by_fit : position is_bad_value (put_of file m taken one.number) ≡ None → (b : Bool) → is_consistent file.code.k m (taken ++ one ∷ []) (one.number + 1) ≡ b → IsPrefix text (due_text (stop_by file m taken one) (put_of file m (taken ++ one ∷ []) (one.number + 1)))
      by_fit none true is =
          let g = grows (all_fit is) in
          let front : take n (put_of file m (taken ++ one ∷ []) (one.number + 1)) ≡ take n (put_of file m taken one.number) = ap (take n) g.1 ∙ take-append-le n before_values g.0 le in
          due_with n text none is (ap (position is_bad_value) front ∙ good) (e ∙ ap values_text (sym front))
      by_fit none false is = subst (λ o. IsPrefix text (due_text o with_values)) (sym (stop_clash none is)) (whole_front n text e)

      by_first : (o : Option Refusal) → bad_among (put_of file m taken one.number) ≡ o → IsPrefix text (due_text (stop_by file m taken one) (put_of file m (taken ++ one ∷ []) (one.number + 1)))
      by_first None is = by_fit (bad_among-none before_values is) (is_consistent file.code.k m after_it (one.number + 1)) refl
      by_first (Some r) is =
          let front = due-front before_values n text good e in
          subst (λ o. IsPrefix text (due_text o with_values)) (sym (stop_before r is)) (subst (λ o. IsPrefix text (due_text o before_values)) is front)

-- ---- taking it

-- what can be put out before the slot, in the numbers of the file
module _ (file : CodeFile) (s : Repairer) (taken : List (Taken ℕ)) (one : Taken ℕ) (missed : ℕ) (set : IsSet file s missed) (order : s.passed ≤ one.number) (st : Stands s taken) where
  pub clear_of : HasNoClash 0 gf256_product file.code.k s.m taken one.number
  clear_of =
      subst (λ k. HasNoClash 0 gf256_product k s.m taken one.number) set.k (clear_later s.k s.m taken s.passed one.number st.history.below order st.history.no_clash)

  values_of_file : put_values s.k s.m s.deadline taken one.number ≡ put_of file s.m taken one.number
  values_of_file = ap (λ k. put_values k s.m s.deadline taken one.number) set.k ∙ ap (λ d. put_values file.code.k s.m d taken one.number) set.deadline

  -- a bad block among the lost slots before it
  pub pass_halts : (a b : Told) (before after text : List ℕ) (t : ℕ) → Halts (put_values s.k s.m s.deadline taken one.number) a b before after text t → IsRefused (stop_by file s.m taken one) a b before after text (BadBlock t)
  pass_halts a b before after text t h =
      halts_refused (put_of file s.m taken one.number) (stop_by file s.m taken one) a b before after text t
      (stop_before file s.m taken one clear_of (record { fault = BadBlock t; values = take t (put_of file s.m taken one.number) })) (subst (λ v. Halts v a b before after text t) values_of_file h)

  -- a write that fails among them
  pub pass_loses : (a b : Told) (before text : List ℕ) → LosesTo (put_values s.k s.m s.deadline taken one.number) a b before text
      → FallsShort (due_text (stop_by file s.m taken one) (put_of file s.m (taken ++ one ∷ []) (one.number + 1))) a b before text
  pass_loses a b before text h =
      loses_short (put_of file s.m taken one.number) (due_text (stop_by file s.m taken one) (put_of file s.m (taken ++ one ∷ []) (one.number + 1))) a b before text
      (due_before file s.m taken one clear_of) (subst (λ v. LosesTo v a b before text) values_of_file h)

  module _ (p : Repairer) (a b c : Told) (before mid after text : List ℕ) (missed' : ℕ) (counts : PassCounts one.number s p missed' (Ok None)) (x : GetsReady a b before mid p taken missed' text) where
    ek : p.k ≡ file.code.k
    ek = ap (λ (r : Repairer). r.k) counts.0 ∙ set.k

    em : p.m ≡ s.m
    em = ap (λ (r : Repairer). r.m) counts.0

    ed : p.deadline ≡ file.channel.t
    ed = ap (λ (r : Repairer). r.deadline) counts.0 ∙ set.deadline

    ep : p.passed ≡ one.number
    ep = ap (λ (r : Repairer). r.passed) counts.0

    en : p.finished ≡ false
    en = ap (λ (r : Repairer). r.finished) counts.0 ∙ set.goes_on

    now_is : values_now p taken ≡ put_of file s.m taken one.number
    now_is =
        ap (λ k. put_values k p.m p.deadline taken p.passed) ek ∙ ap (λ m. put_values file.code.k m p.deadline taken p.passed) em
        ∙ ap (λ d. put_values file.code.k s.m d taken p.passed) ed ∙ ap (put_values file.code.k s.m file.channel.t taken) ep

    good_before : position is_bad_value (put_of file s.m taken one.number) ≡ None
    good_before = ap (position is_bad_value) (sym now_is) ∙ x.ready.done.good

    -- no stream has it
    pub take_clashes : (number : ℕ) → number ≡ p.passed → IsClash 0 gf256_product p.k p.m (taken ++ one ∷ []) p.passed → IsRefused (stop_by file s.m taken one) a b before mid text (Clash number)
    take_clashes number e clash =
        let none : IsConsistent 0 gf256_product file.code.k s.m (taken ++ one ∷ []) (one.number + 1) → ⊥ =
        subst (λ k. IsConsistent 0 gf256_product k s.m (taken ++ one ∷ []) (one.number + 1) → ⊥) ek
        (subst (λ m. IsConsistent 0 gf256_product p.k m (taken ++ one ∷ []) (one.number + 1) → ⊥) em
        (subst (λ n. IsConsistent 0 gf256_product p.k p.m (taken ++ one ∷ []) (n + 1) → ⊥) ep clash.none_fits)) in
        record {
          refused = record { fault = Clash one.number; values = put_of file s.m taken one.number };
          is_why = stop_clash file s.m taken one clear_of good_before (is_consistent-lacks file.code.k s.m (taken ++ one ∷ []) (one.number + 1) none);
          is_fault = ap Clash (sym ep ∙ sym e);
          more = x.more;
          gives = x.gives;
          is_text = x.ready.done.is_text ∙ ap values_text now_is;
        }

    module _ (q : Repairer) (st' : Stands q (taken ++ one ∷ [])) (passed : q.passed ≡ p.passed + 1) (same : SameNumbers p q) where
      abbrev both : List (Taken ℕ)
      both = taken ++ one ∷ []

      on : q.finished ≡ false
      on = same.finished ∙ en

      -- what can be put out then
      pub taken_longer : (rest : List (Option (List (List ℕ)))) × (values_by q (taken ++ one ∷ []) ≡ values_now p taken ++ rest) × (q.next ≤ length (values_by q (taken ++ one ∷ [])))
          × Done (take q.next (values_by q (taken ++ one ∷ []))) (end_of q (taken ++ one ∷ [])) missed' (text ++ x.more)
      taken_longer =
          ready_longer p q taken (one ∷ []) missed' (text ++ x.more) x.ready same.k same.m same.deadline same.next on (omega (arith, passed)) (AllFrom-one one p.passed (omega (arith, ep))) st'

      with_is : values_by q (taken ++ one ∷ []) ≡ put_of file s.m (taken ++ one ∷ []) (one.number + 1)
      with_is =
          let by : values_by q (taken ++ one ∷ []) ≡ put_values q.k q.m q.deadline (taken ++ one ∷ []) q.passed = rw on refl in
          by ∙ ap (λ k. put_values k q.m q.deadline both q.passed) (same.k ∙ ek) ∙ ap (λ m. put_values file.code.k m q.deadline both q.passed) (same.m ∙ em)
          ∙ ap (λ d. put_values file.code.k s.m d both q.passed) (same.deadline ∙ ed) ∙ ap (put_values file.code.k s.m file.channel.t both) (passed ∙ ap (λ n. n + 1) ep)

      fits : is_consistent file.code.k s.m (taken ++ one ∷ []) (one.number + 1) ≡ true
      fits =
          let some = (HasNoClash-iff_consistent 0 gf256_product q.k q.m both q.passed).0 st'.history.no_clash in
          is_consistent-there file.code.k s.m both (one.number + 1)
          (subst (λ k. IsConsistent 0 gf256_product k s.m both (one.number + 1)) (same.k ∙ ek)
          (subst (λ m. IsConsistent 0 gf256_product q.k m both (one.number + 1)) (same.m ∙ em)
          (subst (λ n. IsConsistent 0 gf256_product q.k q.m both n) (passed ∙ ap (λ n. n + 1) ep) some)))

      pub taken_ready : (z : Repairer) (missed'' : ℕ) → AllCounts q z (Ok None) → Stands z (taken ++ one ∷ []) → PutsAll (values_by q (taken ++ one ∷ [])) (end_of q (taken ++ one ∷ [])) b c mid after missed'' (text ++ x.more)
          → (stop_by file s.m taken one ≡ None) × GetsReady a c before after z (taken ++ one ∷ []) missed'' text
      taken_ready z missed'' all st'' y =
          let good : position is_bad_value (put_of file s.m (taken ++ one ∷ []) (one.number + 1)) ≡ None = ap (position is_bad_value) (sym with_is) ∙ y.done.good in (
            stop_with file s.m taken one clear_of good_before fits ∙ bad_among-lacks (put_of file s.m both (one.number + 1)) good,
            GetsReady-after a b c before mid after z both missed'' text x.more x.gives (ready_again q z both b c mid after missed'' (text ++ x.more) on all st' st'' y),
          )

      pub taken_halts : (t : ℕ) → Halts (values_by q (taken ++ one ∷ [])) b c mid after (text ++ x.more) t → IsRefused (stop_by file s.m taken one) a c before after text (BadBlock t)
      taken_halts t y =
          IsRefused-after (stop_by file s.m taken one) a b c before mid after text x.more (BadBlock t) x.gives
          (halts_refused (put_of file s.m both (one.number + 1)) (stop_by file s.m taken one) b c mid after (text ++ x.more) t
          (λ e. stop_with file s.m taken one clear_of good_before fits ∙ e) (subst (λ v. Halts v b c mid after (text ++ x.more) t) with_is y))

      pub taken_loses : LosesTo (values_by q (taken ++ one ∷ [])) b c mid (text ++ x.more)
          → FallsShort (due_text (stop_by file s.m taken one) (put_of file s.m (taken ++ one ∷ []) (one.number + 1))) a c before text
      taken_loses y =
          FallsShort-after (due_text (stop_by file s.m taken one) (put_of file s.m both (one.number + 1))) a b c before mid text x.more x.gives
          (loses_short (put_of file s.m both (one.number + 1)) (due_text (stop_by file s.m taken one) (put_of file s.m both (one.number + 1))) b c mid (text ++ x.more)
          (λ n l le ok e. due_with file s.m taken one clear_of n l good_before fits ok e) (subst (λ v. LosesTo v b c mid (text ++ x.more)) with_is y))
