-- The steps of repairing: passing lost slots, and taking a slot that fits behind them.
use Rattle.std.proofs.Common.{◌≡◌, ℕ, ◌+◌, ◌<◌, ◌≤◌, false, None, List, [], ◌++◌, length, take, position, Option, option_map, Ok, refl, sym, ap, ◌∙◌, subst, arith, append_assoc, take_at, append-nil, Contains}
use Rattle.std.proofs.lemmas.List.{take-append-le, length-append}
use Rattle.std.proofs.lemmas.List.Quantifiers.{position-Some}
use Rattle.sc_field.specs.Gf256.{gf256_product}
use Rattle.sc_outside.specs.Port.{Told}
use Rattle.sc_code.specs.FirstBytes.{first_there}
use Rattle.sc_slots.specs.ProtectSteps.{GivesMore}
use Rattle.sc_slots.specs.Taken.{Taken, AllBelow}
use Rattle.sc_slots.specs.Repair.{HasNoClash}
use Rattle.sc_slots.proofs.FlushSteps.{GivesMore-none}
use Rattle.sc_slots.proofs.SettledLaws.{HasNoClash-iff_consistent, IsConsistent-longer}
use Rattle.sc_repair.specs.Repairer.{Repairer}
use Rattle.sc_repair.specs.Repairing.{values_text, is_bad_value}
use Rattle.sc_repair.specs.Stands.{Stands}
use Rattle.sc_repair.specs.Steps.{Done, PutsAll, Halts, LosesTo, AllCounts, values_by, end_of}
use Rattle.sc_repair.specs.RepairSteps.{IsReady, GetsReady, values_now}
use Rattle.sc_repair.specs.Values.{put_values}
use Rattle.sc_repair.proofs.ValueLaws.{put_values-grow, put_values-later}
use Rattle.sc_repair.proofs.Growth.{position-append}
use Rattle.sc_repair.proofs.AllSteps.{GivesMore-trans, Halts-after, LosesTo-after}

-- ---- values, and more behind them

front_is : (values rest : List (Option (List (List ℕ)))) (n : ℕ) → n ≤ length values → take n (values ++ rest) ≡ take n values
front_is values rest n le = take-append-le n values rest le

pub Halts-longer : (values rest : List (Option (List (List ℕ)))) (a b : Told) (before after text : List ℕ) (t : ℕ) → Halts values a b before after text t → Halts (values ++ rest) a b before after text t
Halts-longer values rest a b before after text t h =
    let within = (position-Some is_bad_value values t None h.first).0 in
    record {
      more = h.more;
      gives = h.gives;
      first = position-append is_bad_value values rest ∙ ap (λ o. first_there o (option_map (λ i. length values + i) (position is_bad_value rest))) h.first;
      is_text = h.is_text ∙ ap values_text (sym (front_is values rest t (omega (arith, within))));
    }

pub LosesTo-longer : (values rest : List (Option (List (List ℕ)))) (a b : Told) (before text : List ℕ) → LosesTo values a b before text → LosesTo (values ++ rest) a b before text
LosesTo-longer values rest a b before text h = record {
  more = h.more;
  loses = h.loses;
  n = h.n;
  within = omega (arith, h.within, length-append values rest);
  good = ap (position is_bad_value) (front_is values rest h.n h.within) ∙ h.good;
  is_text = h.is_text ∙ ap values_text (sym (front_is values rest h.n h.within));
}

-- where no slot is taken from v on, there is no clash behind it
pub clear_later : (k m : ℕ) (taken : List (Taken ℕ)) (v w : ℕ) → AllBelow taken v → v ≤ w → HasNoClash 0 gf256_product k m taken v → HasNoClash 0 gf256_product k m taken w
clear_later k m taken v w below le none =
    (HasNoClash-iff_consistent 0 gf256_product k m taken w).1 (IsConsistent-longer 0 gf256_product k m taken v w below le ((HasNoClash-iff_consistent 0 gf256_product k m taken v).0 none))

-- ---- what is ready

-- a front of the values was put out, and all of it stands at the front of more
Done-longer : (values rest : List (Option (List (List ℕ)))) (n missed : ℕ) (text : List ℕ) → n ≡ length values → Done values 4000000 missed text → Done (take n (values ++ rest)) 4000000 missed text
Done-longer values rest n missed text e d = subst (λ l. Done l 4000000 missed text) (sym (take_at values rest n (sym e))) d

module _ (s s' : Repairer) (taken more : List (Taken ℕ)) (missed : ℕ) (text : List ℕ) where
  -- Slots are passed or taken behind what is ready: what can be put out then begins with what was.
  pub ready_longer : IsReady s taken missed text → s'.k ≡ s.k → s'.m ≡ s.m → s'.deadline ≡ s.deadline → s'.next ≡ s.next → s'.finished ≡ false → s.passed ≤ s'.passed → ((slot : Taken ℕ) → Contains more slot → s.passed ≤ slot.number)
      → Stands s' (taken ++ more) → (rest : List (Option (List (List ℕ)))) × (values_by s' (taken ++ more) ≡ values_now s taken ++ rest) × (s'.next ≤ length (values_by s' (taken ++ more)))
      × Done (take s'.next (values_by s' (taken ++ more))) (end_of s' (taken ++ more)) missed text
  ready_longer r ek em ed en on le from st =
      let all = taken ++ more in
      let clear : HasNoClash 0 gf256_product s.k s.m all s'.passed =
      subst (λ k. HasNoClash 0 gf256_product k s.m all s'.passed) ek (subst (λ m. HasNoClash 0 gf256_product s'.k m all s'.passed) em st.history.no_clash) in
      let grown = put_values-grow s.k s.m s.deadline all s.passed s'.passed le clear in
      let same : put_values s.k s.m s.deadline all s.passed ≡ values_now s taken = put_values-later s.k s.m s.deadline taken more s.passed from r.stands.history.no_clash in
      let values : put_values s'.k s'.m s'.deadline all s'.passed ≡ values_now s taken ++ grown.0 =
      ap (λ k. put_values k s'.m s'.deadline all s'.passed) ek ∙ ap (λ m. put_values s.k m s'.deadline all s'.passed) em
      ∙ ap (λ d. put_values s.k s.m d all s'.passed) ed ∙ grown.1 ∙ ap (λ l. l ++ grown.0) same in
      let size : s'.next ≡ length (values_now s taken) = en ∙ r.next in
      let by : values_by s' (taken ++ more) ≡ values_now s taken ++ grown.0 = rw on values in
      let end : end_of s' (taken ++ more) ≡ 4000000 = rw on refl in (
        grown.0,
        by,
        omega (arith, size, ap length by, length-append (values_now s taken) grown.0),
        rw (by, end) (Done-longer (values_now s taken) grown.0 s'.next missed text size r.done),
      )

-- all was put out that could be
pub ready_again : (s s' : Repairer) (taken : List (Taken ℕ)) (a b : Told) (before after : List ℕ) (missed : ℕ) (text : List ℕ) → s.finished ≡ false → AllCounts s s' (Ok None) → Stands s taken → Stands s' taken
    → PutsAll (values_by s taken) (end_of s taken) a b before after missed text → GetsReady a b before after s' taken missed text
ready_again s s' taken a b before after missed text on counts st st' p =
    let now : values_now s' taken ≡ values_now s taken = ap (λ (r : Repairer). values_now r taken) counts.0 in
    let by : values_by s taken ≡ values_now s taken = rw on refl in
    let end : end_of s taken ≡ 4000000 = rw on refl in
    record {
      more = p.more;
      gives = p.gives;
      ready = record {
        stands = st';
        next = counts.2 on taken st ∙ ap length (sym now);
        done = rw now (subst (λ e. Done (values_now s taken) e missed (text ++ p.more)) end (subst (λ v. Done v (end_of s taken) missed (text ++ p.more)) by p.done));
      };
    }

-- more, and then it is ready
pub GetsReady-after : (a b c : Told) (before mid after : List ℕ) (s : Repairer) (taken : List (Taken ℕ)) (missed : ℕ) (text more : List ℕ) → GivesMore a b more before mid
    → GetsReady b c mid after s taken missed (text ++ more) → GetsReady a c before after s taken missed text
GetsReady-after a b c before mid after s taken missed text more first y = record {
  more = more ++ y.more;
  gives = GivesMore-trans a b c more y.more before mid after first y.gives;
  ready = subst (IsReady s taken missed) (append_assoc text more y.more) y.ready;
}

pub GetsReady-none : (a : Told) (before : List ℕ) (s : Repairer) (taken : List (Taken ℕ)) (missed : ℕ) (text : List ℕ) → IsReady s taken missed text → GetsReady a a before before s taken missed text
GetsReady-none a before s taken missed text r = record { more = []; gives = GivesMore-none a before; ready = subst (IsReady s taken missed) (sym (append-nil text)) r }

-- ---- passing lost slots

-- the same numbers, but for how far it is
abbrev pub Goes : Repairer → Repairer → Type 0
Goes s l = l ≡ record s { front = l.front; passed = l.passed; next = l.next; known = l.known; block = l.block }

-- a slot more is passed
abbrev pub PassesOne : Repairer → Repairer → Type 0
PassesOne l p = p ≡ record l { front = p.front; passed = p.passed; known = p.known }

module _ (s l p : Repairer) (taken : List (Taken ℕ)) (number missed : ℕ) (text : List ℕ) (goes : Goes s l) (on : s.finished ≡ false) (one : PassesOne l p) (passed : p.passed ≡ l.passed + 1) (r : IsReady l taken missed text) (st : Stands p taken) where
  go_on : p.finished ≡ false
  go_on = ap (λ (x : Repairer). x.finished) one ∙ ap (λ (x : Repairer). x.finished) goes ∙ on

  -- what can be put out once the slot is passed
  pub passed_longer : (rest : List (Option (List (List ℕ)))) × (values_by p taken ≡ values_now l taken ++ rest) × (p.next ≤ length (values_by p taken)) × Done (take p.next (values_by p taken)) (end_of p taken) missed text
  passed_longer =
      subst (λ t. (rest : List (Option (List (List ℕ)))) × (values_by p t ≡ values_now l taken ++ rest) × (p.next ≤ length (values_by p t)) × Done (take p.next (values_by p t)) (end_of p t) missed text) (append-nil taken)
      (ready_longer l p taken [] missed text r (ap (λ (x : Repairer). x.k) one) (ap (λ (x : Repairer). x.m) one) (ap (λ (x : Repairer). x.deadline) one) (ap (λ (x : Repairer). x.next) one) go_on (omega (arith, passed))
      (λ slot c. let lt : c.0 < 0 = c.1 in absurd (omega (arith, lt))) (subst (Stands p) (sym (append-nil taken)) st))

  -- it is a front of what can be once all slots below a number are
  passed_front : p.passed ≤ number → (rest : List (Option (List (List ℕ)))) × (put_values s.k s.m s.deadline taken number ≡ values_by p taken ++ rest)
  passed_front le =
      let clear = clear_later p.k p.m taken p.passed number st.history.below le st.history.no_clash in
      let grown = put_values-grow p.k p.m p.deadline taken p.passed number le clear in
      let by : values_by p taken ≡ put_values p.k p.m p.deadline taken p.passed = rw go_on refl in (
        grown.0,
        ap (λ (x : Repairer). put_values x.k x.m x.deadline taken number) (sym goes) ∙ ap (λ (x : Repairer). put_values x.k x.m x.deadline taken number) (sym one) ∙ grown.1
            ∙ ap (λ v. v ++ grown.0) (sym by),
      )

  module _ (a b c : Told) (before mid after : List ℕ) (text' more : List ℕ) (is : text ≡ text' ++ more) (first : GivesMore a b more before mid) where
    pub passed_ready : (q : Repairer) (missed' : ℕ) → AllCounts p q (Ok None) → Stands q taken → PutsAll (values_by p taken) (end_of p taken) b c mid after missed' text → GetsReady a c before after q taken missed' text'
    passed_ready q missed' counts st' y =
        GetsReady-after a b c before mid after q taken missed' text' more first (subst (GetsReady b c mid after q taken missed') is (ready_again p q taken b c mid after missed' text go_on counts st st' y))

    pub passed_halts : (t : ℕ) → p.passed ≤ number → Halts (values_by p taken) b c mid after text t → Halts (put_values s.k s.m s.deadline taken number) a c before after text' t
    passed_halts t le y =
        let f = passed_front le in
        subst (λ v. Halts v a c before after text' t) (sym f.1)
        (Halts-longer (values_by p taken) f.0 a c before after text' t (Halts-after (values_by p taken) a b c before mid text' more first t after (subst (λ l. Halts (values_by p taken) b c mid after l t) is y)))

    pub passed_loses : p.passed ≤ number → LosesTo (values_by p taken) b c mid text → LosesTo (put_values s.k s.m s.deadline taken number) a c before text'
    passed_loses le y =
        let f = passed_front le in
        subst (λ v. LosesTo v a c before text') (sym f.1)
        (LosesTo-longer (values_by p taken) f.0 a c before text' (LosesTo-after (values_by p taken) a b c before mid text' more first (subst (LosesTo (values_by p taken) b c mid) is y)))
