-- The steps of putting out: one value after the other.
use Rattle.std.proofs.Common.{◌≡◌, ℕ, Bool, true, false, ◌≤◌, List, [], ◌++◌, length, take, Option, Result, Ok, Err, sym, ap, ◌∙◌, subst, arith, append-nil, append_assoc}
use Rattle.sc_outside.specs.declared.error.Failed.{Failed}
use Rattle.sc_outside.specs.Port.{Told}
use Rattle.sc_outside.proofs.FaultsLaws.{Rose-earlier}
use Rattle.sc_outside.proofs.MovesLaws.{Puts-trans}
use Rattle.sc_slots.specs.ProtectSteps.{GivesMore, LosesMore}
use Rattle.sc_slots.specs.Taken.{Taken, one_past}
use Rattle.sc_slots.proofs.FlushSteps.{GivesMore-none}
use Rattle.sc_repair.specs.declared.put.Next.{Next}
use Rattle.sc_repair.specs.declared.put.Next.TheVariants.{Ended, More, Bad}
use Rattle.sc_repair.specs.Repairer.{Repairer}
use Rattle.sc_repair.specs.Stands.{Stands}
use Rattle.sc_repair.specs.Steps.{Done, PutsTo, PutsAll, Halts, LosesTo, NextGives, values_by, values_when, end_of}
use Rattle.sc_repair.specs.Values.{put_values, outcomes}

-- ---- more and more again

pub GivesMore-trans : (a b c : Told) (m n p q r : List ℕ) → GivesMore a b m p q → GivesMore b c n q r → GivesMore a c (m ++ n) p r
GivesMore-trans a b c m n p q r x y = record {
  put = x.put ++ y.put;
  puts = Puts-trans a b c x.put y.put x.puts y.puts;
  parts = sym (append_assoc p m n) ∙ ap (λ l. l ++ n) x.parts ∙ append_assoc x.put q n ∙ ap (λ l. x.put ++ l) y.parts ∙ sym (append_assoc x.put y.put r);
}

pub LosesMore-after : (a b c : Told) (m n p q : List ℕ) → GivesMore a b m p q → LosesMore b c n q → LosesMore a c (m ++ n) p
LosesMore-after a b c m n p q x y = record {
  lacking = y.lacking;
  gives = GivesMore-trans a b c m n p q y.lacking x y.gives;
  short = y.short;
  rose = Rose-earlier _ _ _ x.puts.moves.write_faults y.rose;
}

module _ (values : List (Option (List (List ℕ)))) where
  pub PutsTo-none : (end n : ℕ) (a : Told) (before : List ℕ) (missed : ℕ) (text : List ℕ) → n ≤ length values → Done (take n values) end missed text → PutsTo values end n a a before before missed text
  PutsTo-none end n a before missed text le d = record { more = []; gives = GivesMore-none a before; within = le; done = rw (append-nil text) d }

  -- ---- and then more, a bad value, or a write that fails

  module _ (a b c : Told) (before mid text : List ℕ) (more : List ℕ) (first : GivesMore a b more before mid) where
    pub PutsAll-after : (end missed : ℕ) (after : List ℕ) → PutsAll values end b c mid after missed (text ++ more) → PutsAll values end a c before after missed text
    PutsAll-after end missed after y = record {
      more = more ++ y.more;
      gives = GivesMore-trans a b c more y.more before mid after first y.gives;
      done = rw (sym (append_assoc text more y.more)) y.done;
    }

    pub PutsTo-after : (end n missed : ℕ) (after : List ℕ) → PutsTo values end n b c mid after missed (text ++ more) → PutsTo values end n a c before after missed text
    PutsTo-after end n missed after y = record {
      more = more ++ y.more;
      gives = GivesMore-trans a b c more y.more before mid after first y.gives;
      within = y.within;
      done = rw (sym (append_assoc text more y.more)) y.done;
    }

    pub Halts-after : (t : ℕ) (after : List ℕ) → Halts values b c mid after (text ++ more) t → Halts values a c before after text t
    Halts-after t after y = record {
      more = more ++ y.more;
      gives = GivesMore-trans a b c more y.more before mid after first y.gives;
      first = y.first;
      is_text = sym (append_assoc text more y.more) ∙ y.is_text;
    }

    pub LosesTo-after : LosesTo values b c mid (text ++ more) → LosesTo values a c before text
    LosesTo-after y = record {
      more = more ++ y.more;
      loses = LosesMore-after a b c more y.more before mid first y.loses;
      n = y.n;
      within = y.within;
      good = y.good;
      is_text = sym (append_assoc text more y.more) ∙ y.is_text;
    }

  next_after : (end n n' missed missed' : ℕ) (a b c : Told) (before mid after text : List ℕ) (result : Result Next Failed) → (x : PutsTo values end n a b before mid missed text)
      → NextGives values end n' b c mid after missed' (text ++ x.more) result → NextGives values end n' a c before after missed' text result
  next_after end n n' missed missed' a b c before mid after text (Ok Ended) x y = PutsAll-after a b c before mid text x.more x.gives end missed' after y
  next_after end n n' missed missed' a b c before mid after text (Ok More) x y = PutsTo-after a b c before mid text x.more x.gives end n' missed' after y
  next_after end n n' missed missed' a b c before mid after text (Ok (Bad t)) x y = Halts-after a b c before mid text x.more x.gives t after y
  next_after end n n' missed missed' a b c before mid after text (Err e) x y = LosesTo-after a b c before mid text x.more x.gives y

same_when : (b : Bool) (s l : Repairer) (taken : List (Taken ℕ)) → l ≡ record s { next = l.next; block = l.block } → values_when b l taken ≡ values_when b s taken
same_when true s l taken same = ap (λ (r : Repairer). outcomes r.k r.m r.deadline taken (one_past taken)) same
same_when false s l taken same = ap (λ (r : Repairer). put_values r.k r.m r.deadline taken r.passed) same

-- what can be put out is no matter of what was
pub same_values : (s l : Repairer) (taken : List (Taken ℕ)) → l ≡ record s { next = l.next; block = l.block } → values_by l taken ≡ values_by s taken
same_values s l taken same = ap (λ b. values_when b l taken) (ap (λ (r : Repairer). r.finished) same) ∙ same_when s.finished s l taken same

-- a turn more, of a repairer that has put out what it could before
pub turn_after : (s l : Repairer) (taken : List (Taken ℕ)) (n' missed missed' : ℕ) (a b c : Told) (before mid after text : List ℕ) (result : Result Next Failed) → l ≡ record s { next = l.next; block = l.block } → Stands l taken
    → PutsTo (values_by s taken) (end_of s taken) l.next a b before mid missed text
    → ((text' : List ℕ) → Stands l taken → l.next ≤ length (values_by l taken) → Done (take l.next (values_by l taken)) (end_of l taken) missed text'
    → NextGives (values_by l taken) (end_of l taken) n' b c mid after missed' text' result)
    → NextGives (values_by s taken) (end_of s taken) n' a c before after missed' text result
turn_after s l taken n' missed missed' a b c before mid after text result same st x go =
    let values : values_by l taken ≡ values_by s taken = same_values s l taken same in
    let ends : end_of l taken ≡ end_of s taken = ap (λ (r : Repairer). end_of r taken) same in
    let le : l.next ≤ length (values_by l taken) = omega (arith, x.within, ap length values) in
    let d : Done (take l.next (values_by l taken)) (end_of l taken) missed (text ++ x.more) = rw (values, ends) x.done in
    let y = go (text ++ x.more) st le d in
    next_after (values_by s taken) (end_of s taken) l.next n' missed missed' a b c before mid after text result x
    (subst (λ e. NextGives (values_by s taken) e n' b c mid after missed' (text ++ x.more) result) ends
    (subst (λ v. NextGives v (end_of l taken) n' b c mid after missed' (text ++ x.more) result) values y))
