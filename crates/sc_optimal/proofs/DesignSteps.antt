-- What the makers answer, and the search through the candidates.
use Rattle.std.proofs.Common.{◌≡◌, ◌↔◌, ◌⊎◌, inl, inr, ℕ, suc, ◌+◌, ◌-◌, ◌<◌, ◌≤◌, Bool, true, false, is_none, nat_lt, List, Option, Some, None, Result, Ok, Err, IfOk, IfErr, refl, sym, ap, ◌∙◌, subst, arith}
use Rattle.std.proofs.lemmas.Bool.{cases_lt, lt-ltb, le-ltb}
use Rattle.sc_field.specs.Gf256.{gf256_product}
use Rattle.sc_code.specs.Code.{Code}
use Rattle.sc_code.specs.Determined.{Meets}
use Rattle.sc_channel.specs.Channel.{ChannelNumbers, IsChannel}
use Rattle.sc_channel.specs.Classes.{class_count}
use Rattle.sc_check.specs.Answer.{Refuted, refuted_of}
use Rattle.sc_check.specs.declared.verdict.Verdict.{Verdict}
use Rattle.sc_check.specs.declared.verdict.Verdict.TheVariants.{Meets as Meets_it, Fails}
use Rattle.sc_ms.specs.Burst.{burst_width}
use Rattle.sc_ms.specs.declared.burst.MakeFault.{MakeFault}
use Rattle.sc_ms.specs.declared.burst.MakeFault.TheVariants as of_ms
use Rattle.sc_layered.specs.declared.layered.WideFault.{WideFault}
use Rattle.sc_layered.specs.declared.layered.WideFault.TheVariants as of_layered
use Rattle.sc_optimal.specs.declared.kind.MakerKind.{MakerKind}
use Rattle.sc_optimal.specs.declared.kind.MakerKind.TheVariants.{Ms, Layered, Optimal}
use Rattle.sc_optimal.specs.declared.design.Found.{Found}
use Rattle.sc_optimal.specs.declared.kind.DesignFault.{DesignFault}
use Rattle.sc_optimal.specs.declared.kind.DesignFault.TheVariants.{NotBurst, TooWide, TooManyClasses, NoCode, Memory}
use Rattle.sc_optimal.specs.Candidates.{candidate, candidate_count, candidate_width, IsNotBurst, HasCandidates, IsMakeFault, burst_fault, wide_fault, IsGood}
use Rattle.sc_optimal.specs.Design.{IsTriedGood, IsTriedBad, IsFoundFirst, IsFoundNone, IsSearched, IsCheckable, IsDesigned, IsRefusedFor, is_not_burst, found_at, first_from, design_of}

ok_err : {A E : Type 0} (a : A) (e : E) → Ok a ≡ Err e → ⊥
ok_err {A} {E} a e h = subst (λ (r : Result A E). IfErr r (λ _. ⊥)) h tt

not_above : (m n : ℕ) → ¬ (m < n) → n ≤ m
not_above m n h = elim (cases_lt m n) [ inl above ↦ absurd (h above) | inr within ↦ within ]

module _ (kind : MakerKind) (channel : ChannelNumbers) where
  -- what is exact of a width
  abbrev pub IsExactWidth : Result (Code ℕ) WideFault → Type 0
  IsExactWidth result = (symbols : ℕ) → (result ≡ Err (of_layered.TooWide symbols)) ↔ ((64 < symbols) × (symbols ≡ candidate_width kind channel))

  pub made_wide : (result : Result (Code ℕ) WideFault) → ¬ IsNotBurst kind channel → IsExactWidth result → IfOk result (λ _. HasCandidates kind channel)
  made_wide (Ok code) burst exact =
      let w = candidate_width kind channel in
      record { burst = burst; width = not_above 64 w (λ h. ok_err code (of_layered.TooWide w) ((exact w).1 (h, refl))) }
  made_wide (Err fault) burst exact = tt

  pub fault_wide : (fault : WideFault) → ¬ IsNotBurst kind channel → IsExactWidth (Err fault) → IsMakeFault kind channel (wide_fault fault)
  fault_wide (of_layered.TooWide symbols) burst exact = let h = (exact symbols).0 refl in record { burst = burst; many = h.0; width = h.1 }
  fault_wide of_layered.Memory burst exact = tt

module _ (channel : ChannelNumbers) where
  abbrev pub IsExactBurst : Result (Code ℕ) MakeFault → Type 0
  IsExactBurst result = (result ≡ Err of_ms.NotBurst) ↔ (1 < channel.n)

  abbrev pub IsExactBurstWidth : Result (Code ℕ) MakeFault → Type 0
  IsExactBurstWidth result =
      (symbols : ℕ) → (result ≡ Err (of_ms.TooWide symbols)) ↔ ((channel.n ≡ 1) × ((64 < symbols) × (symbols ≡ burst_width channel)))

  one_loss : IsChannel channel → ¬ (1 < channel.n) → channel.n ≡ 1
  one_loss is h = let within = not_above 1 channel.n h in omega (arith, within, is.ordered.some_loss)

  pub made_burst : (code : Code ℕ) → IsChannel channel → IsExactBurst (Ok code) → IsExactBurstWidth (Ok code) → HasCandidates Ms channel
  made_burst code is not_burst exact =
      let burst : ¬ (1 < channel.n) = λ h. ok_err code of_ms.NotBurst (not_burst.1 h) in
      let w = burst_width channel in
      record { burst = burst; width = not_above 64 w (λ h. ok_err code (of_ms.TooWide w) ((exact w).1 (one_loss is burst, (h, refl)))) }

  pub fault_burst : (fault : MakeFault) → IsExactBurst (Err fault) → IsExactBurstWidth (Err fault) → IsMakeFault Ms channel (burst_fault fault)
  fault_burst of_ms.NotBurst not_burst exact = not_burst.0 refl
  fault_burst (of_ms.TooWide symbols) not_burst exact =
      let h = (exact symbols).0 refl in
      record { burst = λ more. absurd (omega (arith, more, h.0)); many = h.1.0; width = h.1.1 }
  fault_burst of_ms.Memory not_burst exact = tt

module _ (kind : MakerKind) (channel : ChannelNumbers) where
  -- ---- a candidate that was checked
  pub tried_good : (c : ℕ) (code : Code ℕ) → code ≡ candidate kind channel c → Meets 0 gf256_product code channel → None ≡ refuted_of code channel → IsTriedGood kind channel c code
  tried_good c code e good none = record {
    code_is = e;
    good = subst (λ (d : Code ℕ). Meets 0 gf256_product d channel) e good;
    kept = ap (λ (d : Code ℕ). is_none (refuted_of d channel)) (sym e) ∙ ap (λ (o : Option Refuted). is_none o) (sym none);
  }

  pub tried_bad : (c : ℕ) (code : Code ℕ) (r : Refuted) → code ≡ candidate kind channel c → ¬ Meets 0 gf256_product code channel → Some r ≡ refuted_of code channel → IsTriedBad kind channel c
  tried_bad c code r e bad some = record {
    bad = λ good. bad (subst (λ (d : Code ℕ). Meets 0 gf256_product d channel) (sym e) good);
    refuted = ap (λ (d : Code ℕ). is_none (refuted_of d channel)) (sym e) ∙ ap (λ (o : Option Refuted). is_none o) (sym some);
  }

  -- ---- the search
  from_good : (c n : ℕ) → is_none (refuted_of (candidate kind channel c) channel) ≡ true → first_from kind channel c (suc n) ≡ Ok (found_at kind channel c)
  unfolding first_from
  from_good c n kept = rw kept refl

  from_bad : (c n : ℕ) → is_none (refuted_of (candidate kind channel c) channel) ≡ false → first_from kind channel c (suc n) ≡ first_from kind channel (c + 1) n
  unfolding first_from
  from_bad c n refuted = rw refuted refl

  from_end : (c : ℕ) → first_from kind channel c 0 ≡ Err NoCode
  unfolding first_from
  from_end c = refl

  -- the first c candidates are bad, and the search goes on behind them
  pub record IsBehind (c : ℕ) : Type 0 where
    pub bad : (i : ℕ) → i < c → ¬ IsGood kind channel i
    pub rest : first_from kind channel 0 (candidate_count kind) ≡ first_from kind channel c (candidate_count kind - c)

  pub behind_none : IsBehind 0
  behind_none = record { bad = λ i h. absurd (omega arith); rest = let all : candidate_count kind ≡ candidate_count kind - 0 = omega arith in ap (first_from kind channel 0) all }

  pub behind_more : (c : ℕ) → c < candidate_count kind → IsBehind c → IsTriedBad kind channel c → IsBehind (c + 1)
  behind_more c within so_far tried =
      let n = candidate_count kind - (c + 1) in
      let left : candidate_count kind - c ≡ suc (candidate_count kind - (c + 1)) = omega arith in
      record {
        bad = λ i h. elim (cases_lt i c) [ inl before ↦ so_far.bad i before | inr past ↦ let same : c ≡ i = omega arith in subst (λ (j : ℕ). ¬ IsGood kind channel j) same tried.bad ];
        rest = so_far.rest ∙ ap (first_from kind channel c) left ∙ from_bad c n tried.refuted;
      }

  pub behind_found : (c : ℕ) (code : Code ℕ) → c < candidate_count kind → IsBehind c → IsTriedGood kind channel c code → IsFoundFirst kind channel (record { candidate = c; code = code })
  behind_found c code within so_far tried =
      let n = candidate_count kind - (c + 1) in
      let left : candidate_count kind - c ≡ suc (candidate_count kind - (c + 1)) = omega arith in
      record {
        first = record { within = within; code = tried.code_is; good = tried.good; earlier = so_far.bad };
        answer = so_far.rest ∙ ap (first_from kind channel c) left ∙ from_good c n tried.kept
            ∙ ap (λ (d : Code ℕ). let f : Found = record { candidate = c; code = d } in let r : Result Found DesignFault = Ok f in r) (sym tried.code_is);
      }

  pub behind_all : (c : ℕ) → c ≡ candidate_count kind → IsBehind c → IsFoundNone kind channel
  behind_all c e so_far =
      let none : candidate_count kind - c ≡ 0 = omega (arith, e) in
      record {
        fail = λ i h. so_far.bad i (omega (arith, e, h));
        answer = so_far.rest ∙ ap (first_from kind channel c) none ∙ from_end c;
      }

-- ---- the one answer
burst_true : (kind : MakerKind) (channel : ChannelNumbers) → IsNotBurst kind channel → is_not_burst kind channel ≡ true
burst_true Ms channel h = lt-ltb 1 channel.n h
burst_true Layered channel h = absurd h
burst_true Optimal channel h = absurd h

burst_false : (kind : MakerKind) (channel : ChannelNumbers) → ¬ IsNotBurst kind channel → is_not_burst kind channel ≡ false
burst_false Ms channel h = le-ltb 1 channel.n (not_above 1 channel.n h)
burst_false Layered channel h = refl
burst_false Optimal channel h = refl

module _ (kind : MakerKind) (channel : ChannelNumbers) where
  -- an answer, or want of memory
  abbrev pub IsAnswer : Result Found DesignFault → Type 0
  IsAnswer result = (result ≡ Err Memory) ⊎ (result ≡ design_of kind channel)

  pub answer_fault : (fault : DesignFault) → IsMakeFault kind channel fault → IsAnswer (Err fault)
  unfolding design_of
  answer_fault NotBurst h = inr (rw (burst_true kind channel h) refl)
  answer_fault (TooWide symbols) h =
      let wide : nat_lt 64 (candidate_width kind channel) ≡ true = lt-ltb 64 (candidate_width kind channel) (subst (λ n. 64 < n) h.width h.many) in
      inr (rw (burst_false kind channel h.burst, wide, h.width) refl)
  answer_fault (TooManyClasses count) h = absurd h
  answer_fault NoCode h = absurd h
  answer_fault Memory h = inl refl

  pub refused_fault : (fault : DesignFault) → IsMakeFault kind channel fault → IsRefusedFor kind channel fault
  refused_fault NotBurst h = h
  refused_fault (TooWide symbols) h = h
  refused_fault (TooManyClasses count) h = absurd h
  refused_fault NoCode h = absurd h
  refused_fault Memory h = tt

  -- the tests that come first
  has_false : HasCandidates kind channel → (is_not_burst kind channel ≡ false) × (nat_lt 64 (candidate_width kind channel) ≡ false)
  has_false has = (burst_false kind channel has.burst, le-ltb 64 (candidate_width kind channel) has.width)

  pub answer_classes : (count : ℕ) → HasCandidates kind channel → 1000000 < class_count channel → count ≡ class_count channel → IsAnswer (Err (TooManyClasses count))
  unfolding design_of
  answer_classes count has many e =
      let b = has_false has in
      let more : nat_lt 1000000 (class_count channel) ≡ true = lt-ltb 1000000 (class_count channel) many in
      inr (rw (b.0, b.1, more, e) refl)

  pub refused_classes : (count : ℕ) → HasCandidates kind channel → 1000000 < class_count channel → count ≡ class_count channel → IsRefusedFor kind channel (TooManyClasses count)
  refused_classes count has many e = record { candidates = has; many = subst (λ n. 1000000 < n) (sym e) many; classes = e }

  due : IsCheckable kind channel → first_from kind channel 0 (candidate_count kind) ≡ design_of kind channel
  unfolding design_of
  due is =
      let b = has_false is.candidates in
      let few : nat_lt 1000000 (class_count channel) ≡ false = le-ltb 1000000 (class_count channel) is.classes in
      rw (b.0, b.1, few) refl

  pub answer_searched : (result : Result Found DesignFault) → IsCheckable kind channel → IsSearched kind channel result → IsAnswer result
  answer_searched (Ok found) is h = inr (sym h.answer ∙ due is)
  answer_searched (Err NotBurst) is h = absurd h
  answer_searched (Err (TooWide symbols)) is h = absurd h
  answer_searched (Err (TooManyClasses count)) is h = absurd h
  answer_searched (Err NoCode) is h = inr (sym h.answer ∙ due is)
  answer_searched (Err Memory) is h = inl refl

  pub found_searched : (result : Result Found DesignFault) → IsCheckable kind channel → IsSearched kind channel result → IfOk result (IsDesigned kind channel)
  found_searched (Ok found) is h = record { checkable = is; first = h.first }
  found_searched (Err fault) is h = tt

  pub refused_searched : (result : Result Found DesignFault) → IsCheckable kind channel → IsSearched kind channel result → IfErr result (IsRefusedFor kind channel)
  refused_searched (Ok found) is h = tt
  refused_searched (Err NotBurst) is h = absurd h
  refused_searched (Err (TooWide symbols)) is h = absurd h
  refused_searched (Err (TooManyClasses count)) is h = absurd h
  refused_searched (Err NoCode) is h = record { checkable = is; fail = h.fail }
  refused_searched (Err Memory) is h = tt

-- a verdict is one of the two
pub fails_meets : (class : ℕ) (loss : List Bool) (stream : List (List ℕ)) → Fails class loss stream ≡ Meets_it → ⊥
fails_meets class loss stream e = subst IsFails e tt
  where
    IsFails : Verdict → Type 0
    IsFails (Fails class loss stream) = Unit {0}
    IsFails Meets_it = ⊥
