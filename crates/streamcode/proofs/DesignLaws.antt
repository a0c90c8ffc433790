-- `design`, in the words of codes.
use Rattle.std.proofs.Common.{◌≡◌, ◌⊎◌, inl, inr, ℕ, zero, suc, ◌+◌, ◌<◌, ◌≤◌, Bool, true, false, is_none, nat_lt, Option, None, Some, List, Result, Ok, Err, refl, sym, ap, ◌∙◌, subst, arith}
use Rattle.std.proofs.lemmas.Bool.{cases_lt, lt-ltb, le-ltb}
use Rattle.sc_field.specs.Gf256.{gf256_product}
use Rattle.sc_outside.specs.Ends.{Due}
use Rattle.sc_channel.specs.Channel.{ChannelNumbers, IsChannel}
use Rattle.sc_channel.specs.Classes.{class_count}
use Rattle.sc_code.specs.Code.{Code}
use Rattle.sc_code.specs.Determined.{Meets}
use Rattle.sc_check.specs.Answer.{Refuted, refuted_of}
use Rattle.sc_check.proofs.AnswerLaws.{answer-none}
use Rattle.sc_optimal.specs.declared.design.Found.{Found}
use Rattle.sc_optimal.specs.declared.kind.DesignFault.{DesignFault}
use Rattle.sc_optimal.specs.declared.kind.DesignFault.TheVariants.{NotBurst, TooWide, TooManyClasses, NoCode, Memory}
use Rattle.sc_optimal.specs.declared.kind.MakerKind.{MakerKind}
use Rattle.sc_optimal.specs.declared.kind.MakerKind.TheVariants.{Ms, Layered, Optimal}
use Rattle.sc_optimal.specs.Candidates.{candidate, candidate_count, candidate_width, IsNotBurst, HasCandidates, IsTooWide, IsGood}
use Rattle.sc_optimal.specs.Design.{IsCheckable, IsDesigned, HasManyClasses, HasNoCode, is_not_burst, found_at, first_from, design_of}
use Rattle.sc_words.specs.declared.words.Kind.{Kind}
use Rattle.streamcode.specs.declared.end.End.{End}
use Rattle.streamcode.specs.End.{status_of}
use Rattle.streamcode.specs.Jobs.{maker_of, design_by}
use Rattle.streamcode.specs.CheckLaws.{MayCheck, FileMeets}
use Rattle.streamcode.specs.DesignLaws.{due_of_design, file_of, GivesFirst, ZeroGivesFirst, FirstIsGiven, TenIsNoCode, FourIsTooWide, ElevenIsTooMany}
use Rattle.streamcode.proofs.CandidateSteps.{IsCode-candidate}
use Rattle.streamcode.proofs.CheckLaws.{meeting-printed}

none_is : (o : Option Refuted) → is_none o ≡ true → o ≡ None
none_is None e = refl
none_is (Some r) e = absurd (cc)

-- why this is the answer for a kind and a channel
abbrev Caused : MakerKind → ChannelNumbers → Result Found DesignFault → Type 0
Caused kind channel (Ok found) = IsDesigned kind channel found
Caused kind channel (Err NotBurst) = IsNotBurst kind channel
Caused kind channel (Err (TooWide symbols)) = IsTooWide kind channel symbols
Caused kind channel (Err (TooManyClasses count)) = HasManyClasses kind channel count
Caused kind channel (Err NoCode) = HasNoCode kind channel
Caused kind channel (Err Memory) = ⊥

module _ (kind : MakerKind) (channel : ChannelNumbers) (is : IsChannel channel) where
  -- ---- what the test of a candidate says
  abbrev is_kept : ℕ → Bool
  is_kept c = is_none (refuted_of (candidate kind channel c) channel)

  kept-good : HasCandidates kind channel → (c : ℕ) → is_kept c ≡ true → IsGood kind channel c
  kept-good has c e =
      (answer-none (candidate kind channel c) channel (IsCode-candidate kind channel c is has) is).0 (none_is (refuted_of (candidate kind channel c) channel) e)

  good-kept : HasCandidates kind channel → (c : ℕ) → IsGood kind channel c → is_kept c ≡ true
  good-kept has c h =
      ap (λ (o : Option Refuted). is_none o) ((answer-none (candidate kind channel c) channel (IsCode-candidate kind channel c is has) is).1 h)

  -- ---- the search from a candidate on
  from_here : (c n : ℕ) → is_kept c ≡ true → first_from kind channel c (suc n) ≡ Ok (found_at kind channel c)
  unfolding first_from
  from_here c n e = rw e refl

  from_next : (c n : ℕ) → is_kept c ≡ false → first_from kind channel c (suc n) ≡ first_from kind channel (c + 1) n
  unfolding first_from
  from_next c n e = rw e refl

  from_end : (c : ℕ) → first_from kind channel c zero ≡ Err NoCode
  unfolding first_from
  from_end c = refl

  -- the first that is kept, among so many from c on, or none is
  record IsFirstKept (c n m : ℕ) : Type 0 where
    from : c ≤ m
    within : m < c + n
    kept : is_kept m ≡ true
    earlier : (i : ℕ) → c ≤ i → i < m → is_kept i ≡ false
    answer : first_from kind channel c n ≡ Ok (found_at kind channel m)

  record AreNoneKept (c n : ℕ) : Type 0 where
    none : (i : ℕ) → c ≤ i → i < c + n → is_kept i ≡ false
    answer : first_from kind channel c n ≡ Err NoCode

  abbrev Search : ℕ → ℕ → Type 0
  Search c n = ((m : ℕ) × IsFirstKept c n m) ⊎ AreNoneKept c n

  -- what is so of c and of all behind it
  at_or_behind : (c i : ℕ) → c ≤ i → (c ≡ i) ⊎ (c + 1 ≤ i)
  at_or_behind c i h = elim (cases_lt c i) [ inl behind ↦ inr (omega (arith, behind)) | inr at ↦ inl (omega (arith, h, at)) ]

  unkept_there : (c i : ℕ) → is_kept c ≡ false → c ≤ i → (c + 1 ≤ i → is_kept i ≡ false) → is_kept i ≡ false
  unkept_there c i here h behind = elim (at_or_behind c i h) [ inl at ↦ subst (λ (j : ℕ). is_kept j ≡ false) at here | inr more ↦ behind more ]

  search_on : (c n : ℕ) (test : Bool) → is_kept c ≡ test → Search (c + 1) n → Search c (suc n)
  search_on c n true e behind = inl (
    c,
    record {
      from = omega arith;
      within = omega arith;
      kept = e;
      earlier = λ i h lt. absurd (omega (arith, h, lt));
      answer = from_here c n e;
    },
  )
  search_on c n false e (inl (m, h)) = inl (
    m,
    record {
      from = omega (arith, h.from);
      within = omega (arith, h.within);
      kept = h.kept;
      earlier = λ i at lt. unkept_there c i e at (λ more. h.earlier i more lt);
      answer = from_next c n e ∙ h.answer;
    },
  )
  search_on c n false e (inr h) = inr (record {
    none = λ i at lt. unkept_there c i e at (λ more. h.none i more (omega (arith, lt)));
    answer = from_next c n e ∙ h.answer;
  })

  search : (c n : ℕ) → Search c n
  search c zero = inr (record { none = λ i h lt. absurd (omega (arith, h, lt)); answer = from_end c })
  search c (suc n) = search_on c n (is_kept c) refl (search (c + 1) n)

  -- ---- the one answer, by its causes
  burst_true : (k : MakerKind) → IsNotBurst k channel → is_not_burst k channel ≡ true
  burst_true Ms h = lt-ltb 1 channel.n h
  burst_true Layered h = absurd h
  burst_true Optimal h = absurd h

  burst_false : (k : MakerKind) → ¬ IsNotBurst k channel → is_not_burst k channel ≡ false
  burst_false Ms h = elim (cases_lt 1 channel.n) [ inl more ↦ absurd (h more) | inr one ↦ le-ltb 1 channel.n one ]
  burst_false Layered h = refl
  burst_false Optimal h = refl

  burst_cases : (k : MakerKind) → IsNotBurst k channel ⊎ (¬ IsNotBurst k channel)
  burst_cases Ms = elim (cases_lt 1 channel.n) [ inl more ↦ inl more | inr one ↦ inr (λ more. absurd (omega (arith, one, more))) ]
  burst_cases Layered = inr (λ h. h)
  burst_cases Optimal = inr (λ h. h)

  -- it is the answer then
  of_burst : IsNotBurst kind channel → design_of kind channel ≡ Err NotBurst
  unfolding design_of
  of_burst h = rw (burst_true kind h) refl

  of_wide : (symbols : ℕ) → IsTooWide kind channel symbols → design_of kind channel ≡ Err (TooWide symbols)
  unfolding design_of
  of_wide symbols h =
      let wide : nat_lt 64 (candidate_width kind channel) ≡ true = lt-ltb 64 (candidate_width kind channel) (subst (λ n. 64 < n) h.width h.many) in
      rw (burst_false kind h.burst, wide, h.width) refl

  of_many : (count : ℕ) → HasManyClasses kind channel count → design_of kind channel ≡ Err (TooManyClasses count)
  unfolding design_of
  of_many count h =
      let thin : nat_lt 64 (candidate_width kind channel) ≡ false = le-ltb 64 (candidate_width kind channel) h.candidates.width in
      let many : nat_lt 1000000 (class_count channel) ≡ true = lt-ltb 1000000 (class_count channel) (subst (λ n. 1000000 < n) h.classes h.many) in
      rw (burst_false kind h.candidates.burst, thin, many, h.classes) refl

  of_search : IsCheckable kind channel → design_of kind channel ≡ first_from kind channel 0 (candidate_count kind)
  unfolding design_of
  of_search h =
      let thin : nat_lt 64 (candidate_width kind channel) ≡ false = le-ltb 64 (candidate_width kind channel) h.candidates.width in
      let few : nat_lt 1000000 (class_count channel) ≡ false = le-ltb 1000000 (class_count channel) h.classes in
      rw (burst_false kind h.candidates.burst, thin, few) refl

  not_kept : HasCandidates kind channel → (c : ℕ) → is_kept c ≡ false → ¬ IsGood kind channel c
  not_kept has c e good = let kept = good-kept has c good in absurd (cc)

  -- each cause, with the answer
  record Answered : Type 0 where
    result : Result Found DesignFault
    answer : design_of kind channel ≡ result
    caused : Caused kind channel result

  answered_search : IsCheckable kind channel → Search 0 (candidate_count kind) → Answered
  answered_search h (inl (m, first)) = record {
    result = Ok (found_at kind channel m);
    answer = of_search h ∙ first.answer;
    caused = record {
      checkable = h;
      first = record {
        within = omega (arith, first.within);
        code = refl;
        good = kept-good h.candidates m first.kept;
        earlier = λ c lt. not_kept h.candidates c (first.earlier c (omega arith) lt);
      };
    };
  }
  answered_search h (inr none) = record {
    result = Err NoCode;
    answer = of_search h ∙ none.answer;
    caused = record { checkable = h; fail = λ c lt. not_kept h.candidates c (none.none c (omega arith) (omega (arith, lt))) };
  }

  answered_classes : HasCandidates kind channel → (1000000 < class_count channel) ⊎ (class_count channel ≤ 1000000) → Answered
  answered_classes has (inl many) =
      let cause : HasManyClasses kind channel (class_count channel) = record { candidates = has; many = many; classes = refl } in
      record { result = Err (TooManyClasses (class_count channel)); answer = of_many (class_count channel) cause; caused = cause }
  answered_classes has (inr few) = answered_search (record { candidates = has; classes = few }) (search 0 (candidate_count kind))

  answered_width : ¬ IsNotBurst kind channel → (64 < candidate_width kind channel) ⊎ (candidate_width kind channel ≤ 64) → Answered
  answered_width burst (inl wide) =
      let cause : IsTooWide kind channel (candidate_width kind channel) = record { burst = burst; many = wide; width = refl } in
      record { result = Err (TooWide (candidate_width kind channel)); answer = of_wide (candidate_width kind channel) cause; caused = cause }
  answered_width burst (inr thin) = answered_classes (record { burst = burst; width = thin }) (cases_lt 1000000 (class_count channel))

  answered_burst : IsNotBurst kind channel ⊎ (¬ IsNotBurst kind channel) → Answered
  answered_burst (inl more) = record { result = Err NotBurst; answer = of_burst more; caused = more }
  answered_burst (inr burst) = answered_width burst (cases_lt 64 (candidate_width kind channel))

  answered : Answered
  answered = answered_burst (burst_cases kind)

  -- so the answer has its cause
  pub answer-caused : (result : Result Found DesignFault) → design_of kind channel ≡ result → Caused kind channel result
  answer-caused result e = let a = answered in subst (Caused kind channel) (sym a.answer ∙ e) a.caused

  -- the first good one is that of the search
  least_same : (m : ℕ) (found : Found) → IsFirstKept 0 (candidate_count kind) m → IsDesigned kind channel found → m ≡ found.candidate
  least_same m found first h =
      let has = h.checkable.candidates in
      elim (cases_lt m found.candidate) [
        | inl before ↦ absurd (h.first.earlier m before (kept-good has m first.kept))
        | inr from ↦ elim (cases_lt found.candidate m) [
          | inl behind ↦ (
              let unkept = first.earlier found.candidate (omega arith) behind in
              let kept = good-kept has found.candidate h.first.good in
              absurd (cc))
          | inr to ↦ omega (arith, from, to)
        ]
      ]

  found_is : (m : ℕ) (found : Found) → m ≡ found.candidate → found.code ≡ candidate kind channel found.candidate → (let r : Result Found DesignFault = Ok (found_at kind channel m) in r) ≡ Ok found
  found_is m found same code =
      ap (λ (n : ℕ). let r : Result Found DesignFault = Ok (found_at kind channel n) in r) same
      ∙ ap (λ (d : Code ℕ). let f : Found = record { candidate = found.candidate; code = d } in let r : Result Found DesignFault = Ok f in r) (sym code)

  designed_by : (found : Found) → IsDesigned kind channel found → Search 0 (candidate_count kind) → design_of kind channel ≡ Ok found
  designed_by found h (inl (m, first)) = of_search h.checkable ∙ first.answer ∙ found_is m found (least_same m found first h) h.first.code
  designed_by found h (inr none) =
      let unkept = none.none found.candidate (omega arith) (omega (arith, h.first.within)) in
      let kept = good-kept h.checkable.candidates found.candidate h.first.good in
      absurd (cc)

  pub of_designed : (found : Found) → IsDesigned kind channel found → design_of kind channel ≡ Ok found
  of_designed found h = designed_by found h (search 0 (candidate_count kind))

  none_by : HasNoCode kind channel → Search 0 (candidate_count kind) → design_of kind channel ≡ Err NoCode
  none_by h (inl (m, first)) = absurd (h.fail m (omega (arith, first.within)) (kept-good h.checkable.candidates m first.kept))
  none_by h (inr none) = of_search h.checkable ∙ none.answer

  of_none : HasNoCode kind channel → design_of kind channel ≡ Err NoCode
  of_none h = none_by h (search 0 (candidate_count kind))

-- ---- what is due
due_as : (kind : Kind) (channel : ChannelNumbers) (input : List ℕ) (result : Result Found DesignFault) → design_of (maker_of kind) channel ≡ result
    → due_of_design kind channel input ≡ (design_by channel result).whole input
due_as kind channel input result e = ap (λ (r : Result Found DesignFault). (design_by channel r).whole input) e

pub first-given : FirstIsGiven
first-given kind channel input found is h = due_as kind channel input (Ok found) (of_designed (maker_of kind) channel is found h)

first_meets : (kind : MakerKind) (channel : ChannelNumbers) (found : Found) → IsDesigned kind channel found → FileMeets (file_of channel found)
first_meets kind channel found h = subst (λ (d : Code ℕ). Meets 0 gf256_product d channel) (sym h.first.code) h.first.good

may_check : (kind : MakerKind) (channel : ChannelNumbers) (found : Found) → IsChannel channel → IsDesigned kind channel found → MayCheck (file_of channel found)
may_check kind channel found is h = record {
  channel = is;
  code = rw h.first.code (IsCode-candidate kind channel found.candidate is h.checkable.candidates);
  few = h.checkable.classes;
}

gives : (kind : Kind) (channel : ChannelNumbers) (input : List ℕ) (found : Found) → IsChannel channel → IsDesigned (maker_of kind) channel found → GivesFirst kind channel input
gives kind channel input found is h =
    let meets = first_meets (maker_of kind) channel found h in
    record {
      found = found;
      is_first = h;
      meets = meets;
      given = first-given kind channel input found is h;
      accepted = λ other. meeting-printed (file_of channel found) other (may_check (maker_of kind) channel found is h) meets;
    }

-- the status of an answer
abbrev status_by : Result Found DesignFault → ℕ
status_by (Ok found) = 0
status_by (Err NotBurst) = 10
status_by (Err (TooWide symbols)) = 4
status_by (Err (TooManyClasses count)) = 11
status_by (Err NoCode) = 10
status_by (Err Memory) = 9

status_is : (channel : ChannelNumbers) (input : List ℕ) (result : Result Found DesignFault) → status_of ((design_by channel result).whole input).answer ≡ status_by result
status_is channel input (Ok found) = refl
status_is channel input (Err NotBurst) = refl
status_is channel input (Err (TooWide symbols)) = refl
status_is channel input (Err (TooManyClasses count)) = refl
status_is channel input (Err NoCode) = refl
status_is channel input (Err Memory) = refl

status_there : (kind : Kind) (channel : ChannelNumbers) (input : List ℕ) (result : Result Found DesignFault) (status : ℕ) → design_of (maker_of kind) channel ≡ result
    → status_by result ≡ status → status_of (due_of_design kind channel input).answer ≡ status
status_there kind channel input result status e s =
    ap (λ (d : Due End). status_of d.answer) (due_as kind channel input result e) ∙ status_is channel input result ∙ s

status_back : (kind : Kind) (channel : ChannelNumbers) (input : List ℕ) (status : ℕ)
    → status_of (due_of_design kind channel input).answer ≡ status → status_by (design_of (maker_of kind) channel) ≡ status
status_back kind channel input status s = sym (status_is channel input (design_of (maker_of kind) channel)) ∙ s

zero_by : (kind : Kind) (channel : ChannelNumbers) (input : List ℕ) (result : Result Found DesignFault) → IsChannel channel → Caused (maker_of kind) channel result
    → status_by result ≡ 0 → GivesFirst kind channel input
zero_by kind channel input (Ok found) is h s = gives kind channel input found is h
zero_by kind channel input (Err NotBurst) is h s = absurd (omega (arith, s))
zero_by kind channel input (Err (TooWide symbols)) is h s = absurd (omega (arith, s))
zero_by kind channel input (Err (TooManyClasses count)) is h s = absurd (omega (arith, s))
zero_by kind channel input (Err NoCode) is h s = absurd (omega (arith, s))
zero_by kind channel input (Err Memory) is h s = absurd h

pub zero-first : ZeroGivesFirst
zero-first kind channel input is s =
    zero_by kind channel input (design_of (maker_of kind) channel) is (answer-caused (maker_of kind) channel is _ refl) (status_back kind channel input 0 s)

ten_by : (kind : MakerKind) (channel : ChannelNumbers) (result : Result Found DesignFault) → Caused kind channel result → status_by result ≡ 10
    → IsNotBurst kind channel ⊎ HasNoCode kind channel
ten_by kind channel (Ok found) h s = absurd (omega (arith, s))
ten_by kind channel (Err NotBurst) h s = inl h
ten_by kind channel (Err (TooWide symbols)) h s = absurd (omega (arith, s))
ten_by kind channel (Err (TooManyClasses count)) h s = absurd (omega (arith, s))
ten_by kind channel (Err NoCode) h s = inr h
ten_by kind channel (Err Memory) h s = absurd h

ten_there : (kind : Kind) (channel : ChannelNumbers) (input : List ℕ) → IsChannel channel → IsNotBurst (maker_of kind) channel ⊎ HasNoCode (maker_of kind) channel
    → status_of (due_of_design kind channel input).answer ≡ 10
ten_there kind channel input is (inl h) = status_there kind channel input (Err NotBurst) 10 (of_burst (maker_of kind) channel is h) refl
ten_there kind channel input is (inr h) = status_there kind channel input (Err NoCode) 10 (of_none (maker_of kind) channel is h) refl

pub ten-no_code : TenIsNoCode
ten-no_code kind channel input is = (
  λ s. ten_by (maker_of kind) channel (design_of (maker_of kind) channel) (answer-caused (maker_of kind) channel is _ refl) (status_back kind channel input 10 s),
  ten_there kind channel input is,
)

four_by : (kind : MakerKind) (channel : ChannelNumbers) (result : Result Found DesignFault) → Caused kind channel result → status_by result ≡ 4
    → IsTooWide kind channel (candidate_width kind channel)
four_by kind channel (Ok found) h s = absurd (omega (arith, s))
four_by kind channel (Err NotBurst) h s = absurd (omega (arith, s))
four_by kind channel (Err (TooWide symbols)) h s = subst (IsTooWide kind channel) h.width h
four_by kind channel (Err (TooManyClasses count)) h s = absurd (omega (arith, s))
four_by kind channel (Err NoCode) h s = absurd (omega (arith, s))
four_by kind channel (Err Memory) h s = absurd h

four_there : (kind : Kind) (channel : ChannelNumbers) (input : List ℕ) → IsChannel channel → IsTooWide (maker_of kind) channel (candidate_width (maker_of kind) channel)
    → status_of (due_of_design kind channel input).answer ≡ 4
four_there kind channel input is h =
    let width = candidate_width (maker_of kind) channel in
    status_there kind channel input (Err (TooWide width)) 4 (of_wide (maker_of kind) channel is width h) refl

pub four-wide : FourIsTooWide
four-wide kind channel input is = (
  λ s. four_by (maker_of kind) channel (design_of (maker_of kind) channel) (answer-caused (maker_of kind) channel is _ refl) (status_back kind channel input 4 s),
  four_there kind channel input is,
)

eleven_by : (kind : MakerKind) (channel : ChannelNumbers) (result : Result Found DesignFault) → Caused kind channel result → status_by result ≡ 11
    → HasManyClasses kind channel (class_count channel)
eleven_by kind channel (Ok found) h s = absurd (omega (arith, s))
eleven_by kind channel (Err NotBurst) h s = absurd (omega (arith, s))
eleven_by kind channel (Err (TooWide symbols)) h s = absurd (omega (arith, s))
eleven_by kind channel (Err (TooManyClasses count)) h s = subst (HasManyClasses kind channel) h.classes h
eleven_by kind channel (Err NoCode) h s = absurd (omega (arith, s))
eleven_by kind channel (Err Memory) h s = absurd h

eleven_there : (kind : Kind) (channel : ChannelNumbers) (input : List ℕ) → IsChannel channel → HasManyClasses (maker_of kind) channel (class_count channel)
    → status_of (due_of_design kind channel input).answer ≡ 11
eleven_there kind channel input is h =
    let count = class_count channel in
    status_there kind channel input (Err (TooManyClasses count)) 11 (of_many (maker_of kind) channel is count h) refl

pub eleven-many : ElevenIsTooMany
eleven-many kind channel input is = (
  λ s. eleven_by (maker_of kind) channel (design_of (maker_of kind) channel) (answer-caused (maker_of kind) channel is _ refl) (status_back kind channel input 11 s),
  eleven_there kind channel input is,
)
