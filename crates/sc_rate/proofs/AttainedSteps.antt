-- A code that reaches the bound: each symbol holds the last number and the one before it, and of two slots in a row at
-- most one is lost. So what the law asks of a code and a certificate can be met, at every horizon.
use Rattle.std.proofs.Common.{◌≡◌, ℕ, zero, suc, ◌+◌, ◌-◌, ◌*◌, ◌^◌, ◌<◌, ◌≤◌, Bool, true, false, List, [], ◌∷◌, length, get_or, take, refl, sym, ap, ◌∙◌, subst, arith, inl, inr}
use Rattle.std.proofs.Math.Nat.{add-zero, pow-zero, pow-suc}
use Rattle.std.proofs.lemmas.Bool.{both_ways, cases_Bool, false_from_ne_true}
use Rattle.std.proofs.lemmas.List.{get_or-take, length-take-le}
use Rattle.std.proofs.lemmas.List.Elements.{All-get_or}
use Rattle.std.proofs.lemmas.Nat.{mul-add-lt, same_from_place}
use Rattle.sc_channel.specs.Channel.{ChannelNumbers, IsChannel}
use Rattle.sc_channel.specs.Flags.{IsSet, set_count, window}
use Rattle.sc_channel.specs.Loss.{IsFine, few, close, IsAdmissible}
use Rattle.sc_channel.proofs.FineLaws.{IsFine-part, IsAdmissible-window, IsSet-window_from}
use Rattle.sc_channel.proofs.SetCountSteps.{set_count-fewer}
use Rattle.sc_channel.proofs.SpanSteps.{span-le}
use Rattle.sc_channel.specs.Certificate.{CertificateNumbers, IsCertificate, IsAccepted, stretch}
use Rattle.sc_rate.specs.TableCode.{AreSymbols, IsTable, TableMeets, sent, ArriveAlike}
use Rattle.sc_rate.specs.Rate.{kept_count, BoundIsAttained}

abbrev one_of_two : ChannelNumbers
one_of_two = record { w = 2; b = 1; n = 1; t = 1 }

abbrev every_other : CertificateNumbers
every_other = record { period = 2; lost = 0 ∷ [] }

-- the last number, and the one before it
abbrev two_last : ℕ → List ℕ → ℕ
two_last a numbers = get_or numbers (length numbers - 2) 0 * a + get_or numbers (length numbers - 1) 0

is_channel : IsChannel one_of_two
is_channel =
    record {
      ordered = record { some_loss = omega arith; count_in_span = omega arith; span_in_deadline = omega arith; deadline_in_window = omega arith };
      window_limit = omega arith;
      deadline_limit = omega arith;
    }

is_certificate : IsCertificate every_other
is_certificate =
    record {
      some_slot = omega arith;
      period_limit = omega arith;
      in_order = λ k within. absurd (omega arith);
      in_period = λ k d within. elim k as (λ k. k < 1 → get_or (0 ∷ []) k d < 2) [ zero ↦ λ _. omega arith | suc k ↦ λ h. absurd (omega arith) ] within;
    }

-- at most one set flag
few_admissible : (flags : List Bool) → set_count flags ≤ 1 → IsAdmissible one_of_two flags
few_admissible flags h =
    record {
      part_is_fine = λ before part after e short.
          IsFine-part 1 1 before part after (subst (IsFine 1 1) (sym e) (few h));
    }

is_accepted : IsAccepted one_of_two every_other
is_accepted = record { each = λ residue below. of_residue residue below }
  where
    of_residue : (residue : ℕ) → residue < 2 → IsAdmissible one_of_two (stretch one_of_two every_other residue)
    of_residue zero below = few_admissible (true ∷ false ∷ []) (omega arith)
    of_residue (suc zero) below = few_admissible (false ∷ true ∷ []) (omega arith)
    of_residue (suc (suc n)) below = absurd (omega arith)

is_table : (a horizon : ℕ) → IsTable a (a * a) horizon (two_last a)
is_table a horizon =
    record {
      entry = λ numbers small some short.
          mul-add-lt (get_or numbers (length numbers - 2) 0) a (get_or numbers (length numbers - 1) 0) a
          (All-get_or (λ number. number < a) numbers (length numbers - 2) 0 (omega arith) small)
          (All-get_or (λ number. number < a) numbers (length numbers - 1) 0 (omega arith) small);
    }

sent_is : (a : ℕ) (xs : List ℕ) (slot : ℕ) → slot < length xs → sent (two_last a) xs slot ≡ get_or xs (slot - 1) 0 * a + get_or xs slot 0
sent_is a xs slot within =
    let front = take (slot + 1) xs in
    let count : length front ≡ slot + 1 = length-take-le (slot + 1) xs (omega arith) in
    let early : length front - 2 ≡ slot - 1 = omega arith in
    let late : length front - 1 ≡ slot = omega arith in
    let first : get_or front (length front - 2) 0 ≡ get_or xs (slot - 1) 0 = get_or-take (slot + 1) xs (length front - 2) 0 (omega arith) ∙ ap (λ k. get_or xs k 0) early in
    let last : get_or front (length front - 1) 0 ≡ get_or xs slot 0 = get_or-take (slot + 1) xs (length front - 1) 0 (omega arith) ∙ ap (λ k. get_or xs k 0) late in
    cc

-- of two slots in a row at most one is lost
not_both : (loss : List Bool) (t : ℕ) → IsAdmissible one_of_two loss → IsSet loss t → IsSet loss (t + 1) → ⊥
not_both loss t ok set_t set_next =
    let seen = window 2 t loss in
    let at_0 : IsSet seen 0 = IsSet-window_from 2 t loss 0 (omega arith) (rw add-zero set_t) in
    let at_1 : IsSet seen 1 = IsSet-window_from 2 t loss 1 (omega arith) set_next in
    too_many seen at_0 at_1 (IsAdmissible-window one_of_two loss t ok)
  where
    only : (seen : List Bool) → IsSet seen 0 → IsSet seen 1 → (k : ℕ) → IsSet (true ∷ true ∷ []) k → IsSet seen k
    only seen at_0 at_1 zero set = at_0
    only seen at_0 at_1 (suc zero) set = at_1
    only seen at_0 at_1 (suc (suc k)) set = absurd (both_ways _ refl set)

    too_many : (seen : List Bool) → IsSet seen 0 → IsSet seen 1 → IsFine 1 1 seen → ⊥
    too_many seen at_0 at_1 (few h) =
        let two : set_count (true ∷ true ∷ []) ≤ set_count seen = set_count-fewer seen (true ∷ true ∷ []) (only seen at_0 at_1) in
        absurd (omega arith)
    too_many seen at_0 at_1 (close h) = let near : 1 < 0 + 1 = (span-le 1 seen).0 h 0 1 at_0 at_1 in absurd (omega arith)

-- what arrives in a kept slot tells the slot's number and the one before
told : (a : ℕ) (xs ys : List ℕ) (slot : ℕ) → slot < length xs → slot < length ys → AreSymbols a xs → AreSymbols a ys
    → sent (two_last a) xs slot ≡ sent (two_last a) ys slot → (get_or xs (slot - 1) 0 ≡ get_or ys (slot - 1) 0) × (get_or xs slot 0 ≡ get_or ys slot 0)
told a xs ys slot in_x in_y small_x small_y same =
    same_from_place (get_or xs (slot - 1) 0) (get_or xs slot 0) (get_or ys (slot - 1) 0) (get_or ys slot 0) a
    (All-get_or (λ number. number < a) xs slot 0 in_x small_x) (All-get_or (λ number. number < a) ys slot 0 in_y small_y)
    (sym (sent_is a xs slot in_x) ∙ same ∙ sent_is a ys slot in_y)

meets : (a horizon : ℕ) → TableMeets one_of_two a horizon (two_last a)
meets a horizon =
    record {
      determined = λ t loss short count ok.
          record { same = λ xs ys count_x count_y small_x small_y alike. same_number t loss count ok xs ys count_x count_y small_x small_y alike };
    }
  where
    same_number : (t : ℕ) (loss : List Bool) → length loss ≡ t + 1 + 1 → IsAdmissible one_of_two loss → (xs ys : List ℕ) → length xs ≡ t + 1 + 1 → length ys ≡ t + 1 + 1
        → AreSymbols a xs → AreSymbols a ys → ArriveAlike (two_last a) loss xs ys → get_or xs t 0 ≡ get_or ys t 0
    same_number t loss count ok xs ys count_x count_y small_x small_y alike =
        elim (cases_Bool (get_or loss t false)) [
          | inr kept ↦ (told a xs ys t (omega arith) (omega arith) small_x small_y (alike t (omega arith) kept)).1
          | inl lost ↦
              let kept : get_or loss (t + 1) false ≡ false = false_from_ne_true (get_or loss (t + 1) false) (λ both. not_both loss t ok lost both) in
              let here : t + 1 - 1 ≡ t = omega arith in
              ap (λ k. get_or xs k 0) (sym here)
              ∙ (told a xs ys (t + 1) (omega arith) (omega arith) small_x small_y (alike (t + 1) (omega arith) kept)).0
              ∙ ap (λ k. get_or ys k 0) here
        ]

-- the two sides of the bound are equal
reached : (a : ℕ) → a ^ every_other.period ≡ (a * a) ^ kept_count every_other
reached a = rw (pow-suc a 1, pow-suc a 0, pow-zero a, pow-suc (a * a) 0, pow-zero (a * a)) (omega arith)

pub attained : BoundIsAttained
attained a horizon = (
  one_of_two,
  (
    every_other,
    (
      two_last a,
      record {
        is_channel = is_channel;
        is_certificate = is_certificate;
        accepted = is_accepted;
        is_table = is_table a horizon;
        meets = meets a horizon;
        equal = reached a;
      },
    ),
  ),
)
