-- The standard certificate of a channel is a certificate, and the channel accepts it.
use Rattle.std.proofs.Common.{◌≡◌, ◌⊎◌, inl, inr, ℕ, zero, suc, ◌+◌, ◌-◌, ◌*◌, ◌%◌, ◌<◌, ◌≤◌, Bool, true, false, cond, List, [], ◌∷◌, ◌++◌, eqb, refl, sym, ap, ◌∙◌, subst, arith}
use Rattle.std.specs.List.{Contains, range_with_len}
use Rattle.std.proofs.Math.ListN.{replicate}
use Rattle.std.proofs.Math.Nat.{mod-eq_of_lt, mul-add-mod_self_left}
use Rattle.std.proofs.lemmas.Bool.{cases_lt, eqb-true}
use Rattle.std.proofs.lemmas.List.{get_or-append_right, get_or_append_left, get_or-replicate, length-replicate}
use Rattle.std.proofs.lemmas.List.Folds.{sum_by-replicate}
use Rattle.std.proofs.lemmas.List.FromFn.{length-range_with_len, get_or-range_with_len, length-map-range_with_len, get_or-map-range_with_len}
use Rattle.std.proofs.lemmas.List.Sums.{sum_by-append}
use Rattle.std.proofs.lemmas.Map.Views.{Contains-from_any}
use Rattle.sc_channel.specs.Channel.{ChannelNumbers, IsOrdered, IsChannel}
use Rattle.sc_channel.specs.Certificate.{IsCertificate, IsAccepted, is_lost, stretch}
use Rattle.sc_channel.specs.Flags.{IsSet, set_count}
use Rattle.sc_channel.specs.Loss.{IsFine, few, close}
use Rattle.sc_channel.proofs.FineLaws.{IsFine-part}
use Rattle.sc_channel.proofs.SetCountSteps.{IsSet-in_range, set_count-fewer}
use Rattle.sc_channel.proofs.SpanSteps.{span-le}
use Rattle.sc_rate.specs.Standard.{standard_period, standard_certificate}

-- the numbers below n, and n
pub range_more : (n : ℕ) → range_with_len 0 (n + 1) ≡ range_with_len 0 n ++ n ∷ []
range_more n = from 0 n n (omega arith)
  where
    from : (a n j : ℕ) → a + n ≡ j → range_with_len a (n + 1) ≡ range_with_len a n ++ j ∷ []
    from a zero j e = let same : a ≡ j = omega arith in ap (λ (k : ℕ). k ∷ []) same
    from a (suc n) j e = let rest : a + 1 + n ≡ j = omega arith in let count : suc n + 1 ≡ suc (n + 1) = omega arith in rw count (ap (λ (xs : List ℕ). a ∷ xs) (from (a + 1) n j rest))

pub standard-IsCertificate : (channel : ChannelNumbers) → IsChannel channel → IsCertificate (standard_certificate channel)
standard-IsCertificate channel is =
    let o = is.ordered in
    record {
      some_slot = omega (arith, o.some_loss, o.count_in_span, o.span_in_deadline);
      period_limit = omega (arith, o.count_in_span, o.span_in_deadline, is.deadline_limit);
      in_order = λ k within.
          let next : k + 1 < channel.b = omega (arith, length-range_with_len 0 channel.b) in
          rw (get_or-range_with_len 0 channel.b k 0 (omega arith), get_or-range_with_len 0 channel.b (k + 1) 0 next) (omega arith);
      in_period = λ k d within.
          let below : k < channel.b = omega (arith, length-range_with_len 0 channel.b) in
          rw (get_or-range_with_len 0 channel.b k d below) (omega (arith, o.count_in_span, o.span_in_deadline));
    }

-- a lost slot's residue is below b
lost_residue : (channel : ChannelNumbers) (slot : ℕ) → is_lost (standard_certificate channel) slot ≡ true → slot % standard_period channel < channel.b
lost_residue channel slot lost =
    let q = slot % standard_period channel in
    let there : Contains (range_with_len 0 channel.b) q = Contains-from_any {eq = eqb} eqb-true q (range_with_len 0 channel.b) lost in
    let within : there.0 < channel.b = omega (arith, there.1, length-range_with_len 0 channel.b) in
    let is : 0 + there.0 ≡ q = sym (get_or-range_with_len 0 channel.b there.0 q within) ∙ there.2 in
    omega arith

-- flag i of a stretch is lost in the burst that its residue lies in or before, or in the next
pub lost_in_bursts : (channel : ChannelNumbers) (q i : ℕ) → IsOrdered channel.w channel.b channel.n channel.t → q < standard_period channel
    → IsSet (stretch channel (standard_certificate channel) q) i
    → (i < channel.t + 1) × ((q + i < channel.b) ⊎ ((standard_period channel ≤ q + i) × (q + i < standard_period channel + channel.b)))
lost_in_bursts channel q i o below set =
    let lost = is_lost (standard_certificate channel) in
    let p = standard_period channel in
    let within : i < channel.t + 1 =
    omega (arith, IsSet-in_range (stretch channel (standard_certificate channel) q) i set, length-map-range_with_len lost q (channel.t + 1)) in
    let here : lost (q + i) ≡ true = sym (get_or-map-range_with_len lost q (channel.t + 1) i (q + i) false within refl) ∙ set in
    let residue : (q + i) % p < channel.b = lost_residue channel (q + i) here in (
      within,
      elim (cases_lt (q + i) p) [
        | inl first ↦ let is : (q + i) % p ≡ q + i = mod-eq_of_lt first in inl (omega arith)
        | inr second ↦
            let more = q + i - p in
            let less : more < p = omega (arith, o.count_in_span) in
            let split : q + i ≡ p * 1 + more = omega arith in
            let is : (q + i) % p ≡ more = ap (λ (s : ℕ). s % p) split ∙ mul-add-mod_self_left p 1 more ∙ mod-eq_of_lt less in
            inr (second, omega arith)
      ],
    )

-- x set flags, y unset ones, and z set ones
ends : ℕ → ℕ → ℕ → List Bool
ends x y z = replicate x true ++ (replicate y false ++ replicate z true)

set_count-ends : (x y z : ℕ) → set_count (ends x y z) ≡ x + z
unfolding ends
set_count-ends x y z =
    let one : Bool → ℕ = λ flag. cond flag 1 0 in
    omega (
      arith,
      sum_by-append one (replicate x true) (replicate y false ++ replicate z true),
      sum_by-append one (replicate y false) (replicate z true),
      sum_by-replicate one x true,
      sum_by-replicate one y false,
      sum_by-replicate one z true,
    )

IsSet-first_end : (x y z k : ℕ) → k < x → IsSet (ends x y z) k
unfolding ends
IsSet-first_end x y z k below =
    get_or_append_left (replicate x true) (replicate y false ++ replicate z true) false k (omega (arith, length-replicate x true))
    ∙ get_or-replicate x k true false below

IsSet-last_end : (x y z k : ℕ) → x + y ≤ k → k < x + y + z → IsSet (ends x y z) k
unfolding ends
IsSet-last_end x y z k from below =
    get_or-append_right (replicate x true) (replicate y false ++ replicate z true) x k false (length-replicate x true) (omega arith)
    ∙ get_or-append_right (replicate y false) (replicate z true) y (k - x) false (length-replicate y false) (omega arith)
    ∙ get_or-replicate z (k - x - y) true false (omega arith)

-- each stretch has at most n losses, the tail of a burst and the head of the next, or only those of one burst
pub stretch-IsFine : (channel : ChannelNumbers) (q : ℕ) → IsOrdered channel.w channel.b channel.n channel.t → q < standard_period channel
    → IsFine channel.b channel.n (stretch channel (standard_certificate channel) q)
stretch-IsFine channel q o below =
    let p = standard_period channel in
    let b = channel.b in
    let flags = stretch channel (standard_certificate channel) q in
    let where_lost = λ (i : ℕ) (set : IsSet flags i). lost_in_bursts channel q i o below set in
    elim (cases_lt q b) [
      | inr after ↦ close ((span-le b flags).1 (λ i j set_i set_j.
          let at_i = where_lost i set_i in
          let at_j = where_lost j set_j in
          one_burst_after q b p i j after at_i.1 at_j.1))
      | inl inside ↦ elim (cases_lt (q + channel.t) p) [
        | inl before ↦ close ((span-le b flags).1 (λ i j set_i set_j.
            let at_i = where_lost i set_i in
            let at_j = where_lost j set_j in
            one_burst_before q b p channel.t i j before at_i.0 at_j.0 at_j.1))
        | inr both ↦
            let last = q + channel.t + 1 - p in
            let fewer : set_count flags ≤ set_count (ends (b - q) (p - b) last) =
            set_count-fewer (ends (b - q) (p - b) last) flags (λ k set.
            let at = where_lost k set in
            elim at.1 [
              | inl first ↦ IsSet-first_end (b - q) (p - b) last k (omega arith)
              | inr second ↦ IsSet-last_end (b - q) (p - b) last k (omega (arith, second.0, o.count_in_span, o.span_in_deadline)) (omega (arith, second.0, at.0, o.count_in_span, o.span_in_deadline))
            ]) in
            few (omega (arith, set_count-ends (b - q) (p - b) last, o.count_in_span, o.span_in_deadline))
      ]
    ]
  where
    one_burst_after : (q b p i j : ℕ) → b ≤ q → (q + i < b) ⊎ ((p ≤ q + i) × (q + i < p + b)) → (q + j < b) ⊎ ((p ≤ q + j) × (q + j < p + b)) → j < i + b
    one_burst_after q b p i j after (inl x) at_j = absurd (omega arith)
    one_burst_after q b p i j after (inr x) (inl y) = absurd (omega arith)
    one_burst_after q b p i j after (inr x) (inr y) = omega (arith, x.0, y.1)

    one_burst_before : (q b p t i j : ℕ) → q + t < p → i < t + 1 → j < t + 1 → (q + j < b) ⊎ ((p ≤ q + j) × (q + j < p + b)) → j < i + b
    one_burst_before q b p t i j before in_i in_j (inl y) = omega arith
    one_burst_before q b p t i j before in_i in_j (inr y) = absurd (omega (arith, y.0))

pub standard-IsAccepted : (channel : ChannelNumbers) → IsChannel channel → IsAccepted channel (standard_certificate channel)
standard-IsAccepted channel is =
    record {
      each = λ residue below. record {
        part_is_fine = λ before part after e short.
            IsFine-part channel.b channel.n before part after
            (subst (IsFine channel.b channel.n) (sym e) (stretch-IsFine channel residue is.ordered below));
      };
    }
