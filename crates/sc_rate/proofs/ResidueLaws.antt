-- What the first bad residue tells, as a function: none exactly where the channel accepts the certificate.
use Rattle.std.proofs.Common.{◌≡◌, inl, inr, ℕ, zero as naught, suc, ◌+◌, ◌<◌, Bool, cond, [], ◌∷◌, true, false, List, length, get_or, is_some, Option, None, Some, MatchOption, refl, ap, ◌∙◌, subst, arith, zero-add}
use Rattle.std.specs.Prelude.{not}
use Rattle.std.specs.List.{position, position_or_len, range_with_len}
use Rattle.std.proofs.lemmas.Bool.{cases_lt, lt-ltb}
use Rattle.std.proofs.lemmas.List.FromFn.{length-range_with_len, get_or-range_with_len}
use Rattle.std.proofs.lemmas.List.Quantifiers.{position-Some}
use Rattle.sc_channel.specs.Channel.{ChannelNumbers}
use Rattle.sc_channel.specs.Certificate.{CertificateNumbers, IsAccepted, stretch}
use Rattle.sc_channel.specs.Loss.{IsAdmissible}
use Rattle.sc_channel.proofs.WindowLaws.{bad_window-admissible, admissible-no_bad_window}
use Rattle.sc_rate.specs.Residue.{IsFirstBadResidue, is_bad, bad_residue}

-- before the first item that passes all fail
fails_by : (p : ℕ → Bool) (x : ℕ) (xs : List ℕ) (k d : ℕ) (b : Bool) → p x ≡ b → k < cond (not b) (1 + position_or_len p xs) 0 → ((j : ℕ) → j < position_or_len p xs → p (get_or xs j d) ≡ false)
    → p (get_or (x ∷ xs) k d) ≡ false
fails_by p x xs k d true e h rest = absurd (omega (arith, h))
fails_by p x xs naught d false e h rest = e
fails_by p x xs (suc k) d false e h rest = rest k (omega (arith, h))

fails_before : (p : ℕ → Bool) (xs : List ℕ) (k d : ℕ) → k < position_or_len p xs → p (get_or xs k d) ≡ false
fails_before p [] k d h = absurd (omega (arith, h))
fails_before p (x ∷ xs) k d h = fails_by p x xs k d (p x) refl h (λ j lt. fails_before p xs j d lt)

none_passes : (p : ℕ → Bool) (xs : List ℕ) (k d : ℕ) → position p xs ≡ None → k < length xs → p (get_or xs k d) ≡ false
none_passes p xs k d none h = elim (cases_lt (position_or_len p xs) (length xs)) [
  | inl there ↦ (let test = lt-ltb (position_or_len p xs) (length xs) there in absurd (cc))
  | inr past ↦ fails_before p xs k d (omega (arith, past, h))
]

module _ (channel : ChannelNumbers) (certificate : CertificateNumbers) where
  no_window : (found : Option ℕ) → is_some found ≡ false → found ≡ None
  no_window None h = refl
  no_window (Some i) h = absurd (cc)

  fine_stretch : (residue : ℕ) → is_bad channel certificate residue ≡ false → IsAdmissible channel (stretch channel certificate residue)
  fine_stretch residue h = admissible-no_bad_window channel (stretch channel certificate residue) (no_window _ h)

  bad_stretch : (residue : ℕ) → is_bad channel certificate residue ≡ true → ¬ IsAdmissible channel (stretch channel certificate residue)
  bad_stretch residue h ok =
      let none : is_bad channel certificate residue ≡ false = ap is_some (bad_window-admissible channel (stretch channel certificate residue) ok) in
      absurd (cc)

  at : (k : ℕ) → k < certificate.period → get_or (range_with_len 0 certificate.period) k 0 ≡ k
  at k below = get_or-range_with_len 0 certificate.period k 0 below ∙ zero-add k

  answers : (found : Option ℕ) → bad_residue channel certificate ≡ found → MatchOption found (IsAccepted channel certificate) (IsFirstBadResidue channel certificate)
  answers None e = record {
    each = λ residue below. fine_stretch residue (subst (λ k. is_bad channel certificate k ≡ false) (at residue below)
        (none_passes (is_bad channel certificate) (range_with_len 0 certificate.period) residue 0 e (omega (arith, below, length-range_with_len 0 certificate.period))));
  }
  answers (Some q) e =
      let h = position-Some (is_bad channel certificate) (range_with_len 0 certificate.period) q 0 e in
      let below : q < certificate.period = omega (arith, h.0, length-range_with_len 0 certificate.period) in
      record {
        in_period = below;
        bad = bad_stretch q (subst (λ k. is_bad channel certificate k ≡ true) (at q below) h.1);
        earlier_admissible = λ k lt. fine_stretch k (subst (λ j. is_bad channel certificate j ≡ false) (at k (omega (arith, lt, below))) (h.2 k lt));
      }

  -- the function's answer, by the definitions
  pub bad_residue-answers : MatchOption (bad_residue channel certificate) (IsAccepted channel certificate) (IsFirstBadResidue channel certificate)
  bad_residue-answers = answers (bad_residue channel certificate) refl
