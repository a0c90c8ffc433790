-- A search among a certificate's lost residues, and the first bad residue as a function.
use Rattle.std.proofs.Common.{◌≡◌, inl, inr, ℕ, ◌%◌, ◌<◌, ◌≤◌, Bool, true, false, List, length, get_or, eqb, is_some, Option, None, Some, MatchOption, Result, Ok, Err, MatchResult, refl, sym, ap, ◌∙◌, arith, zero-add}
use Rattle.std.specs.List.{Contains, list_any, position_or_len, range_with_len}
use Rattle.std.specs.Result.{is_ok}
use Rattle.std.proofs.lemmas.Bool.{cases_lt, eqb-true, false_from_ne_true, le-ltb, lt-ltb}
use Rattle.std.proofs.lemmas.Cmp.{nat_eq_equiv}
use Rattle.std.proofs.lemmas.List.{get_or_default}
use Rattle.std.proofs.lemmas.List.Kept.{AllPairs-from_increasing}
use Rattle.std.proofs.lemmas.Map.Views.{Contains-from_any, list_any-from_Contains}
use Rattle.std.proofs.lemmas.List.Sorted.{searched}
use Rattle.std.specs.List.Sorted.{IsStrictlyIncreasing, IsBinarySearchResult}
use Rattle.std.specs.Ordering.{nat_cmp}
use Rattle.std.proofs.lemmas.List.FromFn.{length-range_with_len, get_or-range_with_len}
use Rattle.std.proofs.lemmas.List.Sums.{position_or_len_is}
use Rattle.sc_channel.specs.Channel.{ChannelNumbers}
use Rattle.sc_channel.specs.Certificate.{CertificateNumbers, IsCertificate, IsAccepted, is_lost, stretch}
use Rattle.sc_channel.specs.Loss.{IsAdmissible, bad_window}
use Rattle.sc_channel.proofs.FineLaws.{IsAdmissible-from_windows}
use Rattle.sc_channel.proofs.WindowLaws.{bad_window-is, bad_window-none}
use Rattle.sc_rate.specs.Residue.{IsFirstBadResidue, is_bad, bad_residue}

-- numbers that are strictly rising don't fall
pub rising-le : (xs : List ℕ) → IsStrictlyIncreasing xs → (i j : ℕ) → i ≤ j → j < length xs → get_or xs i 0 ≤ get_or xs j 0
rising-le xs rises i j from within =
    elim (cases_lt i j) [
      | inl before ↦ let less : get_or xs i 0 < get_or xs j 0 = AllPairs-from_increasing xs rises i j 0 before within in omega arith
      | inr same ↦ let e : i ≡ j = omega arith in rw e (omega arith)
    ]

abbrev Searched : List ℕ → ℕ → Result ℕ ℕ → Type 0
Searched xs x r =
    MatchResult r (λ i. (i < length xs) × (get_or xs i 0 ≡ x)) (λ i. (i ≤ length xs) × ((k : ℕ) → k < i → get_or xs k 0 < x) × ((k : ℕ) → i ≤ k → k < length xs → x < get_or xs k 0))

not_there : (xs : List ℕ) (x i k : ℕ) → k < length xs → get_or xs k 0 ≡ x → ((k : ℕ) → k < i → get_or xs k 0 < x) → ((k : ℕ) → i ≤ k → k < length xs → x < get_or xs k 0) → ⊥
not_there xs x i k within is before after =
    elim (cases_lt k i) [
      | inl front ↦ let less : get_or xs k 0 < x = before k front in absurd (omega arith)
      | inr back ↦ let more : x < get_or xs k 0 = after k back within in absurd (omega arith)
    ]

-- a search finds a number exactly where it is there
pub found-is_there : (xs : List ℕ) (x : ℕ) (r : Result ℕ ℕ) → Searched xs x r → is_ok r ≡ list_any (eqb x) xs
found-is_there xs x (Ok i) h =
    sym (list_any-from_Contains nat_eq_equiv x xs (i, h.0, get_or_default xs i x 0 h.0 ∙ h.1))
found-is_there xs x (Err i) h =
    sym (false_from_ne_true (list_any (eqb x) xs) (λ any.
    let there : Contains xs x = Contains-from_any {eq = eqb} eqb-true x xs any in
    not_there xs x i there.0 there.1 (get_or_default xs there.0 0 x there.1 ∙ there.2) h.1 h.2))

-- what a search among a certificate's lost residues finds
pub search-is_lost : (certificate : CertificateNumbers) (slot : ℕ) (r : Result ℕ ℕ) → IsCertificate certificate
    → IsBinarySearchResult (λ y. nat_cmp y (slot % certificate.period)) certificate.lost r → is_ok r ≡ is_lost certificate slot
search-is_lost certificate slot r is found =
    found-is_there certificate.lost (slot % certificate.period) r
    (searched certificate.lost (slot % certificate.period) r found (rising-le certificate.lost is.in_order))

-- ---- the first bad residue

is_bad-not : (channel : ChannelNumbers) (certificate : CertificateNumbers) (residue : ℕ) → IsAdmissible channel (stretch channel certificate residue) → is_bad channel certificate residue ≡ false
is_bad-not channel certificate residue ok = ap is_some (bad_window-is channel (stretch channel certificate residue) None ok)

is_bad-so : (channel : ChannelNumbers) (certificate : CertificateNumbers) (residue : ℕ) → ¬ IsAdmissible channel (stretch channel certificate residue) → is_bad channel certificate residue ≡ true
is_bad-so channel certificate residue bad = by (bad_window channel flags) refl
  where
    flags : List Bool
    flags = stretch channel certificate residue

    by : (found : Option ℕ) → bad_window channel flags ≡ found → is_some found ≡ true
    by None e = absurd (bad (IsAdmissible-from_windows channel flags (bad_window-none channel flags e)))
    by (Some i) e = refl

-- what is answered by the definition is what the function finds
pub bad_residue-is : (channel : ChannelNumbers) (certificate : CertificateNumbers) (result : Option ℕ)
    → MatchOption result (IsAccepted channel certificate) (IsFirstBadResidue channel certificate) → bad_residue channel certificate ≡ result
bad_residue-is channel certificate None accepted =
    let all = range_with_len 0 certificate.period in
    let count = length-range_with_len 0 certificate.period in
    let first : position_or_len (is_bad channel certificate) all ≡ certificate.period =
    position_or_len_is (is_bad channel certificate) all certificate.period 0 (omega arith)
    (λ k below. ap (is_bad channel certificate) (at k below) ∙ is_bad-not channel certificate k (accepted.each k below))
    (λ within. absurd (omega arith)) in
    rw (first, count, le-ltb certificate.period certificate.period (omega arith)) refl
  where
    at : (k : ℕ) → k < certificate.period → get_or (range_with_len 0 certificate.period) k 0 ≡ k
    at k below = get_or-range_with_len 0 certificate.period k 0 below ∙ zero-add k
bad_residue-is channel certificate (Some q) found =
    let all = range_with_len 0 certificate.period in
    let count = length-range_with_len 0 certificate.period in
    let first : position_or_len (is_bad channel certificate) all ≡ q =
    position_or_len_is (is_bad channel certificate) all q 0 (omega (arith, found.in_period))
    (λ k below. ap (is_bad channel certificate) (at k (omega (arith, found.in_period))) ∙ is_bad-not channel certificate k (found.earlier_admissible k below))
    (λ within. ap (is_bad channel certificate) (at q found.in_period) ∙ is_bad-so channel certificate q found.bad) in
    rw (first, count, lt-ltb q certificate.period found.in_period) refl
  where
    at : (k : ℕ) → k < certificate.period → get_or (range_with_len 0 certificate.period) k 0 ≡ k
    at k below = get_or-range_with_len 0 certificate.period k 0 below ∙ zero-add k
