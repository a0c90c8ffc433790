-- The test on the numbers of a certificate is the definition of a certificate.
use Rattle.std.proofs.Common.{◌≡◌, ℕ, zero, suc, ◌+◌, ◌<◌, ◌≤◌, true, List, [], ◌∷◌, length, get_or, All, refl, arith}
use Rattle.std.specs.List.Sorted.{IsStrictlyIncreasing}
use Rattle.std.proofs.lemmas.Bool.{and_parts, and_from, leb-true, le-leb, ltb-true, lt-ltb}
use Rattle.std.proofs.lemmas.List.Elements.{All-nil, All-cons, All-head, All-tail}
use Rattle.sc_channel.specs.Certificate.{CertificateNumbers, IsCertificate, are_residues, is_period, is_certificate}

-- numbers that are strictly rising, at least `least` and below the period
pub record AreResidues (period least : ℕ) (xs : List ℕ) : Type 0 where
  pub first : 0 < length xs → least ≤ get_or xs 0 0
  pub in_order : IsStrictlyIncreasing xs
  pub in_period : All (λ residue. residue < period) xs

IsStrictlyIncreasing-cons : (x : ℕ) (xs : List ℕ) → (0 < length xs → x + 1 ≤ get_or xs 0 0) → IsStrictlyIncreasing xs → IsStrictlyIncreasing (x ∷ xs)
IsStrictlyIncreasing-cons x xs first rises zero within =
    let above : x + 1 ≤ get_or xs 0 0 = first (omega arith) in omega arith
IsStrictlyIncreasing-cons x xs first rises (suc k) within =
    let next : suc k + 1 ≡ suc (k + 1) = omega arith in
    let above : get_or xs k 0 < get_or xs (k + 1) 0 = rises k (omega arith) in
    rw next above

IsStrictlyIncreasing-tail : (x : ℕ) (xs : List ℕ) → IsStrictlyIncreasing (x ∷ xs) → IsStrictlyIncreasing xs
IsStrictlyIncreasing-tail x xs rises k within =
    let next : suc k + 1 ≡ suc (k + 1) = omega arith in
    rw next at (rises (suc k) (omega arith))

pub are_residues-to : (period least : ℕ) (xs : List ℕ) → are_residues period least xs ≡ true → AreResidues period least xs
are_residues-to period least [] is =
    record { first = λ h. absurd (omega arith); in_order = λ k within. absurd (omega arith); in_period = All-nil (λ residue. residue < period) }
are_residues-to period least (x ∷ xs) is =
    let parts = and_parts _ _ is in
    let both = and_parts _ _ parts.0 in
    let rest = are_residues-to period (x + 1) xs parts.1 in
    record {
      first = λ h. leb-true least x both.0;
      in_order = IsStrictlyIncreasing-cons x xs rest.first rest.in_order;
      in_period = All-cons (λ residue. residue < period) x xs (ltb-true x period both.1) rest.in_period;
    }

pub are_residues-from : (period least : ℕ) (xs : List ℕ) → AreResidues period least xs → are_residues period least xs ≡ true
are_residues-from period least [] are = refl
are_residues-from period least (x ∷ xs) are =
    let rest : AreResidues period (x + 1) xs =
    record {
      first = λ h. let above : x < get_or xs 0 0 = are.in_order 0 (omega arith) in omega arith;
      in_order = IsStrictlyIncreasing-tail x xs are.in_order;
      in_period = All-tail (λ residue. residue < period) x xs are.in_period;
    } in
    and_from _ _
    (and_from _ _ (le-leb least x (are.first (omega arith))) (lt-ltb x period (All-head (λ residue. residue < period) x xs are.in_period)))
    (are_residues-from period (x + 1) xs rest)

-- the two tests of a certificate
pub tests-to : (c : CertificateNumbers) → are_residues c.period 0 c.lost ≡ true → is_period c.period ≡ true → IsCertificate c
tests-to c residues period =
    let are = are_residues-to c.period 0 c.lost residues in
    let both = and_parts _ _ period in
    record {
      some_slot = leb-true 1 c.period both.0;
      period_limit = leb-true c.period 4096 both.1;
      in_order = are.in_order;
      in_period = are.in_period;
    }

pub residues-from : (c : CertificateNumbers) → IsCertificate c → are_residues c.period 0 c.lost ≡ true
residues-from c is =
    are_residues-from c.period 0 c.lost (record { first = λ h. omega arith; in_order = is.in_order; in_period = is.in_period })

pub period-from : (c : CertificateNumbers) → IsCertificate c → is_period c.period ≡ true
period-from c is = and_from _ _ (le-leb 1 c.period is.some_slot) (le-leb c.period 4096 is.period_limit)

pub is_certificate-to : (c : CertificateNumbers) → is_certificate c ≡ true → IsCertificate c
unfolding is_certificate
is_certificate-to c is = let parts = and_parts _ _ is in tests-to c parts.0 parts.1

pub is_certificate-from : (c : CertificateNumbers) → IsCertificate c → is_certificate c ≡ true
unfolding is_certificate
is_certificate-from c is = and_from _ _ (residues-from c is) (period-from c is)
