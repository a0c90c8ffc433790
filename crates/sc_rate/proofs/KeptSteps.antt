-- How many slots the periodic loss keeps.
use Rattle.std.proofs.Common.{◌≡◌, ℕ, zero, suc, ◌+◌, ◌*◌, ◌<◌, ◌≤◌, Bool, true, false, not, cond, List, [], ◌∷◌, ◌++◌, length, get_or, eqb, refl, ap, ◌∙◌, subst, arith, zero-add}
use Rattle.std.specs.List.{Contains, IsDistinct, list_any, filter, range_with_len}
use Rattle.std.specs.Set.{is_member}
use Rattle.std.proofs.Math.Nat.{add-zero, mul-zero, mul-suc, mod-eq_of_lt, mul-add-mod_self_left}
use Rattle.std.proofs.lemmas.Bool.{eqb-true, ne_eqb, and_from, not_from_false}
use Rattle.std.proofs.lemmas.Cmp.{nat_eq_equiv}
use Rattle.std.proofs.lemmas.List.{length-append}
use Rattle.std.proofs.lemmas.List.Elements.{All-contains, filter-append}
use Rattle.std.proofs.lemmas.List.FromFn.{length-range_with_len, get_or-range_with_len}
use Rattle.std.proofs.lemmas.List.Kept.{AllPairs-from_increasing}
use Rattle.std.proofs.lemmas.List.Sums.{length-filter, count_by-le-length}
use Rattle.std.proofs.lemmas.Map.Keys.{IsDistinct-from_apart}
use Rattle.std.proofs.lemmas.Map.Steps.{length-le_from_distinct_below}
use Rattle.std.proofs.lemmas.Map.Made.{length-le_from_is_member, is_member-filter}
use Rattle.std.proofs.lemmas.Map.Views.{Contains-from_any, list_any-from_Contains}
use Rattle.sc_channel.specs.Certificate.{CertificateNumbers, IsCertificate, is_lost}
use Rattle.sc_rate.specs.Rate.{kept_count}

-- the slots that are kept, of `count` slots from `start` on
abbrev pub kept_slots : CertificateNumbers → ℕ → ℕ → List ℕ
kept_slots certificate start count = filter (λ slot. not (is_lost certificate slot)) (range_with_len start count)

range_with_len-add : (s m n : ℕ) → range_with_len s (m + n) ≡ range_with_len s m ++ range_with_len (s + m) n
range_with_len-add s zero n = rw (zero-add n, add-zero s) refl
range_with_len-add s (suc m) n =
    let count : suc m + n ≡ suc (m + n) = omega arith in
    let start : s + 1 + m ≡ s + suc m = omega arith in
    ap (range_with_len s) count ∙ ap (λ l. s ∷ l) (range_with_len-add (s + 1) m n ∙ ap (λ k. range_with_len (s + 1) m ++ range_with_len k n) start)

one_of_both : (test : Bool) (x : ℕ) (ys zs : List ℕ) (n : ℕ) → length ys + length zs ≡ n → length (cond (not test) (x ∷ ys) ys) + length (cond test (x ∷ zs) zs) ≡ suc n
one_of_both true x ys zs n e = omega arith
one_of_both false x ys zs n e = omega arith

-- what passes a test and what fails it are all
both_filters : (test : ℕ → Bool) (xs : List ℕ) → length (filter (λ x. not (test x)) xs) + length (filter test xs) ≡ length xs
both_filters test [] = refl
both_filters test (x ∷ xs) =
    one_of_both (test x) x (filter (λ y. not (test y)) xs) (filter test xs) (length xs) (both_filters test xs)

same_cond : (s t : Bool) (x y : ℕ) (xs ys : List ℕ) → s ≡ t → length xs ≡ length ys → length (cond s (x ∷ xs) xs) ≡ length (cond t (y ∷ ys) ys)
same_cond s true x y xs ys e same = rw e (ap suc same)
same_cond s false x y xs ys e same = rw e same

-- a test that repeats passes as often in each repeat
filter_shifted : (test : ℕ → Bool) (d s n : ℕ) → ((i : ℕ) → test (d + i) ≡ test i)
    → length (filter test (range_with_len (d + s) n)) ≡ length (filter test (range_with_len s n))
filter_shifted test d s zero repeats = refl
filter_shifted test d s (suc n) repeats =
    let start : d + (s + 1) ≡ d + s + 1 = omega arith in
    let rest : length (filter test (range_with_len (d + s + 1) n)) ≡ length (filter test (range_with_len (s + 1) n)) =
    subst (λ (k : ℕ). length (filter test (range_with_len k n)) ≡ length (filter test (range_with_len (s + 1) n))) start (filter_shifted test d (s + 1) n repeats) in
    same_cond (test (d + s)) (test s) (d + s) s (filter test (range_with_len (d + s + 1) n)) (filter test (range_with_len (s + 1) n)) (repeats s) rest

-- the periodic loss repeats
pub is_lost-period : (certificate : CertificateNumbers) (x i : ℕ) → is_lost certificate (certificate.period * x + i) ≡ is_lost certificate i
is_lost-period certificate x i =
    ap (λ (r : ℕ). list_any (eqb r) certificate.lost) (mul-add-mod_self_left certificate.period x i)

lost_distinct : (certificate : CertificateNumbers) → IsCertificate certificate → IsDistinct eqb certificate.lost
lost_distinct certificate valid =
    IsDistinct-from_apart eqb certificate.lost (λ i j d before within.
    let rises : get_or certificate.lost i d < get_or certificate.lost j d = AllPairs-from_increasing certificate.lost valid.in_order i j d before within in
    ne_eqb _ _ (λ e. omega arith))

-- there are no more lost residues than slots of a period
pub length-lost : (certificate : CertificateNumbers) → IsCertificate certificate → length certificate.lost ≤ certificate.period
length-lost certificate valid =
    length-le_from_distinct_below certificate.lost certificate.period (lost_distinct certificate valid) (λ q found.
    All-contains (λ residue. residue < certificate.period) certificate.lost q valid.in_period (Contains-from_any {eq = eqb} eqb-true q certificate.lost found))

-- a number below n that passes the test is among those that the filter keeps
pub is_member-filter_below : (test : ℕ → Bool) (n q : ℕ) → q < n → test q ≡ true → is_member eqb (filter test (range_with_len 0 n)) q ≡ true
is_member-filter_below test n q below passes =
    let there : Contains (range_with_len 0 n) q = (q, omega (arith, length-range_with_len 0 n), get_or-range_with_len 0 n q q below ∙ zero-add q) in
    let in_range : is_member eqb (range_with_len 0 n) q ≡ true = list_any-from_Contains nat_eq_equiv q (range_with_len 0 n) there in
    is_member-filter nat_eq_equiv test q (λ x same. ap test (eqb-true q x same)) (range_with_len 0 n) ∙ and_from _ _ in_range passes

-- a slot that is kept is one of the kept slots
pub Contains-kept_slots : (certificate : CertificateNumbers) (n slot : ℕ) → slot < n → is_lost certificate slot ≡ false → Contains (kept_slots certificate 0 n) slot
Contains-kept_slots certificate n slot below kept =
    Contains-from_any {eq = eqb} eqb-true slot (kept_slots certificate 0 n)
    (is_member-filter_below (λ s. not (is_lost certificate s)) n slot below (not_from_false (is_lost certificate slot) kept))

-- each lost residue is a lost slot of the first period
lost_in_first : (certificate : CertificateNumbers) → IsCertificate certificate → (q : ℕ) → is_member eqb certificate.lost q ≡ true
    → is_member eqb (filter (is_lost certificate) (range_with_len 0 certificate.period)) q ≡ true
lost_in_first certificate valid q found =
    let below : q < certificate.period =
    All-contains (λ residue. residue < certificate.period) certificate.lost q valid.in_period (Contains-from_any {eq = eqb} eqb-true q certificate.lost found) in
    is_member-filter_below (is_lost certificate) certificate.period q below (ap (λ (r : ℕ). list_any (eqb r) certificate.lost) (mod-eq_of_lt below) ∙ found)

-- a period keeps all slots but those with a lost residue
kept_in_first : (certificate : CertificateNumbers) → IsCertificate certificate → length (kept_slots certificate 0 certificate.period) ≤ kept_count certificate
kept_in_first certificate valid =
    let both = both_filters (is_lost certificate) (range_with_len 0 certificate.period) in
    let all = length-range_with_len 0 certificate.period in
    let lost : length certificate.lost ≤ length (filter (is_lost certificate) (range_with_len 0 certificate.period)) =
    length-le_from_is_member nat_eq_equiv certificate.lost (filter (is_lost certificate) (range_with_len 0 certificate.period)) (lost_distinct certificate valid) (lost_in_first certificate valid) in
    omega arith

kept_in_period : (certificate : CertificateNumbers) → IsCertificate certificate → (x : ℕ) → length (kept_slots certificate (certificate.period * x) certificate.period) ≤ kept_count certificate
kept_in_period certificate valid x =
    let moved : length (kept_slots certificate (certificate.period * x + 0) certificate.period) ≡ length (kept_slots certificate 0 certificate.period) =
    filter_shifted (λ slot. not (is_lost certificate slot)) (certificate.period * x) 0 certificate.period (λ i. ap not (is_lost-period certificate x i)) in
    let moved' = rw (add-zero (certificate.period * x)) at moved in
    omega (arith, kept_in_first certificate valid)

length-kept_slots-add : (certificate : CertificateNumbers) (m n : ℕ) → length (kept_slots certificate 0 (m + n)) ≡ length (kept_slots certificate 0 m) + length (kept_slots certificate m n)
length-kept_slots-add certificate m n =
    let kept = λ (slot : ℕ). not (is_lost certificate slot) in
    ap (λ (l : List ℕ). length (filter kept l)) (range_with_len-add 0 m n ∙ ap (λ k. range_with_len 0 m ++ range_with_len k n) (zero-add m))
    ∙ ap length (filter-append kept (range_with_len 0 m) (range_with_len m n))
    ∙ length-append (filter kept (range_with_len 0 m)) (filter kept (range_with_len m n))

kept_in_periods : (certificate : CertificateNumbers) → IsCertificate certificate → (x : ℕ) → length (kept_slots certificate 0 (certificate.period * x)) ≤ kept_count certificate * x
kept_in_periods certificate valid zero = rw (mul-zero certificate.period) (omega arith)
kept_in_periods certificate valid (suc x) =
    rw (mul-suc certificate.period x, length-kept_slots-add certificate (certificate.period * x) certificate.period, mul-suc (kept_count certificate) x)
    (omega (arith, kept_in_periods certificate valid x, kept_in_period certificate valid x))

-- of x periods and some slots more, at most the kept ones of each period and all of the others are kept
pub length-kept_slots : (certificate : CertificateNumbers) → IsCertificate certificate → (x more : ℕ)
    → length (kept_slots certificate 0 (certificate.period * x + more)) ≤ kept_count certificate * x + more
length-kept_slots certificate valid x more =
    let kept = λ (slot : ℕ). not (is_lost certificate slot) in
    let slots = range_with_len (certificate.period * x) more in
    omega (
      arith,
      length-kept_slots-add certificate (certificate.period * x) more,
      kept_in_periods certificate valid x,
      length-filter kept slots,
      count_by-le-length kept slots,
      length-range_with_len (certificate.period * x) more,
    )
