-- The first stream that shows that a class isn't decided.
use Rattle.std.proofs.Common.{◌≡◌, ◌≢◌, ◌⊎◌, ◌↔◌, inl, inr, ℕ, zero as naught, suc, ◌+◌, ◌*◌, ◌<◌, ◌||◌, ◌==◌, Bool, true, false, Option, Some, None, List, [], ◌∷◌, length, get_or, replicate, bit_xor, map, take, drop, ◌++◌, ap₂, refl, sym, ap, ◌∙◌, subst, arith}
use Rattle.std.specs.Prelude.{All, not}
use Rattle.std.specs.List.{list_all, range_with_len}
use Rattle.std.specs.Option.{option_map}
use Rattle.std.proofs.lemmas.Bool.Decides.{nat_tests, eqb_tells}
use Rattle.std.proofs.lemmas.Bool.{cases_lt, cases_Bool, and_parts, and_from}
use Rattle.std.proofs.lemmas.List.{length-replicate, get_or-replicate, ext_get_or, take_at, take-append-drop, length-append, length-drop, map-id}
use Rattle.std.proofs.Math.Seq.{drop-append_seam}
use Rattle.std.proofs.lemmas.List.Elements.{All-replicate, All-append, All-nil, All-weaker}
use Rattle.std.proofs.lemmas.List.Sums.{AllPass-from_list_all, list_all-from_AllPass}
use Rattle.std.proofs.lemmas.List.FromFn.{length-range_with_len, get_or-range_with_len}
use Rattle.std.proofs.Math.ListN.{get_or-eq_default}
use Rattle.sc_field.specs.Laws.Tests.{all_below}
use Rattle.sc_matrix.specs.Module.{IsByte}
use Rattle.sc_matrix.specs.Vector.{IsVector}
use Rattle.sc_echelon.specs.Kernel.{IsBefore}
use Rattle.sc_field.specs.Gf256.{gf256_product}
use Rattle.sc_matrix.specs.Layout.{cut}
use Rattle.sc_matrix.proofs.LayoutLaws.{length-cut, vectors-cut}
use Rattle.sc_channel.specs.Channel.{ChannelNumbers, IsChannel, IsOrdered}
use Rattle.sc_channel.specs.Classes.{classes_of, class_count, IsClass}
use Rattle.sc_channel.proofs.ClassLaws.{All-classes, IsClass-at, length-classes_of, IsSet-class}
use Rattle.sc_channel.proofs.SetCountSteps.{IsSet-in_range}
use Rattle.sc_field.specs.Laws.Gf256Laws.{gf256_field, gf256_action}
use Rattle.sc_code.specs.Code.{Code, IsCode}
use Rattle.sc_code.proofs.ElementLaws.{IsDecidedOver-iff_bytes}
use Rattle.sc_check.specs.Failing.{class_at, DecidesAll, IsFirstFailing}
use Rattle.sc_check.specs.Verdict.{IsLeastRefutation}
use Rattle.sc_check.proofs.VerdictSteps.{Meets-iff_listed, least_refutation}
use Rattle.sc_code.specs.Determined.{IsKept, Meets}
use Rattle.sc_code.specs.Elements.{element_at, IsZeroElements, IsDecidedOver}
use Rattle.sc_code.specs.Parity.{parity_symbol}
use Rattle.sc_window.specs.Window.{symbols_of}
use Rattle.sc_window.specs.Difference.{IsDifference, IsLeastStream, IsLeastDifference}
use Rattle.sc_code.specs.FirstBytes.{first_bytes}
use Rattle.sc_code.proofs.FirstBytesLaws.{first_below-some, option_map-none, option_map-some, AreBytes, tail_bytes, more_bytes, something, first_bytes-none}
use Rattle.sc_check.specs.Answer.{is_zero, is_zero_slot, is_difference, difference_of, Refuted, refuted_or, first_refuted, refuted_of}

-- a list that passes, and comes before all others that do
pub record IsFirstBytes (n : ℕ) (test : List ℕ → Bool) (xs : List ℕ) : Type 0 where
  pub bytes : AreBytes n xs
  pub passes : test xs ≡ true
  pub least : (ys : List ℕ) → AreBytes n ys → test ys ≡ true → (xs ≡ ys) ⊎ IsBefore 0 (λ x. x) xs ys

before_same : (x : ℕ) (xs ys : List ℕ) → (h : IsBefore 0 (λ x. x) xs ys) → (j : ℕ) → j < suc h.col → get_or (x ∷ xs) j 0 ≡ get_or (x ∷ ys) j 0
before_same x xs ys h naught lt = refl
before_same x xs ys h (suc j) lt = h.same j (omega (arith, lt))

before-cons : (x : ℕ) (xs ys : List ℕ) → (xs ≡ ys) ⊎ IsBefore 0 (λ x. x) xs ys → (x ∷ xs ≡ x ∷ ys) ⊎ IsBefore 0 (λ x. x) (x ∷ xs) (x ∷ ys)
before-cons x xs ys (inl same) = inl (ap (λ l. x ∷ l) same)
before-cons x xs ys (inr h) = inr (record { col = suc h.col; within = omega (arith, h.within); same = before_same x xs ys h; less = h.less })

before-head : (x y : ℕ) (xs ys : List ℕ) → x < y → IsBefore 0 (λ x. x) (x ∷ xs) (y ∷ ys)
before-head x y xs ys h = record { col = 0; within = omega arith; same = λ j lt. absurd (omega (arith, lt)); less = h }

no_bytes : (ys : List ℕ) → AreBytes 0 ys → [] ≡ ys
no_bytes [] h = refl
no_bytes (y ∷ ys) h = absurd (omega (arith, h.width))

-- a list that begins with the first byte that any list has, and goes on with the first rest
first_least : (n : ℕ) (test : List ℕ → Bool) (x : ℕ) (xs : List ℕ) → IsFirstBytes n (λ bytes. test (x ∷ bytes)) xs
    → ((y : ℕ) → y < x → (ys : List ℕ) → AreBytes n ys → test (y ∷ ys) ≡ false)
    → (ys : List ℕ) → AreBytes (suc n) ys → test ys ≡ true → (x ∷ xs ≡ ys) ⊎ IsBefore 0 (λ x. x) (x ∷ xs) ys
first_least n test x xs first none [] h pass = absurd (omega (arith, h.width))
first_least n test x xs first none (y ∷ ys) h pass = elim (eqb_tells x y) [
  | inl same ↦
      let here : test (x ∷ ys) ≡ true = subst (λ z. test (z ∷ ys) ≡ true) (sym same.1) pass in
      subst (λ z. (x ∷ xs ≡ z ∷ ys) ⊎ IsBefore 0 (λ x. x) (x ∷ xs) (z ∷ ys)) same.1 (before-cons x xs ys (first.least ys (tail_bytes n y ys h) here))
  | inr other ↦ elim (cases_lt x y) [
    | inl less ↦ inr (before-head x y xs ys less)
    | inr more ↦ (let no = none y (omega (arith, more, other.1)) ys (tail_bytes n y ys h) in absurd (cc))
  ]
]

pub first_bytes-some : (n : ℕ) (test : List ℕ → Bool) (xs : List ℕ) → first_bytes n test ≡ Some xs → IsFirstBytes n test xs
unfolding first_bytes
first_bytes-some naught test xs is =
    let h = something (test []) xs is in
    subst (IsFirstBytes 0 test) (sym h.1) (record {
      bytes = record { width = refl; entries = λ i d lt. absurd (omega (arith, lt)) };
      passes = h.0;
      least = λ ys by pass. inl (no_bytes ys by);
    })
first_bytes-some (suc n) test xs is =
    let f : ℕ → Option (List ℕ) = λ byte. option_map (λ bytes. byte ∷ bytes) (first_bytes n (λ bytes. test (byte ∷ bytes))) in
    let at = first_below-some 256 f xs is in
    let mapped = option_map-some (λ bytes. at.place ∷ bytes) (first_bytes n (λ bytes. test (at.place ∷ bytes))) xs at.there in
    let rest = first_bytes-some n (λ bytes. test (at.place ∷ bytes)) mapped.from mapped.there in
    subst (IsFirstBytes (suc n) test) mapped.is (record {
      bytes = more_bytes n at.place mapped.from at.within rest.bytes;
      passes = rest.passes;
      least = first_least n test at.place mapped.from rest (λ x lt. first_bytes-none n (λ bytes. test (x ∷ bytes)) (option_map-none (λ bytes. x ∷ bytes) (first_bytes n (λ bytes. test (x ∷ bytes))) (at.before x lt)));
    })

-- ---- the one that comes first
swap_before : (xs ys : List ℕ) → length xs ≡ length ys → IsBefore 0 (λ x. x) xs ys → IsBefore 0 (λ x. x) ys xs → ⊥
swap_before xs ys same a b = elim (cases_lt a.col b.col) [
  | inl first ↦ (let e = b.same a.col first in let l = a.less in omega (arith, e, l))
  | inr more ↦ elim (eqb_tells a.col b.col) [
    | inl here ↦ (let l = a.less in let m : get_or ys a.col 0 < get_or xs a.col 0 = subst (λ c. get_or ys c 0 < get_or xs c 0) (sym here.1) b.less in omega (arith, l, m))
    | inr other ↦ (let lt : b.col < a.col = omega (arith, more, other.1) in let e = a.same b.col lt in let l = b.less in omega (arith, e, l))
  ]
]

found_same : (n : ℕ) (test : List ℕ → Bool) (xs : List ℕ) → IsFirstBytes n test xs → (o : Option (List ℕ)) → first_bytes n test ≡ o → o ≡ Some xs
found_same n test xs h None is = (let no = first_bytes-none n test is xs h.bytes in let yes = h.passes in absurd (cc))
found_same n test xs h (Some ys) is =
    let there = first_bytes-some n test ys is in
    elim (there.least xs h.bytes h.passes) [
      | inl same ↦ ap Some same
      | inr before ↦ elim (h.least ys there.bytes there.passes) [
        | inl same ↦ ap Some (sym same)
        | inr after ↦ absurd (swap_before ys xs (there.bytes.width ∙ sym h.bytes.width) before after)
      ]
    ]

-- the list that passes, and comes before all others that do, is the one that is found
pub first_bytes-is : (n : ℕ) (test : List ℕ → Bool) (xs : List ℕ) → IsFirstBytes n test xs → first_bytes n test ≡ Some xs
first_bytes-is n test xs h = found_same n test xs h (first_bytes n test) refl

-- ---- streams as lists of bytes
-- the difference of a code over GF(256) under a class
abbrev pub Differs : Code ℕ → List Bool → List (List ℕ) → Type 0
Differs code class xs = IsDifference IsByte 0 bit_xor gf256_product code class xs

eq_zero : (x : ℕ) → (x == 0) ≡ true → x ≡ 0
eq_zero x is = grind (arith, nat_tests)

zero_eq : (x : ℕ) → x ≡ 0 → (x == 0) ≡ true
zero_eq x is = rw is refl

zero_test : (k : ℕ) (block : List ℕ) → length block ≡ k → (is_zero block ≡ true) ↔ (block ≡ replicate k 0)
zero_test k block width = (
  λ is. ext_get_or 0 block (replicate k 0) (width ∙ sym (length-replicate k 0)) (λ i lt.
      let at = AllPass-from_list_all (λ symbol. symbol == 0) block is i 0 lt in
      eq_zero (get_or block i 0) at ∙ sym (get_or-replicate k i 0 0 (omega (arith, width)))),
  λ same. list_all-from_AllPass (λ symbol. symbol == 0) block (subst (λ b. All (λ x. (x == 0) ≡ true) b) (sym same) (All-replicate (λ x. (x == 0) ≡ true) k 0 refl)),
)

range_test : (p : ℕ → Bool) (n : ℕ) → (list_all p (range_with_len 0 n) ≡ true) ↔ ((i : ℕ) → i < n → p i ≡ true)
range_test p n = (
  λ is i lt. all_below p n is i lt,
  λ each. list_all-from_AllPass p (range_with_len 0 n) (λ i d lt.
      let small : i < n = omega (arith, lt, length-range_with_len 0 n) in
      let e : get_or (range_with_len 0 n) i d ≡ i = get_or-range_with_len 0 n i d small ∙ (omega arith) in
      subst (λ v. p v ≡ true) (sym e) (each i small)),
)

slot_test : (code : Code ℕ) (xs : List (List ℕ)) (t : ℕ) → length (get_or xs t []) ≡ code.k → (is_zero_slot code xs t ≡ true) ↔ IsZeroElements 0 bit_xor gf256_product code xs t
slot_test code xs t width =
    let block = zero_test code.k (get_or xs t []) width in
    let parities = range_test (λ j. parity_symbol 0 0 bit_xor gf256_product code (element_at 0 xs) t j == 0) code.r in (
      λ is. let parts = and_parts _ _ is in record {
        symbols = block.0 parts.0;
        parities = λ j lt. eq_zero _ (parities.0 parts.1 j lt);
      },
      λ h. and_from _ _ (block.1 h.symbols) (parities.1 (λ j lt. zero_eq _ (h.parities j lt))),
    )

not_true : (b : Bool) → not b ≡ true → b ≡ false
not_true true h = absurd (cc)
not_true false h = refl

not_from : (b : Bool) → (b ≡ true → ⊥) → not b ≡ true
not_from true h = absurd (h refl)
not_from false h = refl

-- a kept slot is one of the class
kept_within : (class : List Bool) (t : ℕ) → IsKept class t → t < length class
kept_within class t kept = elim (cases_lt t (length class)) [
  | inl lt ↦ lt
  | inr past ↦ (let there = get_or-eq_default class true past in absurd (cc))
]

or_second : (a b : Bool) → (a || b) ≡ true → a ≡ false → b ≡ true
or_second true b h kept = absurd (cc)
or_second false b h kept = h

kept_or : (a b : Bool) → (a ≡ false → b ≡ true) → (a || b) ≡ true
kept_or true b h = refl
kept_or false b h = h refl

difference_test : (code : Code ℕ) (class : List Bool) (xs : List (List ℕ)) → All (IsVector IsByte code.k) xs → length xs ≡ length class → 0 < length class
    → (is_difference code class xs ≡ true) ↔ Differs code class xs
difference_test code class xs blocks count some =
    let width : (t : ℕ) → t < length class → length (get_or xs t []) ≡ code.k = λ t lt. (blocks t [] (omega (arith, lt, count))).width in
    let first = zero_test code.k (get_or xs 0 []) (width 0 some) in
    let slots = range_test (λ t. get_or class t true || is_zero_slot code xs t) (length class) in (
      λ is. let parts = and_parts (not (is_zero (get_or xs 0 []))) (list_all (λ t. get_or class t true || is_zero_slot code xs t) (range_with_len 0 (length class))) is in record {
        blocks = blocks;
        count = count;
        zeros = λ t kept. (slot_test code xs t (width t (kept_within class t kept))).0 (or_second _ _ (slots.0 parts.1 t (kept_within class t kept)) kept);
        block_differs = λ zero. let yes = first.1 zero in let no = not_true (is_zero (get_or xs 0 [])) parts.0 in absurd (cc);
      },
      λ h. and_from _ _ (not_from _ (λ yes. h.block_differs (first.0 yes)))
          (slots.1 (λ t lt. kept_or (get_or class t true) _ (λ kept. (slot_test code xs t (width t lt)).1 (h.zeros t kept)))),
    )

-- ---- a list of blocks and the list of its symbols
symbols_of-cut : (n k : ℕ) (xs : List ℕ) → length xs ≡ n * k → symbols_of (cut n k xs) ≡ xs
symbols_of-cut naught k [] h = refl
symbols_of-cut naught k (x ∷ xs) h = absurd (omega (arith, h))
symbols_of-cut (suc n) k xs h =
    let rest : length (drop k xs) ≡ n * k = omega (arith, h, length-drop k xs) in
    ap (λ l. take k xs ++ l) (symbols_of-cut n k (drop k xs) rest) ∙ take-append-drop k xs

first_width : (k : ℕ) (x : List ℕ) (xs : List (List ℕ)) → All (IsVector IsByte k) (x ∷ xs) → length x ≡ k
first_width k x xs h = (h 0 [] (omega arith)).width

rest_blocks : (k : ℕ) (x : List ℕ) (xs : List (List ℕ)) → All (IsVector IsByte k) (x ∷ xs) → All (IsVector IsByte k) xs
rest_blocks k x xs h i d lt = h (suc i) d (omega (arith, lt))

cut-symbols_of : (k : ℕ) (xs : List (List ℕ)) → All (IsVector IsByte k) xs → cut (length xs) k (symbols_of xs) ≡ xs
cut-symbols_of k [] h = refl
cut-symbols_of k (x ∷ xs) h =
    let w = first_width k x xs h in
    let front : take k (x ++ symbols_of xs) ≡ x = take_at x (symbols_of xs) k w in
    let behind : drop k (x ++ symbols_of xs) ≡ symbols_of xs = subst (λ m. drop m (x ++ symbols_of xs) ≡ symbols_of xs) w (drop-append_seam x (symbols_of xs)) in
    rw (front, behind, cut-symbols_of k xs (rest_blocks k x xs h)) refl

length-symbols_of : (k : ℕ) (xs : List (List ℕ)) → All (IsVector IsByte k) xs → length (symbols_of xs) ≡ length xs * k
length-symbols_of k [] h = omega arith
length-symbols_of k (x ∷ xs) h =
    let w = first_width k x xs h in
    let l = length-symbols_of k xs (rest_blocks k x xs h) in
    omega (arith, w, l, length-append x (symbols_of xs))

bytes_of : (k : ℕ) (xs : List (List ℕ)) → All (IsVector IsByte k) xs → All IsByte (symbols_of xs)
bytes_of k [] h = All-nil IsByte
bytes_of k (x ∷ xs) h = All-append IsByte x (symbols_of xs) ((h 0 [] (omega arith)).entries) (bytes_of k xs (rest_blocks k x xs h))

-- ---- the difference that is found
numbers_same : (xs : List (List ℕ)) → map (map (λ (x : ℕ). x)) xs ≡ xs
numbers_same [] = refl
numbers_same (x ∷ xs) = ap₂ (λ a b. a ∷ b) (map-id x) (numbers_same xs)

module _ (code : Code ℕ) (class : List Bool) (some : 0 < length class) where
  abbrev cut_test : List ℕ → Bool
  cut_test symbols = is_difference code class (cut (length class) code.k symbols)

  -- the blocks of a list of bytes
  cut_blocks : (symbols : List ℕ) → AreBytes (length class * code.k) symbols → All (IsVector IsByte code.k) (cut (length class) code.k symbols)
  cut_blocks symbols h = vectors-cut IsByte (length class) code.k symbols h.width h.entries

  cut_differs : (symbols : List ℕ) → AreBytes (length class * code.k) symbols → (cut_test symbols ≡ true) ↔ Differs code class (cut (length class) code.k symbols)
  cut_differs symbols h = difference_test code class (cut (length class) code.k symbols) (cut_blocks symbols h) (length-cut (length class) code.k symbols) some

  flat : (xs : List (List ℕ)) → All (IsVector IsByte code.k) xs → length xs ≡ length class → AreBytes (length class * code.k) (symbols_of xs)
  flat xs h count = record {
    width = length-symbols_of code.k xs h ∙ ap (λ n. n * code.k) count;
    entries = bytes_of code.k xs h;
  }

  uncut : (xs : List (List ℕ)) → All (IsVector IsByte code.k) xs → length xs ≡ length class → cut (length class) code.k (symbols_of xs) ≡ xs
  uncut xs h count = subst (λ n. cut n code.k (symbols_of xs) ≡ xs) count (cut-symbols_of code.k xs h)

  by_least : (xs : List (List ℕ)) → (ys : List ℕ) → AreBytes (length class * code.k) ys
      → (xs ≡ cut (length class) code.k ys) ⊎ IsBefore 0 (λ x. x) (symbols_of xs) (symbols_of (cut (length class) code.k ys)) → (symbols_of xs ≡ ys) ⊎ IsBefore 0 (λ x. x) (symbols_of xs) ys
  by_least xs ys by (inl same) = inl (ap symbols_of same ∙ symbols_of-cut (length class) code.k ys by.width)
  by_least xs ys by (inr before) = inr (subst (IsBefore 0 (λ x. x) (symbols_of xs)) (symbols_of-cut (length class) code.k ys by.width) before)

  -- the least difference comes first among the lists of bytes that pass
  first_of_least : (xs : List (List ℕ)) → IsLeastStream 0 (λ x. x) (Differs code class) xs → IsFirstBytes (length class * code.k) cut_test (symbols_of xs)
  first_of_least xs h =
      let d = h.belongs in
      let bytes = flat xs d.blocks d.count in
      record {
        bytes = bytes;
        passes = (cut_differs (symbols_of xs) bytes).1 (subst (Differs code class) (sym (uncut xs d.blocks d.count)) d);
        least = λ ys by pass. by_least xs ys by (h.least (cut (length class) code.k ys) ((cut_differs ys by).0 pass));
      }

  no_difference : IsDecidedOver IsByte 0 bit_xor gf256_product code class → (o : Option (List ℕ)) → first_bytes (length class * code.k) cut_test ≡ o → o ≡ None
  no_difference decided None is = refl
  no_difference decided (Some symbols) is =
      let first = first_bytes-some (length class * code.k) cut_test symbols is in
      let d = (cut_differs symbols first.bytes).0 first.passes in
      absurd (d.block_differs (decided (cut (length class) code.k symbols) d.blocks d.count d.zeros))

module _ (code : Code ℕ) (class : List Bool) (some : 0 < length class) where
  least_there : (symbols : List ℕ) → IsFirstBytes (length class * code.k) (cut_test code class some) symbols → (ys : List (List ℕ)) → Differs code class ys
      → (cut (length class) code.k symbols ≡ ys) ⊎ IsBefore 0 (λ x. x) (symbols_of (cut (length class) code.k symbols)) (symbols_of ys)
  least_there symbols first ys d =
      let bytes = flat code class some ys d.blocks d.count in
      let whole = uncut code class some ys d.blocks d.count in
      elim (first.least (symbols_of ys) bytes ((cut_differs code class some (symbols_of ys) bytes).1 (subst (Differs code class) (sym whole) d))) [
        | inl same ↦ inl (ap (cut (length class) code.k) same ∙ whole)
        | inr before ↦ inr (subst (λ l. IsBefore 0 (λ x. x) l (symbols_of ys)) (sym (symbols_of-cut (length class) code.k symbols first.bytes.width)) before)
      ]

-- the least difference is the one that is found
pub difference-is : (code : Code ℕ) (class : List Bool) (numbers : List (List ℕ)) → 0 < length class → IsLeastDifference IsByte 0 bit_xor gf256_product (λ x. x) code class numbers
    → difference_of code class ≡ Some numbers
unfolding difference_of
difference-is code class numbers some h =
    let same : numbers ≡ h.stream = h.are_numbers ∙ numbers_same h.stream in
    let found = first_bytes-is (length class * code.k) (cut_test code class some) (symbols_of h.stream) (first_of_least code class some h.stream h.is_least) in
    ap (option_map (cut (length class) code.k)) found ∙ ap Some (uncut code class some h.stream h.is_least.belongs.blocks h.is_least.belongs.count ∙ sym same)

-- where the class is decided none is
pub difference-none : (code : Code ℕ) (class : List Bool) → 0 < length class → IsDecidedOver IsByte 0 bit_xor gf256_product code class → difference_of code class ≡ None
unfolding difference_of
difference-none code class some decided = ap (option_map (cut (length class) code.k)) (no_difference code class some decided (first_bytes (length class * code.k) (cut_test code class some)) refl)

-- the other way: where none is found the class is decided, and one that is found is the least
pub difference-decided : (code : Code ℕ) (class : List Bool) → 0 < length class → difference_of code class ≡ None → IsDecidedOver IsByte 0 bit_xor gf256_product code class
unfolding difference_of
difference-decided code class some none xs blocks count zeros =
    let flat_none = option_map-none (cut (length class) code.k) (first_bytes (length class * code.k) (cut_test code class some)) none in
    let bytes = flat code class some xs blocks count in
    let fails = first_bytes-none (length class * code.k) (cut_test code class some) flat_none (symbols_of xs) bytes in
    let fails_there : is_difference code class xs ≡ false = subst (λ ys. is_difference code class ys ≡ false) (uncut code class some xs blocks count) fails in
    let width : length (get_or xs 0 []) ≡ code.k = (blocks 0 [] (omega (arith, count, some))).width in
    elim (cases_Bool (is_zero (get_or xs 0 []))) [
      | inl zeros ↦ (zero_test code.k (get_or xs 0 []) width).0 zeros
      | inr other ↦
          let differs : get_or xs 0 [] ≢ replicate code.k 0 = λ zero. (let tested = (zero_test code.k (get_or xs 0 []) width).1 zero in absurd (cc)) in
          let there : is_difference code class xs ≡ true = (difference_test code class xs blocks count some).1 (record { blocks = blocks; count = count; zeros = zeros; block_differs = differs }) in
          absurd (cc)
    ]

pub difference-least : (code : Code ℕ) (class : List Bool) (numbers : List (List ℕ)) → 0 < length class → difference_of code class ≡ Some numbers
    → IsLeastDifference IsByte 0 bit_xor gf256_product (λ x. x) code class numbers
unfolding difference_of
difference-least code class numbers some is =
    let mapped = option_map-some (cut (length class) code.k) (first_bytes (length class * code.k) (cut_test code class some)) numbers is in
    let first = first_bytes-some (length class * code.k) (cut_test code class some) mapped.from mapped.there in
    record {
      stream = numbers;
      is_least = record {
        belongs = subst (Differs code class) mapped.is ((cut_differs code class some mapped.from first.bytes).0 first.passes);
        least = λ ys d. subst (λ xs. (xs ≡ ys) ⊎ IsBefore 0 (λ x. x) (symbols_of xs) (symbols_of ys)) mapped.is
            (least_there code class some mapped.from first ys d);
      };
      are_numbers = sym (numbers_same numbers);
    }

-- ---- the first class that isn't decided
abbrev IsDecidedClass : Code ℕ → List Bool → Type 0
IsDecidedClass code class = IsDecidedOver IsByte 0 bit_xor gf256_product code class

module _ (code : Code ℕ) where
  -- where each class is decided there is none
  pub refuted-none : (index : ℕ) (classes : List (List Bool)) → All (λ class. 0 < length class) classes → All (IsDecidedClass code) classes → first_refuted code index classes ≡ None
  refuted-none index [] some h = refl
  refuted-none index (class ∷ classes) some h =
      let none = difference-none code class (some 0 [] (omega arith)) (h 0 [] (omega arith)) in
      rw none (refuted-none (suc index) classes (λ i d lt. some (suc i) d (omega (arith, lt))) (λ i d lt. h (suc i) d (omega (arith, lt))))

  -- the first one is found, with the least difference
  pub refuted-some : (index : ℕ) (classes : List (List Bool)) (p : ℕ) (stream : List (List ℕ)) → All (λ class. 0 < length class) classes → p < length classes
      → ((i : ℕ) → i < p → IsDecidedClass code (get_or classes i [])) → IsLeastDifference IsByte 0 bit_xor gf256_product (λ x. x) code (get_or classes p []) stream
      → first_refuted code index classes ≡ Some (record { index = index + p; class = get_or classes p []; stream = stream })
  refuted-some index [] p stream some h earlier least = absurd (omega (arith, h))
  refuted-some index (class ∷ classes) naught stream some h earlier least =
      let found = difference-is code class stream (some 0 [] (omega arith)) least in
      let e : index + 0 ≡ index = omega arith in
      rw (found, e) refl
  refuted-some index (class ∷ classes) (suc p) stream some h earlier least =
      let none = difference-none code class (some 0 [] (omega arith)) (earlier 0 (omega arith)) in
      let e : index + suc p ≡ suc index + p = omega arith in
      rw (none, e) (refuted-some (suc index) classes p stream (λ i d lt. some (suc i) d (omega (arith, lt))) (omega (arith, h)) (λ i lt. earlier (suc i) (omega (arith, lt))) least)

  -- and the other way
  nothing_behind : (o : Option (List (List ℕ))) (index : ℕ) (class : List Bool) (behind : Option Refuted) → refuted_or o index class behind ≡ None → (o ≡ None) × (behind ≡ None)
  nothing_behind None index class behind h = (refl, h)
  nothing_behind (Some stream) index class behind h = absurd (cc)

  All-more : (class : List Bool) (classes : List (List Bool)) → IsDecidedClass code class → All (IsDecidedClass code) classes → All (IsDecidedClass code) (class ∷ classes)
  All-more class classes first h naught d lt = first
  All-more class classes first h (suc i) d lt = h i d (omega (arith, lt))

  pub decided-none : (index : ℕ) (classes : List (List Bool)) → All (λ class. 0 < length class) classes → first_refuted code index classes ≡ None → All (IsDecidedClass code) classes
  decided-none index [] some none = All-nil (IsDecidedClass code)
  decided-none index (class ∷ classes) some none =
      let parts = nothing_behind (difference_of code class) index class (first_refuted code (suc index) classes) none in
      All-more class classes (difference-decided code class (some 0 [] (omega arith)) parts.0)
      (decided-none (suc index) classes (λ i d lt. some (suc i) d (omega (arith, lt))) parts.1)

  pub record IsFirstRefuted (index : ℕ) (classes : List (List Bool)) (r : Refuted) : Type 0 where
    pub place : ℕ
    pub within : place < length classes
    pub index_is : r.index ≡ index + place
    pub class_is : r.class ≡ get_or classes place []
    pub earlier : (i : ℕ) → i < place → IsDecidedClass code (get_or classes i [])
    pub least : IsLeastDifference IsByte 0 bit_xor gf256_product (λ x. x) code r.class r.stream

  some_same : {a b : Refuted} → Some a ≡ Some b → a ≡ b
  some_same e = cc

  earlier_too : (class : List Bool) (classes : List (List Bool)) (place : ℕ) → IsDecidedClass code class → ((i : ℕ) → i < place → IsDecidedClass code (get_or classes i []))
      → (i : ℕ) → i < suc place → IsDecidedClass code (get_or (class ∷ classes) i [])
  earlier_too class classes place first h naught lt = first
  earlier_too class classes place first h (suc i) lt = h i (omega (arith, lt))

  refuted-first : (o : Option (List (List ℕ))) (index : ℕ) (class : List Bool) (classes : List (List Bool)) (r : Refuted) → 0 < length class → difference_of code class ≡ o
      → refuted_or o index class (first_refuted code (suc index) classes) ≡ Some r → ((s : Refuted) → first_refuted code (suc index) classes ≡ Some s → IsFirstRefuted (suc index) classes s)
      → IsFirstRefuted index (class ∷ classes) r
  refuted-first (Some stream) index class classes r some found is behind =
      let here : IsFirstRefuted index (class ∷ classes) (record { index = index; class = class; stream = stream }) = record {
        place = 0;
        within = omega arith;
        index_is = omega arith;
        class_is = refl;
        earlier = λ i lt. absurd (omega (arith, lt));
        least = difference-least code class stream some found;
      } in
      subst (IsFirstRefuted index (class ∷ classes)) (some_same is) here
  refuted-first None index class classes r some found is behind =
      let h = behind r is in
      record {
        place = suc h.place;
        within = omega (arith, h.within);
        index_is = omega (arith, h.index_is);
        class_is = h.class_is;
        earlier = earlier_too class classes h.place (difference-decided code class some found) h.earlier;
        least = h.least;
      }

  pub first-refuted : (index : ℕ) (classes : List (List Bool)) (r : Refuted) → All (λ class. 0 < length class) classes → first_refuted code index classes ≡ Some r → IsFirstRefuted index classes r
  first-refuted index [] r some is = absurd (cc)
  first-refuted index (class ∷ classes) r some is =
      refuted-first (difference_of code class) index class classes r (some 0 [] (omega arith)) refl is
      (λ s there. first-refuted (suc index) classes s (λ i d lt. some (suc i) d (omega (arith, lt))) there)

-- ---- the answer of a check
pub classes-some : (channel : ChannelNumbers) → IsOrdered channel.w channel.b channel.n channel.t → All (λ class. 0 < length class) (classes_of channel)
classes-some channel ordered =
    All-weaker (IsClass channel) (λ class. 0 < length class) (λ class is. IsSet-in_range class 0 (IsSet-class channel class ordered is)) (classes_of channel) (All-classes channel ordered)

decided_classes : (code : Code ℕ) (channel : ChannelNumbers) → IsOrdered channel.w channel.b channel.n channel.t → DecidesAll code channel → All (IsDecidedClass code) (classes_of channel)
decided_classes code channel ordered all i d lt =
    (IsDecidedOver-iff_bytes gf256_product code (get_or (classes_of channel) i d) (classes-some channel ordered i d lt)).1 (all i d lt)

-- where each class decides there is no refutation
pub answer-meets : (code : Code ℕ) (given channel : ChannelNumbers) → IsChannel channel → given ≡ channel → DecidesAll code given → refuted_of code channel ≡ None
answer-meets code given channel limits same all =
    refuted-none code 0 (classes_of channel) (classes-some channel limits.ordered) (decided_classes code channel limits.ordered (subst (DecidesAll code) same all))

-- the first class that doesn't decide is told with the least difference
pub answer-fails : (code : Code ℕ) (channel : ChannelNumbers) (index : ℕ) (loss : List Bool) (numbers : List (List ℕ)) → IsChannel channel → loss ≡ class_at channel index → IsFirstFailing code channel index
    → IsLeastDifference IsByte 0 bit_xor gf256_product (λ n. n) code loss numbers → Some (record { index = index; class = loss; stream = numbers }) ≡ refuted_of code channel
answer-fails code channel index loss numbers limits e first least =
    let some = classes-some channel limits.ordered in
    let count = length-classes_of channel in
    let found = refuted-some code 0 (classes_of channel) index numbers some (omega (arith, count, first.in_range))
    (λ i lt. (IsDecidedOver-iff_bytes gf256_product code (get_or (classes_of channel) i []) (some i [] (omega (arith, count, first.in_range, lt)))).1 (first.earlier i lt))
    (subst (λ l. IsLeastDifference IsByte 0 bit_xor gf256_product (λ n. n) code l numbers) e least) in
    let at : index ≡ 0 + index = omega arith in
    ap (λ l. Some (record { index = index; class = l; stream = numbers })) e
    ∙ ap (λ n. Some (record { index = n; class = class_at channel index; stream = numbers })) at ∙ sym found

-- ---- the answer in the words of codes
-- a class that has a least difference doesn't decide
not_decided : (code : Code ℕ) (loss : List Bool) (numbers : List (List ℕ)) → IsLeastDifference IsByte 0 bit_xor gf256_product (λ n. n) code loss numbers → IsDecidedClass code loss → ⊥
not_decided code loss numbers least decided =
    let d = least.is_least.belongs in
    d.block_differs (decided least.stream d.blocks d.count d.zeros)

-- no refutation is found exactly where the code meets the channel
pub answer-none : (code : Code ℕ) (channel : ChannelNumbers) → IsCode IsByte code → IsChannel channel → (refuted_of code channel ≡ None) ↔ Meets 0 gf256_product code channel
answer-none code channel hc limits =
    let some = classes-some channel limits.ordered in
    let listed = Meets-iff_listed gf256_field gf256_action code channel hc limits.ordered in (
      λ none. listed.1 (λ i d lt. (IsDecidedOver-iff_bytes gf256_product code (get_or (classes_of channel) i d) (some i d lt)).0 (decided-none code 0 (classes_of channel) some none i d lt)),
      λ m. answer-meets code channel channel limits refl (listed.0 m),
    )

-- one that is found is the least refutation
pub answer-some : (code : Code ℕ) (channel : ChannelNumbers) (r : Refuted) → IsCode IsByte code → IsChannel channel → refuted_of code channel ≡ Some r → IsLeastRefutation code channel r.index r.class r.stream
answer-some code channel r hc limits is =
    let some = classes-some channel limits.ordered in
    let count = length-classes_of channel in
    let h = first-refuted code 0 (classes_of channel) r some is in
    let at : r.index ≡ h.place = h.index_is ∙ (omega arith) in
    let class_is : r.class ≡ class_at channel r.index = h.class_is ∙ ap (λ n. get_or (classes_of channel) n []) (sym at) in
    let within : r.index < class_count channel = omega (arith, at, h.within, count) in
    let is_class : IsClass channel r.class = subst (IsClass channel) (sym class_is) (IsClass-at channel r.index limits.ordered within) in
    let first : IsFirstFailing code channel r.index = record {
      in_range = within;
      fails = λ decided. not_decided code r.class r.stream h.least
          (subst (IsDecidedClass code) (sym class_is) ((IsDecidedOver-iff_bytes gf256_product code (class_at channel r.index) (some r.index [] (omega (arith, count, within)))).1 decided));
      earlier = λ i lt. (IsDecidedOver-iff_bytes gf256_product code (class_at channel i) (some i [] (omega (arith, count, within, lt)))).0 (h.earlier i (omega (arith, at, lt)));
    } in
    let same : r.stream ≡ h.least.stream = h.least.are_numbers ∙ numbers_same h.least.stream in
    let d = h.least.is_least.belongs in
    least_refutation code channel r.index r.class r.stream hc limits is_class class_is first h.least (ap length same ∙ d.count)
    (subst (All (λ block. length block ≡ code.k)) (sym same) (λ i e lt. (d.blocks i e lt).width))
