-- The number that a word writes.
use Rattle.std.proofs.Common.{◌≡◌, ◌⊎◌, ℕ, ◌^◌, ◌<◌, ◌≤◌, ◌&&◌, List, [], ◌∷◌, Bool, true, false, cond, Option, Some, None, Result, Ok, Err, length, get_or, inl, inr, nat_le, arith, refl, sym, ap, ◌∙◌, drop, length-drop}
use Rattle.std.proofs.lemmas.Bool.Decides.{nat_tests, eqb_tells}
use Rattle.std.proofs.lemmas.Str.Parse.{IsNumeralModel, numerals_by_value, tells_all_ascii_digits, parse_plain, parse_plus, digit_at}
use Rattle.std.proofs.lemmas.Fmt.{decimal-digits_value, digits_decimal, digits_value-decimal, decimal_digit, first_decimal}
use Rattle.std.specs.Fmt.{decimal}
use Rattle.std.specs.Result.{result_ok, OkIff}
use Rattle.std.specs.Str.{all_ascii_digits}
use Rattle.std.specs.Str.Parse.{digits_value, ParsesUnsigned}
use Rattle.sc_words.specs.Words.{number_to, begins_plain}

pub digits_model : IsNumeralModel (λ ds. all_ascii_digits ds ≡ true) (digits_value 10)
digits_model = numerals_by_value _ tells_all_ascii_digits

-- a word that writes a number: its digits, and their value of at most so much
pub record IsNumber (most : ℕ) (word : List ℕ) : Type 0 where
  pub digits : all_ascii_digits word ≡ true
  pub begins : begins_plain word ≡ true
  pub small : digits_value 10 word ≤ most

-- a number, where it is at most so much
abbrev limited : ℕ → Option ℕ → Option ℕ
limited most None = None
limited most (Some n) = cond (nat_le n most) (Some n) None

number_to-numeral : (most : ℕ) (word : List ℕ) → all_ascii_digits word ≡ true → begins_plain word ≡ true → number_to most word ≡ limited most (Some (digits_value 10 word))
unfolding number_to
number_to-numeral most word digits begins = rw (digits, begins) refl

pub number_to-value : (most : ℕ) (word : List ℕ) → IsNumber most word → number_to most word ≡ Some (digits_value 10 word)
number_to-value most word is =
    number_to-numeral most word is.digits is.begins ∙ (let small : nat_le (digits_value 10 word) most ≡ true = grind (arith, nat_tests, is.small) in rw small refl)

three_tests : (a b c : Bool) (v : ℕ) → ((a ≡ true) × (b ≡ true) × (c ≡ true)) ⊎ (cond (a && b && c) (Some v) None ≡ None)
three_tests true true true v = inl (refl, refl, refl)
three_tests true true false v = inr refl
three_tests true false c v = inr refl
three_tests false b c v = inr refl

number_to-cases : (most : ℕ) (word : List ℕ) → IsNumber most word ⊎ (number_to most word ≡ None)
unfolding number_to
number_to-cases most word = elim (three_tests (all_ascii_digits word) (begins_plain word) (nat_le (digits_value 10 word) most) (digits_value 10 word)) [
  | inl is ↦ inl (record { digits = is.0; begins = is.1; small = grind (arith, nat_tests, is.2) })
  | inr none ↦ inr none
]

-- how a word begins that begins plain
begins : (word : List ℕ) → begins_plain word ≡ true → (length word ≡ 1) ⊎ (48 < get_or word 0 0)
begins word plain = grind (arith, nat_tests)

nonempty : (word : List ℕ) → begins_plain word ≡ true → 0 < length word
nonempty [] plain = grind (arith, nat_tests)
nonempty (c ∷ word) plain = omega arith

from_plain : {E : Type 0} (most : ℕ) (word : List ℕ) (r : Result ℕ E) → most < 2 ^ 64 → begins_plain word ≡ true
    → OkIff r ((all_ascii_digits word ≡ true) × (0 < length word) × (digits_value 10 word < 2 ^ 64)) (digits_value 10 word) → number_to most word ≡ limited most (result_ok r)
from_plain most word (Ok x) fits plain h = number_to-numeral most word h.0.0 plain ∙ ap (λ (n : ℕ). limited most (Some n)) (sym h.1)
from_plain most word (Err e) fits plain h = elim (number_to-cases most word) [
  | inl is ↦ absurd (h (is.digits, nonempty word plain, omega (arith, is.small)))
  | inr none ↦ none
]

from_plus : {E : Type 0} (most : ℕ) (word : List ℕ) (r : Result ℕ E) → begins_plain word ≡ true → get_or word 0 0 ≡ 43
    → OkIff r ((all_ascii_digits (drop 1 word) ≡ true) × (0 < length (drop 1 word)) × (digits_value 10 (drop 1 word) < 2 ^ 64)) (digits_value 10 (drop 1 word)) → number_to most word ≡ limited most (result_ok r)
from_plus most word (Ok x) plain plus h = absurd (elim (begins word plain) [ inl one ↦ omega (arith, length-drop 1 word, h.0.1) | inr above ↦ omega arith ])
from_plus most word (Err e) plain plus h = elim (number_to-cases most word) [
  | inl is ↦ absurd (let digit = digit_at word 0 (digits_model.to word is.digits) (nonempty word plain) in omega (arith, digit))
  | inr none ↦ none
]

-- the number by what `parse` answers for a word that begins with no sign and no leading zero
number_from_parse : {E : Type 0} (most : ℕ) (word : List ℕ) (r : Result ℕ E) → most < 2 ^ 64 → begins_plain word ≡ true → ParsesUnsigned 64 10 word r → number_to most word ≡ limited most (result_ok r)
number_from_parse most word r fits plain parsed = elim (eqb_tells (get_or word 0 0) 43) [
  | inl plus ↦ from_plus most word r plain plus.1 (parse_plus digits_model 64 word r parsed plus.1)
  | inr other ↦ from_plain most word r fits plain (parse_plain digits_model 64 word r parsed other.1)
]

pub number_within : {E : Type 0} (most : ℕ) (word : List ℕ) (r : Result ℕ E) (n : ℕ) → most < 2 ^ 64 → begins_plain word ≡ true → ParsesUnsigned 64 10 word r
    → result_ok r ≡ Some n → n ≤ most → Some n ≡ number_to most word
number_within most word r n fits plain parsed found small =
    let is : nat_le n most ≡ true = grind (arith, nat_tests) in
    sym (number_from_parse most word r fits plain parsed ∙ ap (limited most) found ∙ (rw is refl))

pub number_above : {E : Type 0} (most : ℕ) (word : List ℕ) (r : Result ℕ E) (n : ℕ) → most < 2 ^ 64 → begins_plain word ≡ true → ParsesUnsigned 64 10 word r
    → result_ok r ≡ Some n → most < n → None ≡ number_to most word
number_above most word r n fits plain parsed found large =
    let is : nat_le n most ≡ false = grind (arith, nat_tests) in
    sym (number_from_parse most word r fits plain parsed ∙ ap (limited most) found ∙ (rw is refl))

pub number_unread : {E : Type 0} (most : ℕ) (word : List ℕ) (r : Result ℕ E) → most < 2 ^ 64 → begins_plain word ≡ true → ParsesUnsigned 64 10 word r
    → result_ok r ≡ None → None ≡ number_to most word
number_unread most word r fits plain parsed none = sym (number_from_parse most word r fits plain parsed ∙ ap (limited most) none)

pub number_none : (most : ℕ) (word : List ℕ) → begins_plain word ≡ false → number_to most word ≡ None
number_none most word begins = elim (number_to-cases most word) [ inl is ↦ absurd (cc (is.begins)) | inr none ↦ none ]

-- a word that writes a number is the text that the number is printed as
pub number_to-to_decimal : (most : ℕ) (word : List ℕ) (n : ℕ) → most < 2 ^ 64 → number_to most word ≡ Some n → (word ≡ decimal n) × (n ≤ most)
number_to-to_decimal most word n fits is = elim (number_to-cases most word) [
  | inl number ↦
      let same : digits_value 10 word ≡ n = (let value = number_to-value most word number in grind arith) in
      let one_zero : get_or word 0 0 ≡ 48 → length word ≡ 1 = λ zero. elim (begins word number.begins) [ inl one ↦ one | inr above ↦ absurd (omega arith) ] in
      let printed = decimal-digits_value digits_model word number.digits (nonempty word number.begins) one_zero (omega (arith, number.small)) in
      (sym (rw same at printed), omega (arith, number.small))
  | inr none ↦ absurd (cc)
]

begins_decimal : (n : ℕ) → n < 2 ^ 64 → begins_plain (decimal n) ≡ true
begins_decimal n small = elim (eqb_tells n 0) [
  | inl zero ↦ (let one : n < 10 = omega arith in rw (decimal_digit n one) refl)
  | inr positive ↦ (let first = first_decimal n (omega arith) (omega arith) in grind (arith, nat_tests))
]

-- the text that a number is printed as writes it
pub number_to-decimal : (most n : ℕ) → most < 2 ^ 64 → n ≤ most → number_to most (decimal n) ≡ Some n
number_to-decimal most n fits small =
    let value = digits_value-decimal digits_model n (omega arith) in
    number_to-value most (decimal n) (record { digits = digits_decimal digits_model n (omega arith); begins = begins_decimal n (omega arith); small = omega (arith, value) }) ∙ ap Some value
