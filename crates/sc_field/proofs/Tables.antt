-- What the tables of exponents and logarithms hold: the checker goes over each once.
use Rattle.std.proofs.Common.{◌≡◌, ℕ, zero, suc, ◌+◌, ◌-◌, ◌<◌, Bool, true, nat_lt, ◌==◌, ◌&&◌, List, [], ◌∷◌, get_or, length, refl, sym, ap, ap₂, ◌∙◌, arith}
use Rattle.std.proofs.lemmas.Bool.{eqb-true, ltb-true, and_parts}
use Rattle.sc_field.specs.declared.gf256.TheConstants.{EXP, LOG}
use Rattle.sc_field.specs.Gf256.{carryless_product, reduced, gf256_product, gf256_inverse}
use Rattle.sc_field.specs.Laws.Tests.{all_below}
use Rattle.sc_field.specs.Laws.Product.{product_one, product_assoc}
use Rattle.sc_field.specs.Laws.Inverse.{inverse_is}

-- the power of two with this exponent, and the logarithm of x
abbrev pub exp : ℕ → ℕ
exp i = get_or EXP i 0

abbrev pub log : ℕ → ℕ
log x = get_or LOG x 0

-- each number is twice the one before it
doubles : List ℕ → Bool
doubles [] = true
doubles (a ∷ []) = true
doubles (a ∷ b ∷ xs) = (b == gf256_product a 2) && doubles (b ∷ xs)

doubles_at : (xs : List ℕ) → doubles xs ≡ true → (i : ℕ) → suc i < length xs → get_or xs (suc i) 0 ≡ gf256_product (get_or xs i 0) 2
unfolding doubles
doubles_at [] all i lt = absurd (omega arith)
doubles_at (a ∷ []) all i lt = absurd (omega arith)
doubles_at (a ∷ b ∷ xs) all zero lt = eqb-true _ _ (and_parts (b == gf256_product a 2) (doubles (b ∷ xs)) all).0
doubles_at (a ∷ b ∷ xs) all (suc i) lt = doubles_at (b ∷ xs) (and_parts (b == gf256_product a 2) (doubles (b ∷ xs)) all).1 i (omega arith)

exp_doubles : doubles EXP ≡ true
unfolding doubles gf256_product carryless_product reduced
exp_doubles = refl

exp-suc : (i : ℕ) → suc i < 510 → exp (suc i) ≡ gf256_product (exp i) 2
exp-suc i lt = doubles_at EXP exp_doubles i lt

pub exp_below : (i : ℕ) → i < 510 → exp i < 256
exp_below i lt = ltb-true _ _ (all_below (λ i. nat_lt (exp i) 256) 510 refl i lt)

pub log_below : (x : ℕ) → x < 256 → log x < 255
log_below x lt = ltb-true _ _ (all_below (λ x. nat_lt (log x) 255) 256 refl x lt)

pub exp-log : (x : ℕ) → 0 < x → x < 256 → exp (log x) ≡ x
exp-log zero pos lt = absurd (omega arith)
exp-log (suc x) pos lt = eqb-true _ _ (all_below (λ x. exp (log (suc x)) == suc x) 255 refl x (omega arith))

-- the product of two powers adds their exponents
pub exp-add : (i j : ℕ) → i + j < 510 → gf256_product (exp i) (exp j) ≡ exp (i + j)
exp-add i zero lt = let e : i ≡ i + 0 = omega arith in product_one (exp i) (exp_below i (omega arith)) ∙ ap exp e
exp-add i (suc j) lt =
    let e : suc (i + j) ≡ i + suc j = omega arith in
    let two : 2 < 256 = omega arith in
    ap (gf256_product (exp i)) (exp-suc j (omega arith))
    ∙ sym (product_assoc (exp i) (exp j) 2 (exp_below i (omega arith)) (exp_below j (omega arith)) two)
    ∙ ap (λ (n : ℕ). gf256_product n 2) (exp-add i j (omega arith)) ∙ sym (exp-suc (i + j) (omega arith)) ∙ ap exp e

-- the rule by which the program computes a product
pub product_by_tables : (x y : ℕ) → 0 < x → x < 256 → 0 < y → y < 256 → exp (log x + log y) ≡ gf256_product x y
product_by_tables x y px hx py hy =
    sym (exp-add (log x) (log y) (omega (arith, log_below x hx, log_below y hy))) ∙ ap₂ gf256_product (exp-log x px hx) (exp-log y py hy)

product_with_inverse : (x : ℕ) → 0 < x → x < 256 → gf256_product x (exp (255 - log x)) ≡ 1
product_with_inverse x px hx =
    let h : log x < 255 = log_below x hx in
    let e : log x + (255 - log x) ≡ 255 = omega arith in
    ap (λ (n : ℕ). gf256_product n (exp (255 - log x))) (sym (exp-log x px hx)) ∙ exp-add (log x) (255 - log x) (omega arith) ∙ ap exp e

-- the rule by which the program computes an inverse
pub inverse_by_tables : (x : ℕ) → 0 < x → x < 256 → exp (255 - log x) ≡ gf256_inverse x
inverse_by_tables x px hx = sym (inverse_is x (exp (255 - log x)) hx (exp_below (255 - log x) (omega arith)) (product_with_inverse x px hx))
