-- What follows for the product of an element and a byte. Each lemma takes the laws of the field and of the action first;
-- under a bound `F: Field` they are `g.met.F.Field.field` and `g.met.F.Field.action`.
use Rattle.std.proofs.Common.{◌≡◌, ◌≢◌, ℕ, ◌<◌, bit_xor, sym, ap, ap₂, subst, ◌∙◌, arith}
use Rattle.std.specs.Int.Bits.{xor_self}
use Rattle.sc_field.specs.Field.{IsField, IsNumbered, IsNumber, IsAction}
use Rattle.sc_field.specs.FieldLemmas.{inv_mul}
use Rattle.sc_field.specs.Laws.Xor.{xor_twice}

module _ {A : Type 0} {IsElement : A → Type 0} {zero one : A} {add sub mul : A → A → A} {inv : A → A} {act : A → ℕ → ℕ} (laws : IsField IsElement zero one add sub mul inv) (action : IsAction IsElement zero one add mul act) where
  pub act_zero : (x : A) → IsElement x → act x 0 ≡ 0
  act_zero x hx = action.of_xor x 0 0 hx (omega arith) (omega arith) ∙ xor_self (act x 0)

  pub act_sub : (x y : A) (b : ℕ) → IsElement x → IsElement y → b < 256 → act (sub x y) b ≡ bit_xor (act x b) (act y b)
  act_sub x y b hx hy hb =
      sym (xor_twice (act (sub x y) b) (act y b))
      ∙ ap (λ (n : ℕ). bit_xor n (act y b)) (sym (action.by_add (sub x y) y b (laws.sub_element x y hx hy) hy hb) ∙ ap (λ (a : A). act a b) (laws.sub_add x y hx hy))

  -- an inverse undoes the product
  pub inv_act : (x : A) (b : ℕ) → IsElement x → x ≢ zero → b < 256 → act (inv x) (act x b) ≡ b
  inv_act x b hx h hb =
      sym (action.by_mul (inv x) x b (laws.inv_element x hx h) hx hb) ∙ ap (λ (a : A). act a b) (inv_mul laws x hx h) ∙ action.by_one b hb

  pub act_inv : (x : A) (b : ℕ) → IsElement x → x ≢ zero → b < 256 → act x (act (inv x) b) ≡ b
  act_inv x b hx h hb =
      sym (action.by_mul x (inv x) b hx (laws.inv_element x hx h) hb) ∙ ap (λ (a : A). act a b) (laws.mul_inv x hx h) ∙ action.by_one b hb

  pub act_cancel : (x : A) (b c : ℕ) → IsElement x → x ≢ zero → b < 256 → c < 256 → act x b ≡ act x c → b ≡ c
  act_cancel x b c hx h hb hc e = sym (inv_act x b hx h hb) ∙ ap (act (inv x)) e ∙ inv_act x c hx h hc

  -- ---- numbers. Under the bound the laws are `g.met.F.Field.numbered` and `g.met.F.Field.by_number`
  module _ {number : A → ℕ} {element : ℕ → A} (numbered : IsNumbered IsElement zero one number element) (by_number : (x : A) → IsElement x → act x 1 ≡ number x) where
    pub number_add : (x y : A) → IsElement x → IsElement y → number (add x y) ≡ bit_xor (number x) (number y)
    number_add x y hx hy =
        sym (by_number (add x y) (laws.add_element x y hx hy)) ∙ action.by_add x y 1 hx hy (omega arith)
        ∙ ap₂ bit_xor (by_number x hx) (by_number y hy)

    pub number_mul : (x y : A) → IsElement x → IsElement y → number (mul x y) ≡ act x (number y)
    number_mul x y hx hy = sym (by_number (mul x y) (laws.mul_element x y hx hy)) ∙ action.by_mul x y 1 hx hy (omega arith) ∙ ap (act x) (by_number y hy)

    -- an element's number is a number of an element
    pub is_number : (x : A) → IsElement x → IsNumber IsElement number element (number x)
    is_number x hx =
        let e = numbered.element_number x hx in
        record { is_element = subst IsElement (sym e) hx; same = ap number e }

    pub is_number_xor : (m n : ℕ) → IsNumber IsElement number element m → IsNumber IsElement number element n → IsNumber IsElement number element (bit_xor m n)
    is_number_xor m n hm hn =
        let x : A = element m in
        let y : A = element n in
        subst (IsNumber IsElement number element) (number_add x y hm.is_element hn.is_element ∙ ap₂ bit_xor hm.same hn.same)
        (is_number (add x y) (laws.add_element x y hm.is_element hn.is_element))

    pub is_number_act : (x : A) (n : ℕ) → IsElement x → IsNumber IsElement number element n → IsNumber IsElement number element (act x n)
    is_number_act x n hx hn =
        subst (IsNumber IsElement number element) (number_mul x (element n) hx hn.is_element ∙ ap (act x) hn.same)
        (is_number (mul x (element n)) (laws.mul_element x (element n) hx hn.is_element))

    -- bytes that are numbers add and multiply as their elements do
    pub element_xor : (m n : ℕ) → IsNumber IsElement number element m → IsNumber IsElement number element n → element (bit_xor m n) ≡ add (element m) (element n)
    element_xor m n hm hn =
        let x : A = element m in
        let y : A = element n in
        ap element (sym (number_add x y hm.is_element hn.is_element ∙ ap₂ bit_xor hm.same hn.same))
        ∙ numbered.element_number (add x y) (laws.add_element x y hm.is_element hn.is_element)

    pub element_act : (x : A) (n : ℕ) → IsElement x → IsNumber IsElement number element n → element (act x n) ≡ mul x (element n)
    element_act x n hx hn =
        ap element (sym (number_mul x (element n) hx hn.is_element ∙ ap (act x) hn.same))
        ∙ numbered.element_number (mul x (element n)) (laws.mul_element x (element n) hx hn.is_element)
