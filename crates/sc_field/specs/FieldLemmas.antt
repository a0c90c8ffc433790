-- What follows from the laws of a field. Each lemma takes the laws first, as `zero_mul laws x hx`, and under a bound
-- `F: Field` they are `g.met.F.Field.field`.
use Rattle.std.proofs.Common.{◌≡◌, ◌≢◌, ◌⊎◌, Bool, true, false, sym, ap, ap₂, refl, ◌∙◌, inl, inr}
use Rattle.sc_field.specs.Field.{IsField, IsExact}

module _ {A : Type 0} {IsElement : A → Type 0} {zero one : A} {add sub mul : A → A → A} {inv : A → A} (laws : IsField IsElement zero one add sub mul inv) where
  -- ---- sums
  pub zero_add : (x : A) → IsElement x → add zero x ≡ x
  zero_add x hx = laws.add_comm zero x laws.zero_element hx ∙ laws.add_zero x hx

  pub add_left_comm : (x y z : A) → IsElement x → IsElement y → IsElement z → add x (add y z) ≡ add y (add x z)
  add_left_comm x y z hx hy hz =
      sym (laws.add_assoc x y z hx hy hz) ∙ ap (λ (a : A). add a z) (laws.add_comm x y hx hy) ∙ laws.add_assoc y x z hy hx hz

  pub add_four : (a b c d : A) → IsElement a → IsElement b → IsElement c → IsElement d → add (add a b) (add c d) ≡ add (add a c) (add b d)
  add_four a b c d ha hb hc hd =
      laws.add_assoc a b (add c d) ha hb (laws.add_element c d hc hd) ∙ ap (add a) (add_left_comm b c d hb hc hd)
      ∙ sym (laws.add_assoc a c (add b d) ha hc (laws.add_element b d hb hd))

  pub add_cancel : (x y z : A) → IsElement x → IsElement y → IsElement z → add x z ≡ add y z → x ≡ y
  add_cancel x y z hx hy hz e = sym (laws.add_sub x z hx hz) ∙ ap (λ (a : A). sub a z) e ∙ laws.add_sub y z hy hz

  -- ---- differences
  pub sub_self : (x : A) → IsElement x → sub x x ≡ zero
  sub_self x hx = ap (λ (a : A). sub a x) (sym (zero_add x hx)) ∙ laws.add_sub zero x laws.zero_element hx

  pub sub_zero : (x : A) → IsElement x → sub x zero ≡ x
  sub_zero x hx = ap (λ (a : A). sub a zero) (sym (laws.add_zero x hx)) ∙ laws.add_sub x zero hx laws.zero_element

  -- the difference is the one element that y takes back to x
  pub sub_is : (x y z : A) → IsElement x → IsElement y → IsElement z → add z y ≡ x → sub x y ≡ z
  sub_is x y z hx hy hz e = ap (λ (a : A). sub a y) (sym e) ∙ laws.add_sub z y hz hy

  pub same_from_sub : (x y : A) → IsElement x → IsElement y → sub x y ≡ zero → x ≡ y
  same_from_sub x y hx hy e = sym (laws.sub_add x y hx hy) ∙ ap (λ (a : A). add a y) e ∙ zero_add y hy

  pub sub-negative : (x y : A) → IsElement x → IsElement y → sub x y ≡ add x (sub zero y)
  sub-negative x y hx hy =
      let hn : IsElement (sub zero y) = laws.sub_element zero y laws.zero_element hy in
      sub_is x y (add x (sub zero y)) hx hy (laws.add_element x (sub zero y) hx hn)
      (laws.add_assoc x (sub zero y) y hx hn hy ∙ ap (add x) (laws.sub_add zero y laws.zero_element hy) ∙ laws.add_zero x hx)

  -- ---- products
  pub one_mul : (x : A) → IsElement x → mul one x ≡ x
  one_mul x hx = laws.mul_comm one x laws.one_element hx ∙ laws.mul_one x hx

  pub add_mul : (x y z : A) → IsElement x → IsElement y → IsElement z → mul (add x y) z ≡ add (mul x z) (mul y z)
  add_mul x y z hx hy hz =
      laws.mul_comm (add x y) z (laws.add_element x y hx hy) hz ∙ laws.mul_add z x y hz hx hy
      ∙ ap₂ add (laws.mul_comm z x hz hx) (laws.mul_comm z y hz hy)

  pub mul_left_comm : (x y z : A) → IsElement x → IsElement y → IsElement z → mul x (mul y z) ≡ mul y (mul x z)
  mul_left_comm x y z hx hy hz =
      sym (laws.mul_assoc x y z hx hy hz) ∙ ap (λ (a : A). mul a z) (laws.mul_comm x y hx hy) ∙ laws.mul_assoc y x z hy hx hz

  pub mul_zero : (x : A) → IsElement x → mul x zero ≡ zero
  mul_zero x hx =
      let h0 : IsElement zero = laws.zero_element in
      let hp : IsElement (mul x zero) = laws.mul_element x zero hx h0 in
      sym (add_cancel zero (mul x zero) (mul x zero) h0 hp hp
      (zero_add (mul x zero) hp ∙ ap (mul x) (sym (laws.add_zero zero h0)) ∙ laws.mul_add x zero zero hx h0 h0))

  pub zero_mul : (x : A) → IsElement x → mul zero x ≡ zero
  zero_mul x hx = laws.mul_comm zero x laws.zero_element hx ∙ mul_zero x hx

  pub mul_sub : (x y z : A) → IsElement x → IsElement y → IsElement z → mul x (sub y z) ≡ sub (mul x y) (mul x z)
  mul_sub x y z hx hy hz =
      let hd : IsElement (sub y z) = laws.sub_element y z hy hz in
      sym (sub_is (mul x y) (mul x z) (mul x (sub y z)) (laws.mul_element x y hx hy) (laws.mul_element x z hx hz) (laws.mul_element x (sub y z) hx hd)
      (sym (laws.mul_add x (sub y z) z hx hd hz) ∙ ap (mul x) (laws.sub_add y z hy hz)))

  pub mul-negative : (x y : A) → IsElement x → IsElement y → mul x (sub zero y) ≡ sub zero (mul x y)
  mul-negative x y hx hy = mul_sub x zero y hx laws.zero_element hy ∙ ap (λ (a : A). sub a (mul x y)) (mul_zero x hx)

  -- ---- inverses
  pub inv_mul : (x : A) → IsElement x → x ≢ zero → mul (inv x) x ≡ one
  inv_mul x hx h = laws.mul_comm (inv x) x (laws.inv_element x hx h) hx ∙ laws.mul_inv x hx h

  -- a product by x is undone by one with its inverse
  pub inv_mul_mul : (x y : A) → IsElement x → IsElement y → x ≢ zero → mul (inv x) (mul x y) ≡ y
  inv_mul_mul x y hx hy h =
      sym (laws.mul_assoc (inv x) x y (laws.inv_element x hx h) hx hy) ∙ ap (λ (a : A). mul a y) (inv_mul x hx h) ∙ one_mul y hy

  pub mul_inv_mul : (x y : A) → IsElement x → IsElement y → x ≢ zero → mul x (mul (inv x) y) ≡ y
  mul_inv_mul x y hx hy h =
      sym (laws.mul_assoc x (inv x) y hx (laws.inv_element x hx h) hy) ∙ ap (λ (a : A). mul a y) (laws.mul_inv x hx h) ∙ one_mul y hy

  pub mul_cancel : (x y z : A) → IsElement x → IsElement y → IsElement z → x ≢ zero → mul x y ≡ mul x z → y ≡ z
  mul_cancel x y z hx hy hz h e = sym (inv_mul_mul x y hx hy h) ∙ ap (mul (inv x)) e ∙ inv_mul_mul x z hx hz h

  -- there are no zero divisors
  pub second_zero : (x y : A) → IsElement x → IsElement y → x ≢ zero → mul x y ≡ zero → y ≡ zero
  second_zero x y hx hy h e = mul_cancel x y zero hx hy laws.zero_element h (e ∙ sym (mul_zero x hx))

  pub mul-nonzero : (x y : A) → IsElement x → IsElement y → x ≢ zero → y ≢ zero → mul x y ≢ zero
  mul-nonzero x y hx hy h k e = k (second_zero x y hx hy h e)

  pub inv-nonzero : (x : A) → IsElement x → x ≢ zero → inv x ≢ zero
  inv-nonzero x hx h e = laws.distinct (sym (mul_zero x hx) ∙ ap (mul x) (sym e) ∙ laws.mul_inv x hx h)

  pub inv_is : (x y : A) → IsElement x → IsElement y → x ≢ zero → mul x y ≡ one → inv x ≡ y
  inv_is x y hx hy h e = mul_cancel x (inv x) y hx (laws.inv_element x hx h) hy h (laws.mul_inv x hx h ∙ sym e)

  pub inv-inv : (x : A) → IsElement x → x ≢ zero → inv (inv x) ≡ x
  inv-inv x hx h = inv_is (inv x) x (laws.inv_element x hx h) hx (inv-nonzero x hx h) (inv_mul x hx h)

  pub inv-one : inv one ≡ one
  inv-one = inv_is one one laws.one_element laws.one_element (λ e. laws.distinct (sym e)) (laws.mul_one one laws.one_element)

-- ---- equality of elements is decided by the test

answer : (b : Bool) → (b ≡ true) ⊎ (b ≡ false)
answer true = inl refl
answer false = inr refl

pub same_or_differ : {A : Type 0} {IsElement : A → Type 0} {eq : A → A → Bool} → IsExact IsElement eq → (x y : A) → IsElement x → IsElement y → (x ≡ y) ⊎ (x ≢ y)
same_or_differ {eq = eq} exact x y hx hy =
    elim (answer (eq x y)) [
      | inl e ↦ inl ((exact.exact x y hx hy).0 e)
      | inr e ↦ inr (λ s. (let t : eq x y ≡ true = (exact.exact x y hx hy).1 s in cc))
    ]
