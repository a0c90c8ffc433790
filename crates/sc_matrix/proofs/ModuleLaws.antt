-- Laws of a module over a field, and of dot products of scalars and values of the module. A linear combination is such a
-- dot product in the module of vectors (`vector_module` of Modules). The laws of the field come first: under a bound
-- `F: Field` they are `g.met.F.Field.field`.
use Rattle.std.proofs.Common.{◌≡◌, ◌≢◌, ℕ, zero as naught, suc, ◌+◌, ◌<◌, Bool, true, false, List, [], ◌∷◌, ◌++◌, length, get_or, map, take, drop, All, replicate, refl, sym, ◌∙◌, ap, ap₂, arith}
use Rattle.std.proofs.lemmas.List.{take_more}
use Rattle.std.proofs.lemmas.List.Elements.{All-cons, All-drop, All-nil}
use Rattle.sc_field.specs.Field.{IsField}
use Rattle.sc_field.specs.FieldLemmas.{mul_zero, inv_mul}
use Rattle.sc_matrix.specs.Module.{IsModule, IsLinear}
use Rattle.sc_matrix.specs.Vector.{IsVector, add_vectors, scale_vector, dot, unit_vector, picked, spread}
use Rattle.sc_matrix.proofs.VectorLaws.{dot_nil_right, vector_of, head, tail, entry_at, IsVector-replicate, IsVector-take}

module _ {C A : Type 0} {IsElement : C → Type 0} {zero one : C} {add sub mul : C → C → C} {inv : C → C} {IsValue : A → Type 0} {none : A} {plus : A → A → A} {times : C → A → A} (laws : IsField IsElement zero one add sub mul inv) (ml : IsModule IsElement zero one add mul IsValue none plus times) where
  -- ---- sums and products of values
  pub none_plus : (v : A) → IsValue v → plus none v ≡ v
  none_plus v hv = ml.plus_comm none v ml.none_value hv ∙ ml.plus_none v hv

  pub plus_four : (a b c d : A) → IsValue a → IsValue b → IsValue c → IsValue d → plus (plus a b) (plus c d) ≡ plus (plus a c) (plus b d)
  plus_four a b c d ha hb hc hd =
      rw (
        ml.plus_assoc a b _ ha hb (ml.plus_value c d hc hd),
        ← (ml.plus_assoc b c d hb hc hd),
        ml.plus_comm b c hb hc,
        ml.plus_assoc c b d hc hb hd,
        ml.plus_assoc a c _ ha hc (ml.plus_value b d hb hd),
      ) refl

  pub times_none : (x : C) → IsElement x → times x none ≡ none
  times_none x hx =
      rw (← (ml.times_zero none ml.none_value), ← (ml.times_mul x zero none hx laws.zero_element ml.none_value), mul_zero laws x hx) refl

  pub inv_times : (x : C) (v : A) → IsElement x → IsValue v → x ≢ zero → times (inv x) (times x v) ≡ v
  inv_times x v hx hv h =
      sym (ml.times_mul (inv x) x v (laws.inv_element x hx h) hx hv) ∙ ap (λ (y : C). times y v) (inv_mul laws x hx h) ∙ ml.times_one v hv

  pub times_cancel : (x : C) (u v : A) → IsElement x → IsValue u → IsValue v → x ≢ zero → times x u ≡ times x v → u ≡ v
  times_cancel x u v hx hu hv h e = sym (inv_times x u hx hu h) ∙ ap (times (inv x)) e ∙ inv_times x v hx hv h

  -- what a multiple of w adds, its negative takes back
  pub plus_times_back : (x : C) (u w : A) → IsElement x → IsValue u → IsValue w → plus (plus u (times x w)) (times (sub zero x) w) ≡ u
  plus_times_back x u w hx hu hw =
      let hn = laws.sub_element zero x laws.zero_element hx in
      rw (
        ml.plus_assoc u _ _ hu (ml.times_value x w hx hw) (ml.times_value _ w hn hw),
        ← (ml.times_add x (sub zero x) w hx hn hw),
        laws.add_comm x _ hx hn,
        laws.sub_add zero x laws.zero_element hx,
        ml.times_zero w hw,
      ) (ml.plus_none u hu)

  pub plus_cancel : (u v w : A) → IsValue u → IsValue v → IsValue w → plus u v ≡ plus u w → v ≡ w
  plus_cancel u v w hu hv hw e =
      let minus : A → A = λ (a : A). plus a (times (sub zero one) u) in
      let back : (a : A) → IsValue a → minus (plus u a) ≡ a =
      λ a ha. ap minus (ml.plus_comm u a hu ha ∙ ap (plus a) (sym (ml.times_one u hu))) ∙ plus_times_back one a u laws.one_element ha hu in
      sym (back v hv) ∙ ap minus e ∙ back w hw

  pub times_comm : (x y : C) (v : A) → IsElement x → IsElement y → IsValue v → times x (times y v) ≡ times y (times x v)
  times_comm x y v hx hy hv =
      sym (ml.times_mul x y v hx hy hv) ∙ ap (λ (z : C). times z v) (laws.mul_comm x y hx hy) ∙ ml.times_mul y x v hy hx hv

  -- ---- dot products
  pub value-dot : (cs : List C) (vs : List A) {p q : ℕ} → IsVector IsElement p cs → IsVector IsValue q vs → IsValue (dot none plus times cs vs)
  value-dot (c ∷ cs) (v ∷ vs) hc hv = ml.plus_value _ _ (ml.times_value c v (head hc) (head hv)) (value-dot cs vs (tail hc) (tail hv))
  value-dot cs vs hc hv = ml.none_value

  -- what a linear map makes of a dot product
  pub linear-dot : {B : Type 0} {none' : B} {plus' : B → B → B} {times' : C → B → B} {f : A → B} → IsLinear IsElement IsValue none plus times none' plus' times' f
      → (cs : List C) (vs : List A) {p q : ℕ} → IsVector IsElement p cs → IsVector IsValue q vs → f (dot none plus times cs vs) ≡ dot none' plus' times' cs (map f vs)
  linear-dot {plus' = plus'} lin (c ∷ cs) (v ∷ vs) hc hv =
      lin.of_plus _ _ (ml.times_value c v (head hc) (head hv)) (value-dot cs vs (tail hc) (tail hv))
      ∙ ap₂ plus' (lin.of_times c v (head hc) (head hv)) (linear-dot lin cs vs (tail hc) (tail hv))
  linear-dot lin cs vs hc hv = lin.of_none

  pub dot_zero_left : (n : ℕ) (vs : List A) {q : ℕ} → IsVector IsValue q vs → dot none plus times (replicate n zero) vs ≡ none
  dot_zero_left (suc n) (v ∷ vs) hv = ap₂ plus (ml.times_zero v (head hv)) (dot_zero_left n vs (tail hv)) ∙ ml.plus_none none ml.none_value
  dot_zero_left n vs hv = refl

  pub dot_zero_right : (n : ℕ) (cs : List C) {p : ℕ} → IsVector IsElement p cs → dot none plus times cs (replicate n none) ≡ none
  dot_zero_right naught cs hc = dot_nil_right none plus times cs
  dot_zero_right (suc n) [] hc = refl
  dot_zero_right (suc n) (c ∷ cs) hc = ap₂ plus (times_none c (head hc)) (dot_zero_right n cs (tail hc)) ∙ ml.plus_none none ml.none_value

  -- zeros at the back of the scalars, and in front of them
  pub dot-zeros_back : (n : ℕ) (cs : List C) (vs : List A) {p q : ℕ} → IsVector IsElement p cs → IsVector IsValue q vs
      → dot none plus times (cs ++ replicate n zero) vs ≡ dot none plus times cs vs
  dot-zeros_back n [] vs hc hv = dot_zero_left n vs hv
  dot-zeros_back n (c ∷ cs) [] hc hv = refl
  dot-zeros_back n (c ∷ cs) (v ∷ vs) hc hv = ap (plus (times c v)) (dot-zeros_back n cs vs (tail hc) (tail hv))

  pub dot-zeros_front : (n : ℕ) (cs : List C) (vs : List A) {p q : ℕ} → IsVector IsElement p cs → IsVector IsValue q vs
      → dot none plus times (replicate n zero ++ cs) vs ≡ dot none plus times cs (drop n vs)
  dot-zeros_front naught cs vs hc hv = refl
  dot-zeros_front (suc n) cs [] hc hv = sym (dot_nil_right none plus times cs)
  dot-zeros_front (suc n) cs (v ∷ vs) hc hv =
      ap₂ plus (ml.times_zero v (head hv)) (dot-zeros_front n cs vs hc (tail hv))
      ∙ none_plus _ (value-dot cs (drop n vs) hc (vector_of (drop n vs) (All-drop IsValue n vs (tail hv).entries)))

  -- the scalars at the places whose flags are set
  spread_values : (flags : List Bool) (vs : List A) {q : ℕ} → IsVector IsValue q vs → All IsValue (spread none flags vs)
  spread_values [] vs hv = All-nil IsValue
  spread_values (true ∷ flags) [] hv = All-cons IsValue none _ ml.none_value (spread_values flags [] hv)
  spread_values (true ∷ flags) (v ∷ vs) hv = All-cons IsValue v _ (head hv) (spread_values flags vs (tail hv))
  spread_values (false ∷ flags) vs hv = All-cons IsValue none _ ml.none_value (spread_values flags vs hv)

  pub dot-picked : (flags : List Bool) (cs : List C) (vs : List A) {p q : ℕ} → IsVector IsElement p cs → IsVector IsValue q vs
      → dot none plus times (picked flags cs) vs ≡ dot none plus times cs (spread none flags vs)
  dot-picked flags [] vs hc hv = refl
  dot-picked [] (c ∷ cs) vs hc hv = refl
  dot-picked (true ∷ flags) (c ∷ cs) [] hc hv =
      sym
      (ap₂ plus (times_none c (head hc)) (sym (dot-picked flags cs [] (tail hc) hv) ∙ dot_nil_right none plus times (picked flags cs))
      ∙ ml.plus_none none ml.none_value)
  dot-picked (true ∷ flags) (c ∷ cs) (v ∷ vs) hc hv = ap (plus (times c v)) (dot-picked flags cs vs (tail hc) (tail hv))
  dot-picked (false ∷ flags) (c ∷ cs) vs hc hv =
      let others = spread none flags vs in
      dot-picked flags cs vs (tail hc) hv
      ∙ sym
      (ap (λ (a : A). plus a (dot none plus times cs others)) (times_none c (head hc))
      ∙ none_plus _ (value-dot cs others (tail hc) (vector_of others (spread_values flags vs hv))))

  pub dot-add_left : (cs ds : List C) (vs : List A) {p q : ℕ} → IsVector IsElement p cs → IsVector IsElement p ds → IsVector IsValue q vs
      → dot none plus times (add_vectors add cs ds) vs ≡ plus (dot none plus times cs vs) (dot none plus times ds vs)
  dot-add_left [] [] vs hc hd hv = sym (ml.plus_none none ml.none_value)
  dot-add_left (c ∷ cs) (d ∷ ds) [] hc hd hv = sym (ml.plus_none none ml.none_value)
  dot-add_left (c ∷ cs) (d ∷ ds) (v ∷ vs) hc hd hv =
      ap₂ plus (ml.times_add c d v (head hc) (head hd) (head hv)) (dot-add_left cs ds vs (tail hc) (tail hd) (tail hv))
      ∙ plus_four (times c v) (times d v) (dot none plus times cs vs) (dot none plus times ds vs) (ml.times_value c v (head hc) (head hv)) (ml.times_value d v (head hd) (head hv))
      (value-dot cs vs (tail hc) (tail hv)) (value-dot ds vs (tail hd) (tail hv))
  dot-add_left cs ds vs hc hd hv = absurd (omega (arith, hc.width, hd.width))

  pub dot-scale_left : (k : C) (cs : List C) (vs : List A) {p q : ℕ} → IsElement k → IsVector IsElement p cs → IsVector IsValue q vs
      → dot none plus times (scale_vector mul k cs) vs ≡ times k (dot none plus times cs vs)
  dot-scale_left k (c ∷ cs) (v ∷ vs) hk hc hv =
      ap₂ plus (ml.times_mul k c v hk (head hc) (head hv)) (dot-scale_left k cs vs hk (tail hc) (tail hv))
      ∙ sym (ml.times_plus k (times c v) (dot none plus times cs vs) hk (ml.times_value c v (head hc) (head hv)) (value-dot cs vs (tail hc) (tail hv)))
  dot-scale_left k cs vs hk hc hv = sym (times_none k hk)

  pub dot-add_right : (cs : List C) (vs ws : List A) {p q : ℕ} → IsVector IsElement p cs → IsVector IsValue q vs → IsVector IsValue q ws
      → dot none plus times cs (add_vectors plus vs ws) ≡ plus (dot none plus times cs vs) (dot none plus times cs ws)
  dot-add_right [] vs ws hc hv hw = sym (ml.plus_none none ml.none_value)
  dot-add_right (c ∷ cs) [] [] hc hv hw = sym (ml.plus_none none ml.none_value)
  dot-add_right (c ∷ cs) (v ∷ vs) (w ∷ ws) hc hv hw =
      ap₂ plus (ml.times_plus c v w (head hc) (head hv) (head hw)) (dot-add_right cs vs ws (tail hc) (tail hv) (tail hw))
      ∙ plus_four (times c v) (times c w) (dot none plus times cs vs) (dot none plus times cs ws) (ml.times_value c v (head hc) (head hv)) (ml.times_value c w (head hc) (head hw))
      (value-dot cs vs (tail hc) (tail hv)) (value-dot cs ws (tail hc) (tail hw))
  dot-add_right cs vs ws hc hv hw = absurd (omega (arith, hv.width, hw.width))

  -- a product with a scalar is linear
  times_linear : (k : C) → IsElement k → IsLinear IsElement IsValue none plus times none plus times (times k)
  times_linear k hk = record {
    of_none = times_none k hk;
    of_plus = λ u v hu hv. ml.times_plus k u v hk hu hv;
    of_times = λ x v hx hv. times_comm k x v hk hx hv;
  }

  pub dot-scale_right : {p q : ℕ} (k : C) (cs : List C) (vs : List A) → IsElement k → IsVector IsElement p cs → IsVector IsValue q vs
      → dot none plus times cs (scale_vector times k vs) ≡ times k (dot none plus times cs vs)
  dot-scale_right k cs vs hk hc hv = sym (linear-dot (times_linear k hk) cs vs hc hv)

  -- of vectors side by side
  pub dot-append : (cs ds : List C) (vs ws : List A) {p q r s : ℕ} → length cs ≡ length vs → IsVector IsElement p cs → IsVector IsElement q ds → IsVector IsValue r vs → IsVector IsValue s ws
      → dot none plus times (cs ++ ds) (vs ++ ws) ≡ plus (dot none plus times cs vs) (dot none plus times ds ws)
  dot-append [] ds [] ws e hc hd hv hw = sym (none_plus _ (value-dot ds ws hd hw))
  dot-append (c ∷ cs) ds (v ∷ vs) ws e hc hd hv hw =
      ap (plus (times c v)) (dot-append cs ds vs ws (omega arith) (tail hc) hd (tail hv) hw)
      ∙ sym (ml.plus_assoc (times c v) (dot none plus times cs vs) (dot none plus times ds ws) (ml.times_value c v (head hc) (head hv)) (value-dot cs vs (tail hc) (tail hv)) (value-dot ds ws hd hw))
  dot-append cs ds vs ws e hc hd hv hw = absurd (omega arith)

  -- the first n + 1 terms
  pub dot_more : {p q : ℕ} (cs : List C) (vs : List A) (n : ℕ) → IsVector IsElement p cs → IsVector IsValue q vs → n < p → n < q
      → dot none plus times (take (n + 1) cs) (take (n + 1) vs) ≡ plus (dot none plus times (take n cs) (take n vs)) (times (get_or cs n zero) (get_or vs n none))
  dot_more {p = p} {q = q} cs vs n hc hv lc lv =
      let pc : IsVector IsElement n (take n cs) = IsVector-take n cs hc (omega arith) in
      let pv : IsVector IsValue n (take n vs) = IsVector-take n vs hv (omega arith) in
      let c = entry_at n zero hc lc in
      let v = entry_at n none hv lv in
      ap₂ (dot none plus times) (take_more cs n zero (omega (arith, hc.width))) (take_more vs n none (omega (arith, hv.width)))
      ∙ dot-append (take n cs) (get_or cs n zero ∷ []) (take n vs) (get_or vs n none ∷ []) (pc.width ∙ sym pv.width) pc (IsVector-replicate 1 _ c) pv (IsVector-replicate 1 _ v)
      ∙ ap (plus (dot none plus times (take n cs) (take n vs))) (ml.plus_none _ (ml.times_value _ _ c v))

  -- with a unit vector it is the value at its place
  pub dot_unit : (n i : ℕ) (vs : List A) → IsVector IsValue n vs → i < n → dot none plus times (unit_vector zero one n i) vs ≡ get_or vs i none
  dot_unit (suc n) naught (v ∷ vs) hv h = ap₂ plus (ml.times_one v (head hv)) (dot_zero_left n vs (tail hv)) ∙ ml.plus_none v (head hv)
  dot_unit (suc n) (suc i) (v ∷ vs) hv h =
      let t : IsVector IsValue n vs = record { width = omega (arith, hv.width); entries = (tail hv).entries } in
      ap₂ plus (ml.times_zero v (head hv)) (dot_unit n i vs t (omega arith)) ∙ none_plus (get_or vs i none) (entry_at i none t (omega arith))
  dot_unit n i vs hv h = absurd (omega (arith, hv.width))

-- the dot product with a vector of elements on the right
module _ {A : Type 0} {IsElement : A → Type 0} {zero one : A} {add sub mul : A → A → A} {inv : A → A} (laws : IsField IsElement zero one add sub mul inv) where
  pub dot_comm : (xs ys : List A) {p q : ℕ} → IsVector IsElement p xs → IsVector IsElement q ys → dot zero add mul xs ys ≡ dot zero add mul ys xs
  dot_comm (x ∷ xs) (y ∷ ys) a b = ap₂ add (laws.mul_comm x y (head a) (head b)) (dot_comm xs ys (tail a) (tail b))
  dot_comm [] ys a b = sym (dot_nil_right zero add mul ys)
  dot_comm (x ∷ xs) [] a b = refl
