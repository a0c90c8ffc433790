-- Laws of dot products of coefficients and values, of lists whose entries are known one by one.
use Rattle.std.proofs.Common.{◌≡◌, ◌≢◌, ◌⊎◌, ℕ, zero as naught, suc, ◌<◌, List, [], ◌∷◌, ◌++◌, length, get_or, map, replicate, All, inl, inr, refl, sym, ◌∙◌, ap, ap₂, arith}
use Rattle.std.proofs.lemmas.List.Elements.{All-nil, All-cons, All-head, All-tail, All-replicate}
use Rattle.sc_field.specs.Field.{IsField}
use Rattle.sc_matrix.specs.Module.{IsModule}
use Rattle.sc_matrix.specs.Vector.{add_vectors, scale_vector, dot}
use Rattle.sc_matrix.proofs.VectorLaws.{vector_of}
use Rattle.sc_matrix.proofs.ModuleLaws.{none_plus, plus_cancel, times_none, times_cancel, value-dot, dot-add_left, dot-add_right, dot-scale_left, dot-append}

module _ {A V : Type 0} {IsElement : A → Type 0} {zero one : A} {add sub mul : A → A → A} {inv : A → A} {IsValue : V → Type 0} {none : V} {plus : V → V → V} {times : A → V → V} (laws : IsField IsElement zero one add sub mul inv) (ml : IsModule IsElement zero one add mul IsValue none plus times) where
  -- the negative of one
  abbrev pub minus : A
  minus = sub zero one

  pub minus_element : IsElement minus
  minus_element = laws.sub_element zero one laws.zero_element laws.one_element

  pub one-minus : add one minus ≡ zero
  one-minus = laws.add_comm one minus laws.one_element minus_element ∙ laws.sub_add zero one laws.zero_element laws.one_element

  -- the difference of two values
  abbrev pub minus_of : V → V → V
  minus_of v w = plus v (times minus w)

  pub minus_value : (w : V) → IsValue w → IsValue (times minus w)
  minus_value w hw = ml.times_value minus w minus_element hw

  pub minus_of_value : (v w : V) → IsValue v → IsValue w → IsValue (minus_of v w)
  minus_of_value v w hv hw = ml.plus_value v (times minus w) hv (minus_value w hw)

  pub plus_minus : (w : V) → IsValue w → plus w (times minus w) ≡ none
  plus_minus w hw =
      ap (λ (a : V). plus a (times minus w)) (sym (ml.times_one w hw))
      ∙ sym (ml.times_add one minus w laws.one_element minus_element hw)
      ∙ ap (λ (x : A). times x w) one-minus ∙ ml.times_zero w hw

  pub minus_plus : (w : V) → IsValue w → plus (times minus w) w ≡ none
  minus_plus w hw = ml.plus_comm (times minus w) w (minus_value w hw) hw ∙ plus_minus w hw

  -- adding a difference to what was taken away gives back the first
  pub minus_of_plus : (v w : V) → IsValue v → IsValue w → plus (minus_of v w) w ≡ v
  minus_of_plus v w hv hw =
      ml.plus_assoc v (times minus w) w hv (minus_value w hw) hw ∙ ap (plus v) (minus_plus w hw) ∙ ml.plus_none v hv

  pub plus_minus_of : (v w : V) → IsValue v → IsValue w → plus w (minus_of v w) ≡ v
  plus_minus_of v w hv hw = ml.plus_comm w (minus_of v w) hw (minus_of_value v w hv hw) ∙ minus_of_plus v w hv hw

  pub same_from_minus : (v w : V) → IsValue v → IsValue w → minus_of v w ≡ none → v ≡ w
  same_from_minus v w hv hw e = sym (minus_of_plus v w hv hw) ∙ ap (λ (a : V). plus a w) e ∙ none_plus laws ml w hw

  pub none_from_same : (u v : V) → IsValue u → IsValue v → plus u v ≡ u → v ≡ none
  none_from_same u v hu hv e = plus_cancel laws ml u v none hu hv ml.none_value (e ∙ sym (ml.plus_none u hu))

  pub times_inv : (x : A) (v : V) → IsElement x → IsValue v → x ≢ zero → times x (times (inv x) v) ≡ v
  times_inv x v hx hv h =
      sym (ml.times_mul x (inv x) v hx (laws.inv_element x hx h) hv) ∙ ap (λ (y : A). times y v) (laws.mul_inv x hx h) ∙ ml.times_one v hv

  -- ---- lists of values
  pub values-plus : (vs ws : List V) → All IsValue vs → All IsValue ws → All IsValue (add_vectors plus vs ws)
  values-plus [] ws a b = All-nil IsValue
  values-plus (v ∷ vs) [] a b = All-nil IsValue
  values-plus (v ∷ vs) (w ∷ ws) a b =
      All-cons IsValue _ _ (ml.plus_value v w (All-head IsValue v vs a) (All-head IsValue w ws b))
      (values-plus vs ws (All-tail IsValue v vs a) (All-tail IsValue w ws b))

  pub values-times : (x : A) (vs : List V) → IsElement x → All IsValue vs → All IsValue (map (times x) vs)
  values-times x [] hx a = All-nil IsValue
  values-times x (v ∷ vs) hx a = All-cons IsValue _ _ (ml.times_value x v hx (All-head IsValue v vs a)) (values-times x vs hx (All-tail IsValue v vs a))

  pub values_none : (n : ℕ) → All IsValue (replicate n none)
  values_none n = All-replicate IsValue n none ml.none_value

  -- ---- combinations
  pub dot_value : (cs : List A) (vs : List V) → All IsElement cs → All IsValue vs → IsValue (dot none plus times cs vs)
  dot_value cs vs a b = value-dot laws ml cs vs (vector_of cs a) (vector_of vs b)

  -- a dot product is linear in its values
  pub dot-plus : (cs : List A) (vs ws : List V) → All IsElement cs → All IsValue vs → All IsValue ws → length vs ≡ length ws
      → dot none plus times cs (add_vectors plus vs ws) ≡ plus (dot none plus times cs vs) (dot none plus times cs ws)
  dot-plus cs vs ws a b c e = dot-add_right laws ml cs vs ws (vector_of cs a) (vector_of vs b) (record { width = sym e; entries = c })

  -- and in its coefficients
  pub dot-add : (cs ds : List A) (vs : List V) → All IsElement cs → All IsElement ds → All IsValue vs → length cs ≡ length ds
      → dot none plus times (add_vectors add cs ds) vs ≡ plus (dot none plus times cs vs) (dot none plus times ds vs)
  dot-add cs ds vs a b c e = dot-add_left laws ml cs ds vs (vector_of cs a) (record { width = sym e; entries = b }) (vector_of vs c)

  pub dot-scale : (x : A) (cs : List A) (vs : List V) → IsElement x → All IsElement cs → All IsValue vs
      → dot none plus times (scale_vector mul x cs) vs ≡ times x (dot none plus times cs vs)
  dot-scale x cs vs hx a b = dot-scale_left laws ml x cs vs hx (vector_of cs a) (vector_of vs b)

  -- where at each column the coefficient or the value is zero, so is the combination
  pub dot_none : (cs : List A) (vs : List V) → All IsElement cs → All IsValue vs
      → ((i : ℕ) → i < length cs → i < length vs → (get_or cs i zero ≡ zero) ⊎ (get_or vs i none ≡ none)) → dot none plus times cs vs ≡ none
  dot_none [] vs a b h = refl
  dot_none (c ∷ cs) [] a b h = refl
  dot_none (c ∷ cs) (v ∷ vs) a b h =
      let hc = All-head IsElement c cs a in
      let hv = All-head IsValue v vs b in
      let first : times c v ≡ none = elim (h 0 (omega arith) (omega arith)) [
        | inl e ↦ ap (λ (x : A). times x v) e ∙ ml.times_zero v hv
        | inr e ↦ ap (times c) e ∙ times_none laws ml c hc
      ] in
      ap₂ plus first (dot_none cs vs (All-tail IsElement c cs a) (All-tail IsValue v vs b) (λ i l k. h (suc i) (omega arith) (omega arith)))
      ∙ ml.plus_none none ml.none_value

  -- where that holds at each column but p, the combination is the product at p
  pub dot_one : (cs : List A) (vs : List V) (p : ℕ) → All IsElement cs → All IsValue vs → p < length cs → p < length vs
      → ((i : ℕ) → i < length cs → i < length vs → i ≢ p → (get_or cs i zero ≡ zero) ⊎ (get_or vs i none ≡ none))
      → dot none plus times cs vs ≡ times (get_or cs p zero) (get_or vs p none)
  dot_one [] vs p a b l k h = absurd (omega arith)
  dot_one (c ∷ cs) [] p a b l k h = absurd (omega arith)
  dot_one (c ∷ cs) (v ∷ vs) naught a b l k h =
      ap (plus (times c v)) (dot_none cs vs (All-tail IsElement c cs a) (All-tail IsValue v vs b) (λ i l' k'. h (suc i) (omega arith) (omega arith) (λ e. absurd (omega arith))))
      ∙ ml.plus_none (times c v) (ml.times_value c v (All-head IsElement c cs a) (All-head IsValue v vs b))
  dot_one (c ∷ cs) (v ∷ vs) (suc p) a b l k h =
      let hc = All-head IsElement c cs a in
      let hv = All-head IsValue v vs b in
      let tc = All-tail IsElement c cs a in
      let tv = All-tail IsValue v vs b in
      let first : times c v ≡ none = elim (h 0 (omega arith) (omega arith) (λ e. absurd (omega arith))) [
        | inl e ↦ ap (λ (x : A). times x v) e ∙ ml.times_zero v hv
        | inr e ↦ ap (times c) e ∙ times_none laws ml c hc
      ] in
      let rest : dot none plus times cs vs ≡ times (get_or cs p zero) (get_or vs p none) =
      dot_one cs vs p tc tv (omega arith) (omega arith) (λ i l' k' ne. h (suc i) (omega arith) (omega arith) (λ e. ne (omega arith))) in
      ap (λ (f : V). plus f (dot none plus times cs vs)) first ∙ none_plus laws ml (dot none plus times cs vs) (dot_value cs vs tc tv) ∙ rest

  -- lists put together
  pub dot-join : (cs ds : List A) (vs ws : List V) → length cs ≡ length vs → All IsElement cs → All IsElement ds → All IsValue vs → All IsValue ws
      → dot none plus times (cs ++ ds) (vs ++ ws) ≡ plus (dot none plus times cs vs) (dot none plus times ds ws)
  dot-join cs ds vs ws e a b c d = dot-append laws ml cs ds vs ws e (vector_of cs a) (vector_of ds b) (vector_of vs c) (vector_of ws d)

  -- ---- two lists of values under one row of coefficients
  -- where they agree wherever the coefficient isn't zero, they have one combination
  pub dot_same : (cs : List A) (vs ws : List V) → All IsElement cs → All IsValue vs → All IsValue ws → length vs ≡ length ws
      → ((i : ℕ) → i < length cs → i < length vs → (get_or cs i zero ≡ zero) ⊎ (get_or vs i none ≡ get_or ws i none)) → dot none plus times cs vs ≡ dot none plus times cs ws
  dot_same [] vs ws a b c e h = refl
  dot_same (x ∷ cs) [] [] a b c e h = refl
  dot_same (x ∷ cs) [] (w ∷ ws) a b c e h = absurd (omega arith)
  dot_same (x ∷ cs) (v ∷ vs) [] a b c e h = absurd (omega arith)
  dot_same (x ∷ cs) (v ∷ vs) (w ∷ ws) a b c e h =
      ap₂ plus
      (elim (h 0 (omega arith) (omega arith)) [
        | inl z ↦ ap (λ (y : A). times y v) z ∙ ml.times_zero v (All-head IsValue v vs b) ∙ sym (ap (λ (y : A). times y w) z ∙ ml.times_zero w (All-head IsValue w ws c))
        | inr s ↦ ap (times x) s
      ])
      (dot_same cs vs ws (All-tail IsElement x cs a) (All-tail IsValue v vs b) (All-tail IsValue w ws c) (omega arith) (λ i l k. h (suc i) (omega arith) (omega arith)))

  -- where they agree so at each column but p, and have one combination, they agree at p
  pub same_at : (cs : List A) (vs ws : List V) (p : ℕ) → All IsElement cs → All IsValue vs → All IsValue ws → length vs ≡ length ws → p < length cs → p < length vs
      → ((i : ℕ) → i < length cs → i < length vs → i ≢ p → (get_or cs i zero ≡ zero) ⊎ (get_or vs i none ≡ get_or ws i none))
      → get_or cs p zero ≢ zero → dot none plus times cs vs ≡ dot none plus times cs ws → get_or vs p none ≡ get_or ws p none
  same_at [] vs ws p a b c e l k h ne q = absurd (omega arith)
  same_at (x ∷ cs) [] ws p a b c e l k h ne q = absurd (omega arith)
  same_at (x ∷ cs) (v ∷ vs) [] p a b c e l k h ne q = absurd (omega arith)
  same_at (x ∷ cs) (v ∷ vs) (w ∷ ws) naught a b c e l k h ne q =
      let hx = All-head IsElement x cs a in
      let tx = All-tail IsElement x cs a in
      let hv = All-head IsValue v vs b in
      let tv = All-tail IsValue v vs b in
      let hw = All-head IsValue w ws c in
      let tw = All-tail IsValue w ws c in
      let rest : dot none plus times cs vs ≡ dot none plus times cs ws =
      dot_same cs vs ws tx tv tw (omega arith) (λ i l' k'. h (suc i) (omega arith) (omega arith) (λ z. absurd (omega arith))) in
      let xv = ml.times_value x v hx hv in
      let xw = ml.times_value x w hx hw in
      let cv = dot_value cs vs tx tv in
      times_cancel laws ml x v w hx hv hw ne
      (plus_cancel laws ml (dot none plus times cs vs) (times x v) (times x w) cv xv xw
      (ml.plus_comm (dot none plus times cs vs) (times x v) cv xv ∙ q ∙ ap (plus (times x w)) (sym rest) ∙ ml.plus_comm (times x w) (dot none plus times cs vs) xw cv))
  same_at (x ∷ cs) (v ∷ vs) (w ∷ ws) (suc p) a b c e l k h ne q =
      let hx = All-head IsElement x cs a in
      let tx = All-tail IsElement x cs a in
      let hv = All-head IsValue v vs b in
      let tv = All-tail IsValue v vs b in
      let hw = All-head IsValue w ws c in
      let tw = All-tail IsValue w ws c in
      let first : times x v ≡ times x w = elim (h 0 (omega arith) (omega arith) (λ z. absurd (omega arith))) [
        | inl z ↦ ap (λ (y : A). times y v) z ∙ ml.times_zero v hv ∙ sym (ap (λ (y : A). times y w) z ∙ ml.times_zero w hw)
        | inr s ↦ ap (times x) s
      ] in
      same_at cs vs ws p tx tv tw (omega arith) (omega arith) (omega arith) (λ i l' k' n. h (suc i) (omega arith) (omega arith) (λ z. n (omega arith))) ne
      (plus_cancel laws ml (times x v) (dot none plus times cs vs) (dot none plus times cs ws) (ml.times_value x v hx hv) (dot_value cs vs tx tv) (dot_value cs ws tx tw)
      (q ∙ ap (λ (f : V). plus f (dot none plus times cs ws)) (sym first)))
