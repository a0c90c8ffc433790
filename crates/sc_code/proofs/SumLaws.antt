-- Laws of sums of values of a module. `laws` are those of the field, `g.met.F.Field.field` under a bound, and `ml` those of
-- the module: `byte_module g.met.F.Field.action` for bytes, `field_module g.met.F.Field.field` for elements.
use Rattle.std.proofs.Common.{◌≡◌, ℕ, zero as naught, suc, ◌+◌, ◌-◌, ◌<◌, ◌≤◌, List, [], ◌∷◌, length, get_or, All, refl, sym, ap, ap₂, ◌∙◌, subst, arith, inl, inr}
use Rattle.std.proofs.lemmas.Bool.{cases_lt}
use Rattle.std.proofs.lemmas.List.{get_or_past}
use Rattle.std.proofs.lemmas.List.Elements.{All-tail}
use Rattle.sc_field.specs.Field.{IsField}
use Rattle.sc_matrix.specs.Module.{IsModule, IsLinear}
use Rattle.sc_matrix.specs.Vector.{dot}
use Rattle.sc_matrix.proofs.ModuleLaws.{none_plus, plus_four}
use Rattle.sc_code.specs.Parity.{sum_below}

-- what holds of each entry and of the default holds of what is read
pub All-or : {X : Type 0} (P : X → Type 0) (xs : List X) (i : ℕ) (d : X) → All P xs → P d → P (get_or xs i d)
All-or P xs i d a h =
    elim (cases_lt i (length xs)) [
      | inl within ↦ a i d within
      | inr past ↦ subst P (sym (get_or_past xs i d past)) h
    ]

module _ {V : Type 0} (none : V) (plus : V → V → V) where
  -- one term more
  pub sum_below_more : (n : ℕ) (f : ℕ → V) → sum_below none plus (n + 1) f ≡ plus (sum_below none plus n f) (f n)
  sum_below_more n f = let e : n + 1 ≡ suc n = omega arith in ap (λ (k : ℕ). sum_below none plus k f) e

  -- sums of equal terms are equal
  pub sum_below-same : (n : ℕ) (f g : ℕ → V) → ((i : ℕ) → i < n → f i ≡ g i) → sum_below none plus n f ≡ sum_below none plus n g
  sum_below-same naught f g e = refl
  sum_below-same (suc n) f g e = ap₂ plus (sum_below-same n f g (λ i h. e i (omega arith))) (e n (omega arith))

module _ {C V : Type 0} {IsElement : C → Type 0} {zero one : C} {add sub mul : C → C → C} {inv : C → C} {IsValue : V → Type 0} {none : V} {plus : V → V → V} {times : C → V → V} (laws : IsField IsElement zero one add sub mul inv) (ml : IsModule IsElement zero one add mul IsValue none plus times) where
  pub value-sum_below : (n : ℕ) (f : ℕ → V) → ((i : ℕ) → IsValue (f i)) → IsValue (sum_below none plus n f)
  value-sum_below naught f h = ml.none_value
  value-sum_below (suc n) f h = ml.plus_value (sum_below none plus n f) (f n) (value-sum_below n f h) (h n)

  -- a sum of zeros
  pub sum_below-zeros : (n : ℕ) (f : ℕ → V) → ((i : ℕ) → i < n → f i ≡ none) → sum_below none plus n f ≡ none
  sum_below-zeros naught f e = refl
  sum_below-zeros (suc n) f e = ap₂ plus (sum_below-zeros n f (λ i h. e i (omega arith))) (e n (omega arith)) ∙ ml.plus_none none ml.none_value

  -- a sum of sums
  pub sum_below-plus : (n : ℕ) (f g : ℕ → V) → ((i : ℕ) → IsValue (f i)) → ((i : ℕ) → IsValue (g i)) → sum_below none plus n (λ i. plus (f i) (g i)) ≡ plus (sum_below none plus n f) (sum_below none plus n g)
  sum_below-plus naught f g hf hg = sym (ml.plus_none none ml.none_value)
  sum_below-plus (suc n) f g hf hg =
      ap (λ (x : V). plus x (plus (f n) (g n))) (sum_below-plus n f g hf hg)
      ∙ plus_four laws ml (sum_below none plus n f) (sum_below none plus n g) (f n) (g n) (value-sum_below n f hf) (value-sum_below n g hg) (hf n) (hg n)

  -- zeros at the end don't count
  pub sum_below-longer : (n more : ℕ) (f : ℕ → V) → ((i : ℕ) → IsValue (f i)) → ((i : ℕ) → n ≤ i → i < n + more → f i ≡ none) → sum_below none plus (n + more) f ≡ sum_below none plus n f
  sum_below-longer n naught f h e = let same : n + 0 ≡ n = omega arith in ap (λ (k : ℕ). sum_below none plus k f) same
  sum_below-longer n (suc more) f h e =
      let same : n + suc more ≡ suc (n + more) = omega arith in
      let last : f (n + more) ≡ none = e (n + more) (omega arith) (omega arith) in
      ap (λ (k : ℕ). sum_below none plus k f) same
      ∙ ap₂ plus (sum_below-longer n more f h (λ i le lt. e i le (omega arith))) last
      ∙ ml.plus_none (sum_below none plus n f) (value-sum_below n f h)

  -- the first term set apart
  sum_below-first : (n : ℕ) (f : ℕ → V) → ((i : ℕ) → IsValue (f i)) → sum_below none plus (suc n) f ≡ plus (f 0) (sum_below none plus n (λ i. f (suc i)))
  sum_below-first naught f h = none_plus laws ml (f 0) (h 0) ∙ sym (ml.plus_none (f 0) (h 0))
  sum_below-first (suc n) f h =
      ap (λ (x : V). plus x (f (suc n))) (sum_below-first n f h)
      ∙ ml.plus_assoc (f 0) (sum_below none plus n (λ i. f (suc i))) (f (suc n)) (h 0) (value-sum_below n (λ i. f (suc i)) (λ i. h (suc i))) (h (suc n))

  -- the same terms from the last to the first
  pub sum_below-reversed : (n : ℕ) (f : ℕ → V) → ((i : ℕ) → IsValue (f i)) → sum_below none plus (suc n) f ≡ sum_below none plus (suc n) (λ i. f (n - i))
  sum_below-reversed naught f h = refl
  sum_below-reversed (suc n) f h =
      let steps : sum_below none plus (suc n) (λ i. f (n - i)) ≡ sum_below none plus (suc n) (λ i. f (suc n - suc i)) =
      sum_below-same none plus (suc n) (λ i. f (n - i)) (λ i. f (suc n - suc i)) (λ i lt. let e : n - i ≡ suc n - suc i = omega arith in ap f e) in
      let first : suc n ≡ suc n - 0 = omega arith in
      ml.plus_comm (sum_below none plus (suc n) f) (f (suc n)) (value-sum_below (suc n) f h) (h (suc n))
      ∙ ap₂ plus (ap f first) (sum_below-reversed n f h ∙ steps)
      ∙ sym (sum_below-first (suc n) (λ i. f (suc n - i)) (λ i. h (suc n - i)))

  -- A dot product as such a sum.
  pub dot-sum_below : (cs : List C) (vs : List V) → length cs ≡ length vs → All IsElement cs → All IsValue vs → dot none plus times cs vs ≡ sum_below none plus (length cs) (λ i. times (get_or cs i zero) (get_or vs i none))
  dot-sum_below [] vs e a b = refl
  dot-sum_below (c ∷ cs) [] e a b = absurd (omega arith)
  dot-sum_below (c ∷ cs) (v ∷ vs) e a b =
      ap (plus (times c v)) (dot-sum_below cs vs (omega arith) (All-tail IsElement c cs a) (All-tail IsValue v vs b))
      ∙ sym (sum_below-first (length cs) (λ i. times (get_or (c ∷ cs) i zero) (get_or (v ∷ vs) i none)) (λ i.
      ml.times_value (get_or (c ∷ cs) i zero) (get_or (v ∷ vs) i none) (All-or IsElement (c ∷ cs) i zero a laws.zero_element) (All-or IsValue (v ∷ vs) i none b ml.none_value)))

  -- what a linear map makes of a sum
  pub linear-sum_below : {W : Type 0} {none' : W} {plus' : W → W → W} {times' : C → W → W} {f : V → W} → IsLinear IsElement IsValue none plus times none' plus' times' f
      → (n : ℕ) (g : ℕ → V) → ((i : ℕ) → IsValue (g i)) → f (sum_below none plus n g) ≡ sum_below none' plus' n (λ i. f (g i))
  linear-sum_below lin naught g h = lin.of_none
  linear-sum_below {plus' = plus'} {f = f} lin (suc n) g h =
      lin.of_plus (sum_below none plus n g) (g n) (value-sum_below n g h) (h n) ∙ ap (λ x. plus' x (f (g n))) (linear-sum_below lin n g h)
