-- Laws of the parity symbols of a stream whose symbols are values of a module, as functions from a slot and a symbol.
use Rattle.std.proofs.Common.{◌≡◌, ℕ, suc, ◌+◌, ◌-◌, ◌<◌, ◌≤◌, leb, List, [], length, get_or, All, sym, ap, ◌∙◌, arith, inl, inr}
use Rattle.std.proofs.lemmas.Bool.{cases_lt, cond-true, cond-false, cond_both, le-leb, lt-leb}
use Rattle.std.proofs.lemmas.List.{get_or_past}
use Rattle.std.proofs.lemmas.List.Elements.{All-nil}
use Rattle.sc_field.specs.Field.{IsField}
use Rattle.sc_matrix.specs.Matrix.{Matrix, entry}
use Rattle.sc_matrix.specs.Module.{IsModule, IsLinear}
use Rattle.sc_matrix.proofs.ModuleLaws.{times_none}
use Rattle.sc_code.specs.Code.{Code, IsCode, lag_matrix, coefficient}
use Rattle.sc_code.specs.Parity.{sum_below, earlier, parity_symbol}
use Rattle.sc_code.proofs.SumLaws.{All-or, sum_below-same, value-sum_below, sum_below-zeros, sum_below-plus, sum_below-longer, sum_below-reversed, linear-sum_below}

-- each symbol is a value
pub record AreValues {V : Type 0} (IsValue : V → Type 0) (f : ℕ → ℕ → V) : Type 0 where
  pub value : (t i : ℕ) → IsValue (f t i)

-- the sum of two streams
abbrev pub plus_symbols : {V : Type 0} → (V → V → V) → (ℕ → ℕ → V) → (ℕ → ℕ → V) → ℕ → ℕ → V
plus_symbols plus f g t i = plus (f t i) (g t i)

-- a stream from slot s on
abbrev pub symbols_from : {V : Type 0} → ℕ → (ℕ → ℕ → V) → ℕ → ℕ → V
symbols_from s f t i = f (s + t) i

pub AreValues-from : {V : Type 0} {IsValue : V → Type 0} (s : ℕ) (f : ℕ → ℕ → V) → AreValues IsValue f → AreValues IsValue (symbols_from s f)
AreValues-from s f hf = record { value = λ t i. hf.value (s + t) i }

-- ---- the block some slots before
module _ {V : Type 0} (none : V) where
  pub earlier-within : (f : ℕ → ℕ → V) (t lag i : ℕ) → lag ≤ t → earlier none f t lag i ≡ f (t - lag) i
  earlier-within f t lag i le = cond-true (leb lag t) (f (t - lag) i) none (le-leb lag t le)

  pub earlier-before : (f : ℕ → ℕ → V) (t lag i : ℕ) → t < lag → earlier none f t lag i ≡ none
  earlier-before f t lag i lt = cond-false (leb lag t) (f (t - lag) i) none (lt-leb lag t lt)

  pub earlier-same : (f g : ℕ → ℕ → V) (t lag i : ℕ) → ((u : ℕ) → u ≤ t → f u i ≡ g u i) → earlier none f t lag i ≡ earlier none g t lag i
  earlier-same f g t lag i e =
      elim (cases_lt t lag) [
        | inl before ↦ earlier-before f t lag i before ∙ sym (earlier-before g t lag i before)
        | inr within ↦ earlier-within f t lag i within ∙ e (t - lag) (omega arith) ∙ sym (earlier-within g t lag i within)
      ]

  earlier-zeros : (f : ℕ → ℕ → V) (t lag i : ℕ) → ((u : ℕ) → u ≤ t → f u i ≡ none) → earlier none f t lag i ≡ none
  earlier-zeros f t lag i e =
      elim (cases_lt t lag) [
        | inl before ↦ earlier-before f t lag i before
        | inr within ↦ earlier-within f t lag i within ∙ e (t - lag) (omega arith)
      ]

  -- where a stream is zero before slot s, nothing is lost if it begins there
  earlier-from : (s : ℕ) (f : ℕ → ℕ → V) (t lag i : ℕ) → ((u : ℕ) → u < s → f u i ≡ none) → earlier none (symbols_from s f) t lag i ≡ earlier none f (s + t) lag i
  earlier-from s f t lag i e =
      elim (cases_lt t lag) [
        | inl before ↦
            earlier-before (symbols_from s f) t lag i before
            ∙ elim (cases_lt (s + t) lag) [
              | inl far ↦ sym (earlier-before f (s + t) lag i far)
              | inr near ↦ sym (earlier-within f (s + t) lag i near ∙ e (s + t - lag) (omega arith))
            ]
        | inr within ↦
            let place : s + (t - lag) ≡ s + t - lag = omega arith in
            earlier-within (symbols_from s f) t lag i within ∙ ap (λ (u : ℕ). f u i) place ∙ sym (earlier-within f (s + t) lag i (omega arith))
      ]

  -- what a map that keeps zero makes of it
  pub map-earlier : {W : Type 0} (none' : W) (h : V → W) (f : ℕ → ℕ → V) (t lag i : ℕ) → h none ≡ none' → h (earlier none f t lag i) ≡ earlier none' (λ t i. h (f t i)) t lag i
  map-earlier none' h f t lag i e =
      elim (cases_lt t lag) [
        | inl before ↦ ap h (earlier-before f t lag i before) ∙ e ∙ sym (cond-false (leb lag t) (h (f (t - lag) i)) none' (lt-leb lag t before))
        | inr within ↦ ap h (earlier-within f t lag i within) ∙ sym (cond-true (leb lag t) (h (f (t - lag) i)) none' (le-leb lag t within))
      ]

-- ---- parities, whatever the coefficients
module _ {A V : Type 0} (zero : A) (none : V) (plus : V → V → V) (times : A → V → V) where
  -- The parity of a slot depends on the blocks at its lags alone.
  pub parity_symbol-recent : (code : Code A) (f g : ℕ → ℕ → V) (t u j : ℕ) → ((lag i : ℕ) → lag < length code.lags → i < code.k → earlier none f t lag i ≡ earlier none g u lag i)
      → parity_symbol zero none plus times code f t j ≡ parity_symbol zero none plus times code g u j
  parity_symbol-recent code f g t u j e =
      sum_below-same none plus (length code.lags) _ _ (λ lag hl.
      sum_below-same none plus code.k _ _ (λ i hi. ap (times (coefficient zero code lag i j)) (e lag i hl hi)))

  -- The parity of a slot depends on the blocks up to it alone.
  pub parity_symbol-same : (code : Code A) (f g : ℕ → ℕ → V) (t j : ℕ) → ((u i : ℕ) → u ≤ t → i < code.k → f u i ≡ g u i)
      → parity_symbol zero none plus times code f t j ≡ parity_symbol zero none plus times code g t j
  parity_symbol-same code f g t j e = parity_symbol-recent code f g t t j (λ lag i hl hi. earlier-same none f g t lag i (λ u hu. e u i hu hi))

  -- The parities of a stream that is zero before slot s are those of the stream from s on.
  pub parity_symbol-from : (code : Code A) (s : ℕ) (f : ℕ → ℕ → V) (t j : ℕ) → ((u i : ℕ) → u < s → i < code.k → f u i ≡ none)
      → parity_symbol zero none plus times code (symbols_from s f) t j ≡ parity_symbol zero none plus times code f (s + t) j
  parity_symbol-from code s f t j e =
      parity_symbol-recent code (symbols_from s f) f t (s + t) j (λ lag i hl hi. earlier-from none s f t lag i (λ u hu. e u i hu hi))

-- past the last lag each coefficient is zero
pub coefficient-past : {A : Type 0} (zero : A) (code : Code A) (lag i j : ℕ) → length code.lags ≤ lag → coefficient zero code lag i j ≡ zero
coefficient-past {A} zero code lag i j past = ap (λ (m : Matrix A). entry zero m i j) (get_or_past code.lags lag (record { cols = 0; rows = [] }) past)

-- ---- parities under the laws of the field and the module
module _ {A V : Type 0} {IsElement : A → Type 0} {zero one : A} {add sub mul : A → A → A} {inv : A → A} {IsValue : V → Type 0} {none : V} {plus : V → V → V} {times : A → V → V} (laws : IsField IsElement zero one add sub mul inv) (ml : IsModule IsElement zero one add mul IsValue none plus times) where
  pub AreValues-plus : (f g : ℕ → ℕ → V) → AreValues IsValue f → AreValues IsValue g → AreValues IsValue (plus_symbols plus f g)
  AreValues-plus f g hf hg = record { value = λ t i. ml.plus_value (f t i) (g t i) (hf.value t i) (hg.value t i) }

  pub element-coefficient : (code : Code A) (lag i j : ℕ) → IsCode IsElement code → IsElement (coefficient zero code lag i j)
  element-coefficient code lag i j hc =
      let rows : All (λ (r : List A). All IsElement r) (lag_matrix code lag).rows =
      All-or (λ (m : Matrix A). All (λ (r : List A). All IsElement r) m.rows) code.lags lag (record { cols = 0; rows = [] })
      (λ l d h k e hk. ((hc.matrices l d h).vectors k e hk).entries) (All-nil (λ (r : List A). All IsElement r)) in
      All-or IsElement (get_or (lag_matrix code lag).rows i []) j zero
      (All-or (λ (r : List A). All IsElement r) (lag_matrix code lag).rows i [] rows (All-nil IsElement)) laws.zero_element

  value-earlier : (f : ℕ → ℕ → V) (t lag i : ℕ) → AreValues IsValue f → IsValue (earlier none f t lag i)
  value-earlier f t lag i hf = cond_both (leb lag t) (f (t - lag) i) none IsValue (λ e. hf.value (t - lag) i) (λ e. ml.none_value)

  -- a symbol with its coefficient
  abbrev term_at : Code A → (ℕ → ℕ → V) → ℕ → ℕ → ℕ → ℕ → V
  term_at code f t j lag i = times (coefficient zero code lag i j) (earlier none f t lag i)

  value-term : (code : Code A) (f : ℕ → ℕ → V) (t j lag i : ℕ) → IsCode IsElement code → AreValues IsValue f → IsValue (term_at code f t j lag i)
  value-term code f t j lag i hc hf =
      ml.times_value (coefficient zero code lag i j) (earlier none f t lag i) (element-coefficient code lag i j hc) (value-earlier f t lag i hf)

  -- what the block `lag` slots before slot t gives
  abbrev lag_part : Code A → (ℕ → ℕ → V) → ℕ → ℕ → ℕ → V
  lag_part code f t j lag = sum_below none plus code.k (term_at code f t j lag)

  value-lag_part : (code : Code A) (f : ℕ → ℕ → V) (t j lag : ℕ) → IsCode IsElement code → AreValues IsValue f → IsValue (lag_part code f t j lag)
  value-lag_part code f t j lag hc hf = value-sum_below laws ml code.k (term_at code f t j lag) (λ i. value-term code f t j lag i hc hf)

  pub parity_symbol-value : (code : Code A) (f : ℕ → ℕ → V) (t j : ℕ) → IsCode IsElement code → AreValues IsValue f → IsValue (parity_symbol zero none plus times code f t j)
  parity_symbol-value code f t j hc hf = value-sum_below laws ml (length code.lags) (lag_part code f t j) (λ lag. value-lag_part code f t j lag hc hf)

  earlier-plus : (f g : ℕ → ℕ → V) (t lag i : ℕ) → earlier none (plus_symbols plus f g) t lag i ≡ plus (earlier none f t lag i) (earlier none g t lag i)
  earlier-plus f g t lag i =
      elim (cases_lt t lag) [
        | inl before ↦
            earlier-before none (plus_symbols plus f g) t lag i before ∙ sym (ml.plus_none none ml.none_value)
            ∙ sym (ap (λ (x : V). plus x (earlier none g t lag i)) (earlier-before none f t lag i before) ∙ ap (plus none) (earlier-before none g t lag i before))
        | inr within ↦
            earlier-within none (plus_symbols plus f g) t lag i within
            ∙ sym (ap (λ (x : V). plus x (earlier none g t lag i)) (earlier-within none f t lag i within) ∙ ap (plus (f (t - lag) i)) (earlier-within none g t lag i within))
      ]

  -- The parities of a sum are the sums of the parities.
  pub parity_symbol-plus : (code : Code A) (f g : ℕ → ℕ → V) (t j : ℕ) → IsCode IsElement code → AreValues IsValue f → AreValues IsValue g
      → parity_symbol zero none plus times code (plus_symbols plus f g) t j ≡ plus (parity_symbol zero none plus times code f t j) (parity_symbol zero none plus times code g t j)
  parity_symbol-plus code f g t j hc hf hg =
      sum_below-same none plus (length code.lags) (lag_part code (plus_symbols plus f g) t j) (λ lag. plus (lag_part code f t j lag) (lag_part code g t j lag)) (λ lag hl.
      sum_below-same none plus code.k (term_at code (plus_symbols plus f g) t j lag) (λ i. plus (term_at code f t j lag i) (term_at code g t j lag i)) (λ i hi.
      ap (times (coefficient zero code lag i j)) (earlier-plus f g t lag i)
      ∙ ml.times_plus (coefficient zero code lag i j) (earlier none f t lag i) (earlier none g t lag i) (element-coefficient code lag i j hc) (value-earlier f t lag i hf) (value-earlier g t lag i hg))
      ∙ sum_below-plus laws ml code.k (term_at code f t j lag) (term_at code g t j lag) (λ i. value-term code f t j lag i hc hf) (λ i. value-term code g t j lag i hc hg))
      ∙ sum_below-plus laws ml (length code.lags) (lag_part code f t j) (lag_part code g t j) (λ lag. value-lag_part code f t j lag hc hf) (λ lag. value-lag_part code g t j lag hc hg)

  -- The parities of zeros are zero.
  pub parity_symbol-zeros : (code : Code A) (f : ℕ → ℕ → V) (t j : ℕ) → IsCode IsElement code → ((u i : ℕ) → u ≤ t → i < code.k → f u i ≡ none) → parity_symbol zero none plus times code f t j ≡ none
  parity_symbol-zeros code f t j hc e =
      sum_below-zeros laws ml (length code.lags) (lag_part code f t j) (λ lag hl.
      sum_below-zeros laws ml code.k (term_at code f t j lag) (λ i hi.
      ap (times (coefficient zero code lag i j)) (earlier-zeros none f t lag i (λ u hu. e u i hu hi))
      ∙ times_none laws ml (coefficient zero code lag i j) (element-coefficient code lag i j hc)))

  -- What a linear map makes of them are the parities of what it makes of the symbols.
  pub linear-parity_symbol : {W : Type 0} {none' : W} {plus' : W → W → W} {times' : A → W → W} {h : V → W} → IsLinear IsElement IsValue none plus times none' plus' times' h
      → (code : Code A) (f : ℕ → ℕ → V) (t j : ℕ) → IsCode IsElement code → AreValues IsValue f
      → h (parity_symbol zero none plus times code f t j) ≡ parity_symbol zero none' plus' times' code (λ t i. h (f t i)) t j
  linear-parity_symbol {none' = none'} {plus' = plus'} {times' = times'} {h = h} lin code f t j hc hf =
      linear-sum_below laws ml lin (length code.lags) (lag_part code f t j) (λ lag. value-lag_part code f t j lag hc hf)
      ∙ sum_below-same none' plus' (length code.lags) (λ lag. h (lag_part code f t j lag))
      (λ lag. sum_below none' plus' code.k (λ i. times' (coefficient zero code lag i j) (earlier none' (λ t i. h (f t i)) t lag i))) (λ lag hl.
      linear-sum_below laws ml lin code.k (term_at code f t j lag) (λ i. value-term code f t j lag i hc hf)
      ∙ sum_below-same none' plus' code.k (λ i. h (term_at code f t j lag i)) (λ i. times' (coefficient zero code lag i j) (earlier none' (λ t i. h (f t i)) t lag i)) (λ i hi.
      lin.of_times (coefficient zero code lag i j) (earlier none f t lag i) (element-coefficient code lag i j hc) (value-earlier f t lag i hf)
      ∙ ap (times' (coefficient zero code lag i j)) (map-earlier none none' h f t lag i lin.of_none)))

  -- ---- the slots up to t in place of the lags
  lag_part-past : (code : Code A) (f : ℕ → ℕ → V) (t j lag : ℕ) → AreValues IsValue f → length code.lags ≤ lag → lag_part code f t j lag ≡ none
  lag_part-past code f t j lag hf past =
      sum_below-zeros laws ml code.k (term_at code f t j lag) (λ i hi.
      ap (λ (x : A). times x (earlier none f t lag i)) (coefficient-past zero code lag i j past) ∙ ml.times_zero (earlier none f t lag i) (value-earlier f t lag i hf))

  lag_part-before : (code : Code A) (f : ℕ → ℕ → V) (t j lag : ℕ) → IsCode IsElement code → t < lag → lag_part code f t j lag ≡ none
  lag_part-before code f t j lag hc before =
      sum_below-zeros laws ml code.k (term_at code f t j lag) (λ i hi.
      ap (times (coefficient zero code lag i j)) (earlier-before none f t lag i before)
      ∙ times_none laws ml (coefficient zero code lag i j) (element-coefficient code lag i j hc))

  -- as many lags as there are slots so far are enough
  parity_symbol-up_to : (code : Code A) (f : ℕ → ℕ → V) (t j : ℕ) → IsCode IsElement code → AreValues IsValue f → parity_symbol zero none plus times code f t j ≡ sum_below none plus (suc t) (lag_part code f t j)
  parity_symbol-up_to code f t j hc hf =
      let good : (lag : ℕ) → IsValue (lag_part code f t j lag) = λ lag. value-lag_part code f t j lag hc hf in
      elim (cases_lt (length code.lags) (suc t)) [
        | inl fewer ↦
            let n : length code.lags + (suc t - length code.lags) ≡ suc t = omega arith in
            sym (sum_below-longer laws ml (length code.lags) (suc t - length code.lags) (lag_part code f t j) good (λ lag le lt. lag_part-past code f t j lag hf le))
            ∙ ap (λ (k : ℕ). sum_below none plus k (lag_part code f t j)) n
        | inr more ↦
            let n : length code.lags ≡ suc t + (length code.lags - suc t) = omega arith in
            ap (λ (k : ℕ). sum_below none plus k (lag_part code f t j)) n
            ∙ sum_below-longer laws ml (suc t) (length code.lags - suc t) (lag_part code f t j) good (λ lag le lt. lag_part-before code f t j lag hc (omega arith))
      ]

  -- The parity of slot t is the sum over the slots l up to t and the symbols, with the coefficients of lag t - l.
  pub parity_symbol-by_slots : (code : Code A) (f : ℕ → ℕ → V) (t j : ℕ) → IsCode IsElement code → AreValues IsValue f
      → parity_symbol zero none plus times code f t j ≡ sum_below none plus (suc t) (λ l. sum_below none plus code.k (λ i. times (coefficient zero code (t - l) i j) (f l i)))
  parity_symbol-by_slots code f t j hc hf =
      parity_symbol-up_to code f t j hc hf
      ∙ sum_below-reversed laws ml t (lag_part code f t j) (λ lag. value-lag_part code f t j lag hc hf)
      ∙ sum_below-same none plus (suc t) (λ l. lag_part code f t j (t - l)) (λ l. sum_below none plus code.k (λ i. times (coefficient zero code (t - l) i j) (f l i))) (λ l hl.
      sum_below-same none plus code.k (term_at code f t j (t - l)) (λ i. times (coefficient zero code (t - l) i j) (f l i)) (λ i hi.
      let back : t - (t - l) ≡ l = omega arith in
      ap (times (coefficient zero code (t - l) i j)) (earlier-within none f t (t - l) i (omega arith) ∙ ap (λ (u : ℕ). f u i) back)))
