-- The form in which what is known is kept, and what it stands for.
use Rattle.std.specs.Prelude.{ℕ, List, Option, refl}
use Rattle.std.specs.Coded.{Coded, code_by, coded×, coded_ℕ, coded_list}
use Rattle.sc_echelon.specs.Equation.{Row}
use Rattle.sc_echelon.specs.Table.{rows_of, IsReduced, HasFirstPivots}
use Rattle.sc_echelon.specs.Knowledge.{IsBytes, Knowledge}

-- a row is stored as the pair of its fields, and what is known as the three of its own
abbrev pub row_code : {A : Type 0} → Coded A → Coded (Row A (List ℕ))
row_code {A} code =
    code_by (List A × List ℕ) (coded× (coded_list code) (coded_list coded_ℕ)) (λ r. (r.coeffs, r.right))
    (λ p. record { coeffs = p.0; right = p.1 }) (λ _. refl)

abbrev pub knowledge_code : {A : Type 0} → Coded A → Coded (Knowledge A)
knowledge_code {A} code =
    code_by ((ℕ × ℕ) × List (Row A (List ℕ))) (coded× (coded× coded_ℕ coded_ℕ) (coded_list (row_code code))) (λ k. ((k.cols, k.width), k.rows))
    (λ p. record { cols = p.0.0; width = p.0.1; rows = p.1 }) (λ _. refl)

-- what a table of rows over n columns knows
abbrev pub known_by : {A : Type 0} → ℕ → ℕ → List (Option (Row A (List ℕ))) → Knowledge A
known_by n w t = record { cols = n; width = w; rows = rows_of t }

-- reduced, each pivot the first nonzero entry of its row
pub record IsKept {A : Type 0} (IsElement : A → Type 0) (zero one : A) (n w : ℕ) (t : List (Option (Row A (List ℕ)))) : Type 0 where
  pub reduced : IsReduced IsElement zero one (IsBytes w) n t
  pub first : HasFirstPivots zero t
