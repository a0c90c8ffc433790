-- How a list of symbols holds a list of blocks.
use Rattle.std.proofs.Common.{◌≡◌, ℕ, ◌+◌, ◌*◌, ◌<◌, List, [], length, get_or, ap, ◌∙◌, arith}
use Rattle.sc_matrix.specs.Layout.{cut}
use Rattle.sc_matrix.proofs.LayoutLaws.{row_within, length-cut, length-row, entry_part}

-- a symbol's place is one of the list
pub record IsSymbolPlace (xs : List ℕ) (blocks : List (List ℕ)) (t i place : ℕ) : Type 0 where
  pub within : place < length xs
  pub value : get_or xs place 0 ≡ get_or (get_or blocks t []) i 0

-- where `ys` is the list of symbols of the blocks
pub symbol_place : (n k : ℕ) (xs ys : List ℕ) (blocks : List (List ℕ)) (t i : ℕ) → ys ≡ xs → cut n k xs ≡ blocks → length xs ≡ n * k → t < length blocks → i < length (get_or blocks t []) → IsSymbolPlace ys blocks t i (t * k + i)
symbol_place n k xs ys blocks t i same e l ht hi =
    let count = length-cut n k xs in
    let in_n : t < n = omega (arith, ap length e) in
    let in_k : i < k = omega (arith, length-row n k xs t l in_n, ap (λ (b : List (List ℕ)). length (get_or b t [])) e) in
    rw same record {
      within = omega (arith, row_within n k t in_n);
      value = entry_part n k xs 0 t i (t * k) (omega arith) in_n in_k ∙ ap (λ (b : List (List ℕ)). get_or (get_or b t []) i 0) e;
    }
