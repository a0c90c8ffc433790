-- The last blocks of a stream, which an encoder keeps: how they change with the next block, and that they tell its parity.
use Rattle.std.proofs.Common.{◌≡◌, ℕ, ◌+◌, ◌-◌, ◌≤◌, List, [], ◌∷◌, ◌++◌, length, drop, replicate, bit_xor, sym, ap, ◌∙◌, arith}
use Rattle.std.proofs.lemmas.List.{append-nil, append_assoc, length-append, length-drop, length-replicate, get_or-drop, drop-append-le, drop-drop}
use Rattle.sc_code.specs.Code.{Code}
use Rattle.sc_code.specs.Stream.{zero_block, byte_at, column}
use Rattle.sc_code.specs.Parity.{last_blocks, parity}
use Rattle.sc_code.proofs.ParityLaws.{earlier-within, parity_symbol-recent}
use Rattle.sc_code.proofs.ColumnLaws.{same_map}
use Rattle.sc_code.proofs.StreamLaws.{parity-after_zeros}

pub length-last_blocks : (k m n : ℕ) (xs : List (List (List ℕ))) → length (last_blocks k m n xs) ≡ n
length-last_blocks k m n xs =
    omega (arith, length-drop (length xs) (replicate n (zero_block k m) ++ xs), length-append (replicate n (zero_block k m)) xs, length-replicate n (zero_block k m))

-- at the start all are zero
pub last_blocks-none : (k m n : ℕ) → last_blocks k m n [] ≡ replicate n (zero_block k m)
last_blocks-none k m n = append-nil (replicate n (zero_block k m))

-- the last blocks and one more
last_blocks-append : (k m n : ℕ) (xs : List (List (List ℕ))) (b : List (List ℕ)) → last_blocks k m n xs ++ b ∷ [] ≡ drop (length xs) (replicate n (zero_block k m) ++ (xs ++ b ∷ []))
last_blocks-append k m n xs b =
    sym (drop-append-le (length xs) (replicate n (zero_block k m) ++ xs) (b ∷ []) (omega (arith, length-append (replicate n (zero_block k m)) xs)))
    ∙ ap (drop (length xs)) (append_assoc (replicate n (zero_block k m)) xs (b ∷ []))

-- after the next block: it is appended, and the first goes
pub last_blocks_push : (k m n : ℕ) (xs : List (List (List ℕ))) (b : List (List ℕ)) → last_blocks k m n (xs ++ b ∷ []) ≡ drop 1 (last_blocks k m n xs ++ b ∷ [])
last_blocks_push k m n xs b =
    let count : length (xs ++ b ∷ []) ≡ length xs + 1 = length-append xs (b ∷ []) in
    ap (λ (s : ℕ). drop s (replicate n (zero_block k m) ++ (xs ++ b ∷ []))) count
    ∙ sym (drop-drop 1 (length xs) (replicate n (zero_block k m) ++ (xs ++ b ∷ [])))
    ∙ ap (drop 1) (sym (last_blocks-append k m n xs b))

module _ {A : Type 0} (zero : A) (act : A → ℕ → ℕ) where
  -- where a slot has a block for each lag, the blocks before those don't count
  pub parity-drop : (code : Code A) (m s : ℕ) (xs : List (List (List ℕ))) (t : ℕ) → length code.lags ≤ t + 1 → parity zero act code m (drop s xs) t ≡ parity zero act code m xs (s + t)
  parity-drop code m s xs t le =
      same_map _ _ code.r (λ j hj. same_map _ _ m (λ c hc.
      parity_symbol-recent zero 0 bit_xor act code (column (drop s xs) c) (column xs c) t (s + t) j (λ lag i hl hi.
      let place : s + (t - lag) ≡ s + t - lag = omega arith in
      earlier-within 0 (column (drop s xs) c) t lag i (omega arith)
      ∙ ap (λ (b : List (List ℕ)). byte_at b i c) (get_or-drop s xs (t - lag) [])
      ∙ ap (λ (u : ℕ). column xs c u i) place
      ∙ sym (earlier-within 0 (column xs c) (s + t) lag i (omega arith)))))

  -- The parity of the next slot is told by its block and the last blocks, one less than there are lags.
  pub parity-last_blocks : (code : Code A) (m n : ℕ) (xs : List (List (List ℕ))) (b : List (List ℕ)) → length code.lags ≤ n + 1
      → parity zero act code m (xs ++ b ∷ []) (length xs) ≡ parity zero act code m (last_blocks code.k m n xs ++ b ∷ []) n
  parity-last_blocks code m n xs b le =
      let all : List (List (List ℕ)) = replicate n (zero_block code.k m) ++ (xs ++ b ∷ []) in
      let place : n + length xs ≡ length xs + n = omega arith in
      sym (parity-after_zeros zero act code m n (xs ++ b ∷ []) (length xs))
      ∙ ap (parity zero act code m all) place
      ∙ sym (parity-drop code m (length xs) all n le)
      ∙ ap (λ (ys : List (List (List ℕ))). parity zero act code m ys n) (sym (last_blocks-append code.k m n xs b))
