-- The parity of a slot: the sum over all lags and all symbols of a symbol times its coefficient.
use Rattle.std.specs.Prelude.{ℕ, zero as naught, suc, ◌-◌, List, ◌++◌, length, map, drop, replicate, bit_xor, nat_le, if◌then◌else◌}
use Rattle.std.specs.List.{range_with_len}
use Rattle.sc_code.specs.Code.{Code, coefficient}
use Rattle.sc_code.specs.Stream.{column, zero_block}

-- the sum of f 0, f 1 and so on up to f (n - 1)
abbrev pub sum_below : {V : Type 0} → V → (V → V → V) → ℕ → (ℕ → V) → V
sum_below none plus naught f = none
sum_below none plus (suc n) f = plus (sum_below none plus n f) (f n)

-- symbol i of the block `lag` slots before slot t. Before slot 0 each symbol is zero
abbrev pub earlier : {V : Type 0} → V → (ℕ → ℕ → V) → ℕ → ℕ → ℕ → V
earlier none symbols t lag i = if nat_le lag t then symbols (t - lag) i else none

-- Parity symbol j of slot t, where symbol i of block t is `symbols t i`, a value of a module over the field: a byte, whose
-- sum is xor, or an element of the field.
abbrev pub parity_symbol : {A V : Type 0} → A → V → (V → V → V) → (A → V → V) → Code A → (ℕ → ℕ → V) → ℕ → ℕ → V
parity_symbol zero none plus times code symbols t j =
    sum_below none plus (length code.lags) (λ lag.
    sum_below none plus code.k (λ i. times (coefficient zero code lag i j) (earlier none symbols t lag i)))

module _ {A : Type 0} (zero : A) (act : A → ℕ → ℕ) where
  -- parity symbol j of slot t in one byte column
  abbrev pub parity_byte : Code A → (ℕ → ℕ → ℕ) → ℕ → ℕ → ℕ
  parity_byte code bytes t j = parity_symbol zero 0 bit_xor act code bytes t j

  -- The parity of slot t in a stream of width m: r symbols, of which each byte is the sum over its own column.
  abbrev pub parity : Code A → ℕ → List (List (List ℕ)) → ℕ → List (List ℕ)
  parity code m stream t =
      map (λ j. map (λ c. parity_byte code (column stream c) t j) (range_with_len 0 m)) (range_with_len 0 code.r)

-- the last n blocks of a stream, with zero blocks in front where it has fewer
abbrev pub last_blocks : ℕ → ℕ → ℕ → List (List (List ℕ)) → List (List (List ℕ))
last_blocks k m n stream = drop (length stream) (replicate n (zero_block k m) ++ stream)
