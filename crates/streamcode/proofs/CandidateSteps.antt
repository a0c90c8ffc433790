-- The candidates of each kind are codes: their numbers are within the limits, and each coefficient is a byte.
use Rattle.std.proofs.Common.{◌≡◌, ℕ, ◌+◌, ◌-◌, ◌*◌, ◌<◌, ◌≤◌, ◌==◌, ◌&&◌, Bool, true, false, if◌then◌else◌, nat_lt, nat_le, map, bit_xor, refl, sym, ap, ◌∙◌, subst, arith}
use Rattle.std.specs.Int.Bits.{xor_zero_l}
use Rattle.std.specs.List.{range_with_len}
use Rattle.std.proofs.lemmas.Bool.Decides.{nat_tests}
use Rattle.std.proofs.lemmas.Nat.{xor_of_8}
use Rattle.std.proofs.lemmas.List.FromFn.{length-map-range_with_len}
use Rattle.sc_field.specs.Gf256.{gf256_inverse}
use Rattle.sc_field.specs.Laws.Xor.{xor_twice}
use Rattle.sc_field.specs.Laws.Gf256Laws.{gf256_field}
use Rattle.sc_field.specs.Laws.Inverse.{inverse_below}
use Rattle.sc_matrix.specs.Module.{IsByte}
use Rattle.sc_matrix.specs.Vector.{IsVector}
use Rattle.sc_matrix.specs.Matrix.{Matrix, IsMatrix, row_count, entry}
use Rattle.sc_matrix.proofs.MatrixLaws.{entry_kind}
use Rattle.sc_matrix.proofs.Modules.{field_module}
use Rattle.sc_matrix.proofs.ProductLaws.{IsMatrix-product}
use Rattle.sc_channel.specs.Channel.{ChannelNumbers, IsChannel}
use Rattle.sc_code.specs.Code.{IsInRange, IsCode}
use Rattle.sc_code.proofs.ColumnLaws.{All-map_range}
use Rattle.sc_diag.specs.Made.{matrix_with, code_with}
use Rattle.sc_diag.specs.Diagonal.{diagonal_coefficient, interleaved}
use Rattle.sc_diag.proofs.MadeLaws.{row_count-matrix_with, shapes-code_with, length-lags}
use Rattle.sc_ms.specs.Burst.{burst_entry, burst_matrix}
use Rattle.sc_layered.specs.Draw.{generator, nonzero_at}
use Rattle.sc_layered.specs.Layered.{second_layer, layered_parity, first_coefficient, layered_coefficient}
use Rattle.sc_optimal.specs.Optimal.{OptimalSizes, optimal_sizes, first_rows, other_cols, left_from, right_from, drawn_matrix, low_rank, optimal_entry, optimal_matrix}
use Rattle.sc_optimal.specs.Candidates.{candidate, HasCandidates}
use Rattle.sc_optimal.specs.declared.kind.MakerKind.{MakerKind}
use Rattle.sc_optimal.specs.declared.kind.MakerKind.TheVariants.{Ms, Layered, Optimal}

-- ---- what is made by its entries
bytes-matrix_with : (n c : ℕ) (entries : ℕ → ℕ → ℕ) → ((i j : ℕ) → i < n → j < c → entries i j < 256) → IsMatrix IsByte (matrix_with n c entries)
bytes-matrix_with n c entries h = record {
  vectors =
      All-map_range (IsVector IsByte c) (λ i. map (entries i) (range_with_len 0 c)) n
      (λ i hi. record { width = length-map-range_with_len (entries i) 0 c; entries = All-map_range IsByte (entries i) c (λ j hj. h i j hi hj) });
}

IsCode-code_with : (k r count : ℕ) (coefficients : ℕ → ℕ → ℕ → ℕ) → IsInRange k r count → ((lag i j : ℕ) → i < k → j < r → coefficients lag i j < 256) → IsCode IsByte (code_with k r count coefficients)
IsCode-code_with k r count coefficients range h = record {
  in_range = subst (IsInRange k r) (sym (length-lags k r count coefficients)) range;
  shapes = shapes-code_with k r count coefficients;
  matrices = All-map_range (IsMatrix IsByte) (λ lag. matrix_with k r (coefficients lag)) count (λ lag hl. bytes-matrix_with k r (coefficients lag) (h lag));
}

either : (test : Bool) (x y : ℕ) → x < 256 → y < 256 → (if test then x else y) < 256
either true x y hx hy = hx
either false x y hx hy = hy

IsCode-interleaved : (p : Matrix ℕ) (k r : ℕ) → row_count p ≡ k → p.cols ≡ r → 1 ≤ k → 1 ≤ r → k + r ≤ 64 → IsMatrix IsByte p → IsCode IsByte (interleaved 0 p)
IsCode-interleaved p k r rows cols some_rows some_cols limit hp =
    IsCode-code_with (row_count p) p.cols (row_count p + p.cols) (diagonal_coefficient 0 p)
    (record {
      some_symbol = omega (arith, rows, some_rows);
      some_parity = omega (arith, cols, some_cols);
      size_limit = omega (arith, rows, cols, limit);
      some_lag = omega (arith, rows, some_rows);
      lag_limit = omega (arith, rows, cols, limit);
    })
    (λ lag i j hi hj. either (lag + i == row_count p + j) (entry 0 p i j) 0 (entry_kind p i j 0 hp (omega arith)) (omega arith))

-- ---- draws
nonzero_byte : (seed n : ℕ) → nonzero_at (generator seed) n < 256
nonzero_byte seed n = omega (arith)

-- ---- the burst code
burst_by : (test : Bool) (b i j : ℕ) → nat_lt i b ≡ test → i < 256 → j < b → b ≤ 256 → (if test then (if i == j then 1 else 0) else gf256_inverse (bit_xor i j)) < 256
burst_by true b i j e hi hj hb = either (i == j) 1 0 (omega arith) (omega arith)
burst_by false b i j e hi hj hb =
    let from : b ≤ i = grind (arith, nat_tests, e) in
    inverse_below (bit_xor i j) (xor_of_8 i j hi (omega (arith, hj, hb)))
    (λ none. let same : j ≡ i = sym (xor_zero_l j) ∙ sym (ap (λ x. bit_xor x j) none) ∙ xor_twice i j in omega (arith, same, from, hj))

burst_byte : (b i j : ℕ) → i < 256 → j < b → b ≤ 256 → burst_entry b i j < 256
burst_byte b i j hi hj hb = burst_by (nat_lt i b) b i j refl hi hj hb

-- ---- layered candidates
layered_byte : (seed b t lag i j : ℕ) → layered_coefficient (generator seed) b t lag i j < 256
layered_byte seed b t lag i j =
    either (nat_lt j b) (first_coefficient (generator seed) b t lag i j) _
    (either (nat_lt i b) _ _ (either (lag == t && i == j) 1 0 (omega arith) (omega arith)) (either (nat_lt lag t) _ 0 (nonzero_byte seed _) (omega arith)))
    (either (nat_lt i b && nat_le lag t) _ 0 (nonzero_byte seed _) (omega arith))

layered_range : (t b s : ℕ) → 1 ≤ t → t ≤ 40 → 1 ≤ b → t + (b + s) ≤ 64 → IsInRange t (b + s) (t + 1)
layered_range t b s some short parity limit = record {
  some_symbol = some;
  some_parity = omega (arith, parity);
  size_limit = limit;
  some_lag = omega arith;
  lag_limit = omega (arith, short);
}

-- ---- rate-optimal candidates
drawn_bytes : (seed from n c : ℕ) → IsMatrix IsByte (drawn_matrix (generator seed) from n c)
drawn_bytes seed from n c = bytes-matrix_with n c (λ i j. nonzero_at (generator seed) (from + (i * c + j))) (λ i j hi hj. nonzero_byte seed _)

low_rank_bytes : (seed : ℕ) (s : OptimalSizes) → IsMatrix IsByte (low_rank (generator seed) s)
low_rank_bytes seed s =
    IsMatrix-product gf256_field (field_module gf256_field) _ _ (drawn_bytes seed (left_from s) (first_rows s) s.rank) (drawn_bytes seed (right_from s) s.rank (other_cols s))

optimal_byte : (seed : ℕ) (s : OptimalSizes) (n i j : ℕ) → optimal_entry (generator seed) s n i j < 256
optimal_byte seed s n i j =
    either (nat_lt j s.whole) _ _ (nonzero_byte seed _)
    (either (nat_lt i (first_rows s)) _ _
    (xor_of_8 _ _ (entry_kind (low_rank (generator seed) s) i (j - s.whole) 0 (low_rank_bytes seed s) (omega arith)) (either (j + 1 == i + n) _ 0 (nonzero_byte seed _) (omega arith)))
    (nonzero_byte seed _))

-- ---- all of them
pub IsCode-candidate : (kind : MakerKind) (channel : ChannelNumbers) (c : ℕ) → IsChannel channel → HasCandidates kind channel → IsCode IsByte (candidate kind channel c)
IsCode-candidate Ms channel c is has =
    let o = is.ordered in
    IsCode-interleaved (burst_matrix channel) channel.t channel.b (row_count-matrix_with channel.t channel.b (burst_entry channel.b)) refl
    (omega (arith, o.some_loss, o.count_in_span, o.span_in_deadline)) (omega (arith, o.some_loss, o.count_in_span)) has.width
    (bytes-matrix_with channel.t channel.b (burst_entry channel.b)
    (λ i j hi hj. burst_byte channel.b i j (omega (arith, hi, is.deadline_limit)) hj (omega (arith, o.span_in_deadline, is.deadline_limit))))
IsCode-candidate Layered channel c is has =
    let o = is.ordered in
    IsCode-code_with channel.t (layered_parity channel) (channel.t + 1) (layered_coefficient (generator c) channel.b channel.t)
    (layered_range channel.t channel.b (second_layer channel.b channel.n channel.t) (omega (arith, o.some_loss, o.count_in_span, o.span_in_deadline)) is.deadline_limit
    (omega (arith, o.some_loss, o.count_in_span)) has.width)
    (λ lag i j hi hj. layered_byte c channel.b channel.t lag i j)
IsCode-candidate Optimal channel c is has =
    let o = is.ordered in
    let s = optimal_sizes channel in
    IsCode-interleaved (optimal_matrix channel c) s.rows s.cols (row_count-matrix_with s.rows s.cols (optimal_entry (generator c) s channel.n)) refl
    (omega (arith, o.some_loss, o.count_in_span, o.span_in_deadline)) (omega (arith, o.some_loss, o.count_in_span)) has.width
    (bytes-matrix_with s.rows s.cols (optimal_entry (generator c) s channel.n) (λ i j hi hj. optimal_byte c s channel.n i j))
