-- The sizes of a candidate's matrices.
use Rattle.std.proofs.Common.{◌≡◌, ℕ, ◌+◌, ◌*◌, ◌≤◌, ap, ◌∙◌, arith}
use Rattle.std.proofs.Math.Nat.{mul-le-mul}
use Rattle.std.proofs.lemmas.List.{length-map}
use Rattle.rand_pcg.specs.Lcg.{Lcg}
use Rattle.sc_layered.specs.Draw.{generator, nonzero_at}
use Rattle.sc_matrix.specs.Matrix.{Matrix, row_count}
use Rattle.sc_channel.specs.Channel.{ChannelNumbers}
use Rattle.sc_diag.proofs.MadeLaws.{row_count-matrix_with}
use Rattle.sc_optimal.specs.Optimal.{OptimalSizes, optimal_sizes, optimal_entry, optimal_matrix, drawn_matrix, low_rank, first_rows, left_from}

pub rows-drawn : (words : Lcg) (from n c : ℕ) (m : Matrix ℕ) → m ≡ drawn_matrix words from n c → row_count m ≡ n
rows-drawn words from n c m e = ap row_count e ∙ row_count-matrix_with n c (λ i j. nonzero_at words (from + (i * c + j)))

pub rows-low_rank : (words : Lcg) (s : OptimalSizes) (m : Matrix ℕ) → m ≡ low_rank words s → row_count m ≡ first_rows s
rows-low_rank words s m e =
    ap row_count e ∙ length-map (drawn_matrix words (left_from s) (first_rows s) s.rank).rows _
    ∙ row_count-matrix_with (first_rows s) s.rank (λ i j. nonzero_at words (left_from s + (i * s.rank + j)))

pub rows-optimal : (channel : ChannelNumbers) (c : ℕ) (p : Matrix ℕ) → p ≡ optimal_matrix channel c → row_count p ≡ (optimal_sizes channel).rows
rows-optimal channel c p e =
    let s = optimal_sizes channel in
    ap row_count e ∙ row_count-matrix_with s.rows s.cols (optimal_entry (generator c) s channel.n)

pub few_entries : (a b : ℕ) → a ≤ 40 → b ≤ 40 → a * b ≤ 67108864
few_entries a b ha hb = omega (arith, mul-le-mul ha hb)
