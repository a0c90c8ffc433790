-- Rate-optimal candidates, in the manner of Domanovitz, Fong and Khisti ("An explicit rate-optimal streaming code for channels
-- with burst and arbitrary erasures"): the parity matrix of a block code, interleaved diagonally. The matrices and their draws
-- are of this project.
use Rattle.std.specs.Prelude.{ℕ, ◌+◌, ◌-◌, ◌*◌, ◌≤◌, ◌==◌, min, nat_lt, bit_xor, if◌then◌else◌}
use Rattle.rand_pcg.specs.Lcg.{Lcg}
use Rattle.sc_layered.specs.Draw.{generator, nonzero_at}
use Rattle.sc_field.specs.Gf256.{gf256_product}
use Rattle.sc_matrix.specs.Matrix.{Matrix, entry, product}
use Rattle.sc_code.specs.Code.{Code}
use Rattle.sc_channel.specs.Channel.{ChannelNumbers}
use Rattle.sc_diag.specs.Made.{matrix_with}
use Rattle.sc_diag.specs.Diagonal.{interleaved}

-- The sizes of a candidate's parity matrix: its rows and columns, the first columns, which are drawn whole, and the rank of the
-- product that stands in the other columns of the first rows.
pub record OptimalSizes : Type 0 where
  pub rows : ℕ
  pub cols : ℕ
  pub whole : ℕ
  pub rank : ℕ

-- T - N + 1 rows and B columns; B less the rows of columns are whole, where B is greater, and so is the product's rank less
-- than N - 1
abbrev pub optimal_sizes : ChannelNumbers → OptimalSizes
optimal_sizes channel =
    let rows = channel.t + 1 - channel.n in
    let whole = channel.b - rows in
    record { rows = rows; cols = channel.b; whole = whole; rank = channel.n - 1 - whole }

-- the number of symbols, in block and parity
abbrev pub optimal_width : ChannelNumbers → ℕ
optimal_width channel = channel.t + 1 - channel.n + channel.b

-- the first rows: as many as there are columns, or all
abbrev pub first_rows : OptimalSizes → ℕ
first_rows s = min s.rows s.cols

-- the columns that are not drawn whole
abbrev pub other_cols : OptimalSizes → ℕ
other_cols s = s.cols - s.whole

-- ---- where the words of each part begin: the whole columns, the two factors, the diagonal, the last rows

abbrev pub left_from : OptimalSizes → ℕ
left_from s = s.whole * s.rows

abbrev pub right_from : OptimalSizes → ℕ
right_from s = left_from s + first_rows s * s.rank

abbrev pub diagonal_from : OptimalSizes → ℕ
diagonal_from s = right_from s + s.rank * other_cols s

-- n is the channel's N: there are B - N + 1 draws on the diagonal
abbrev pub last_from : OptimalSizes → ℕ → ℕ
last_from s n = diagonal_from s + (s.cols + 1 - n)

-- how many words are drawn
abbrev pub end_of : OptimalSizes → ℕ → ℕ
end_of s n = last_from s n + (s.rows - s.cols) * other_cols s

-- ---- the parts

-- n rows and c columns that are drawn row by row, from a word on
abbrev pub drawn_matrix : Lcg → ℕ → ℕ → ℕ → Matrix ℕ
drawn_matrix words from n c = matrix_with n c (λ i j. nonzero_at words (from + (i * c + j)))

-- the product of two drawn matrices
abbrev pub low_rank : Lcg → OptimalSizes → Matrix ℕ
low_rank words s =
    product 0 bit_xor gf256_product (drawn_matrix words (left_from s) (first_rows s) s.rank) (drawn_matrix words (right_from s) s.rank (other_cols s))

-- The entry at row i and column j, for a channel whose N is n. The whole columns are drawn column by column, and the other
-- columns of the last rows row by row. Where the product stands, a draw is added on the diagonal that begins at column N - 1.
abbrev pub optimal_entry : Lcg → OptimalSizes → ℕ → ℕ → ℕ → ℕ
optimal_entry words s n i j =
    if nat_lt j s.whole
    then nonzero_at words (j * s.rows + i)
    else (if nat_lt i (first_rows s)
    then bit_xor (entry 0 (low_rank words s) i (j - s.whole)) (if j + 1 == i + n then nonzero_at words (diagonal_from s + i) else 0)
    else nonzero_at words (last_from s n + ((i - s.cols) * other_cols s + (j - s.whole))))

-- the parity matrix of a channel's candidate of this number
abbrev pub optimal_matrix : ChannelNumbers → ℕ → Matrix ℕ
optimal_matrix channel c =
    let s = optimal_sizes channel in
    matrix_with s.rows s.cols (optimal_entry (generator c) s channel.n)

-- the candidate of a number
abbrev pub optimal_code : ChannelNumbers → ℕ → Code ℕ
optimal_code channel c = interleaved 0 (optimal_matrix channel c)

-- no size is above 40, and neither factor of the product has more than 64 rows and columns
pub record AreSmall (s : OptimalSizes) : Type 0 where
  pub rows : s.rows ≤ 40
  pub cols : s.cols ≤ 40
  pub whole : s.whole ≤ s.cols
  pub rank : s.rank ≤ 40
  pub left : first_rows s + s.rank ≤ 64
  pub right : s.rank + other_cols s ≤ 64
