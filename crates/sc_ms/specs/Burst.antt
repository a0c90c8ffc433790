-- Burst codes after Martinian and Sundberg ("Burst erasure correction codes with low decoding delay"): the parity matrix of a
-- block code, interleaved diagonally. Which Cauchy matrix stands in it is of this project.
use Rattle.std.specs.Prelude.{ℕ, ◌+◌, ◌==◌, nat_lt, bit_xor, if◌then◌else◌}
use Rattle.sc_field.specs.Gf256.{gf256_inverse}
use Rattle.sc_matrix.specs.Matrix.{Matrix}
use Rattle.sc_code.specs.Code.{Code}
use Rattle.sc_channel.specs.Channel.{ChannelNumbers}
use Rattle.sc_diag.specs.Made.{matrix_with}
use Rattle.sc_diag.specs.Diagonal.{interleaved}

-- The entry at row i and column j, of b columns: the identity in the first b rows, and below a Cauchy matrix over GF(256),
-- whose entry is the inverse of the difference of i and j, read as bytes.
abbrev pub burst_entry : ℕ → ℕ → ℕ → ℕ
burst_entry b i j = if nat_lt i b then (if i == j then 1 else 0) else gf256_inverse (bit_xor i j)

-- T rows and B columns
abbrev pub burst_matrix : ChannelNumbers → Matrix ℕ
burst_matrix channel = matrix_with channel.t channel.b (burst_entry channel.b)

-- the burst code of a channel
abbrev pub burst_code : ChannelNumbers → Code ℕ
burst_code channel = interleaved 0 (burst_matrix channel)

-- the number of its symbols, in block and parity
abbrev pub burst_width : ChannelNumbers → ℕ
burst_width channel = channel.t + channel.b
