-- Layered candidates, in the manner of the MIDAS codes of Badr and others ("Layered constructions for low-delay streaming
-- codes"): a burst layer with memory T, and a layer of repetition on the symbols that the burst layer sends late. The matrices
-- and their draws are of this project.
use Rattle.std.specs.Prelude.{ℕ, ◌+◌, ◌-◌, ◌*◌, ◌/◌, ◌==◌, ◌&&◌, nat_lt, nat_le, if◌then◌else◌}
use Rattle.rand_pcg.specs.Lcg.{Lcg}
use Rattle.sc_layered.specs.Draw.{generator, nonzero_at}
use Rattle.sc_code.specs.Code.{Code}
use Rattle.sc_channel.specs.Channel.{ChannelNumbers}
use Rattle.sc_diag.specs.Made.{code_with}

-- the number of parity symbols of the second layer: B * N / (T - N + 1), rounded up
abbrev pub second_layer : ℕ → ℕ → ℕ → ℕ
second_layer b n t = (b * n + (t - n)) / (t - n + 1)

-- T symbols in a block, and B and those of the second layer in a parity
abbrev pub layered_parity : ChannelNumbers → ℕ
layered_parity channel = channel.b + second_layer channel.b channel.n channel.t

abbrev pub layered_width : ChannelNumbers → ℕ
layered_width channel = channel.t + layered_parity channel

-- The word that is drawn for symbol i, B or more, in parity symbol j of the first layer: first all of a parity symbol, and of
-- it first all of a lag.
abbrev pub first_word : ℕ → ℕ → ℕ → ℕ → ℕ → ℕ
first_word b t lag i j = (j * t + lag) * (t - b) + (i - b)

-- the word for symbol i, below B, in parity symbol q of the second layer, in the same order behind those
abbrev pub second_word : ℕ → ℕ → ℕ → ℕ → ℕ → ℕ
second_word b t lag i q = b * t * (t - b) + ((q * (t + 1) + lag) * b + i)

-- What symbol i gives to parity symbol j of the first layer, `lag` slots later: a symbol below B comes alone, T slots later,
-- and each other symbol with a drawn multiple at each lag below T.
abbrev pub first_coefficient : Lcg → ℕ → ℕ → ℕ → ℕ → ℕ → ℕ
first_coefficient words b t lag i j =
    if nat_lt i b
    then (if lag == t && i == j then 1 else 0)
    else (if nat_lt lag t then nonzero_at words (first_word b t lag i j) else 0)

-- The parity symbols from B on are the second layer. There each symbol below B comes with a drawn multiple at each lag up to T.
abbrev pub layered_coefficient : Lcg → ℕ → ℕ → ℕ → ℕ → ℕ → ℕ
layered_coefficient words b t lag i j =
    if nat_lt j b
    then first_coefficient words b t lag i j
    else (if nat_lt i b && nat_le lag t then nonzero_at words (second_word b t lag i (j - b)) else 0)

-- the candidate of a number
abbrev pub layered_code : ChannelNumbers → ℕ → Code ℕ
layered_code channel c =
    code_with channel.t (layered_parity channel) (channel.t + 1) (layered_coefficient (generator c) channel.b channel.t)
