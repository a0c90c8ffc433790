-- The standard certificate of a channel, of this project: a burst of the greatest span, and then as many kept slots as leave
-- no stretch from a slot to its deadline with more losses than the channel admits anywhere.
use Rattle.std.specs.Prelude.{ℕ, ◌+◌, ◌-◌}
use Rattle.std.specs.List.{range_with_len}
use Rattle.sc_channel.specs.Channel.{ChannelNumbers}
use Rattle.sc_channel.specs.Certificate.{CertificateNumbers}

-- T + 1 - N + B slots
abbrev pub standard_period : ChannelNumbers → ℕ
standard_period channel = channel.t + 1 - channel.n + channel.b

-- that period, with the lost residues 0 to B - 1
abbrev pub standard_certificate : ChannelNumbers → CertificateNumbers
standard_certificate channel = record { period = standard_period channel; lost = range_with_len 0 channel.b }
