-- The test on the numbers of a channel is the definition of a channel.
use Rattle.std.proofs.Common.{◌≡◌, true, arith}
use Rattle.std.proofs.lemmas.Bool.Decides.{nat_tests}
use Rattle.sc_channel.specs.Channel.{ChannelNumbers, IsChannel, is_channel}

pub is_channel-to : (c : ChannelNumbers) → is_channel c ≡ true → IsChannel c
unfolding is_channel
is_channel-to c is = record {
  ordered = record { some_loss = grind (arith, nat_tests); count_in_span = grind (arith, nat_tests); span_in_deadline = grind (arith, nat_tests); deadline_in_window = grind (arith, nat_tests) };
  window_limit = grind (arith, nat_tests);
  deadline_limit = grind (arith, nat_tests);
}

pub is_channel-from : (c : ChannelNumbers) → IsChannel c → is_channel c ≡ true
unfolding is_channel
is_channel-from c is = grind (arith, nat_tests, is.ordered.some_loss, is.ordered.count_in_span, is.ordered.span_in_deadline, is.ordered.deadline_in_window, is.window_limit, is.deadline_limit)
