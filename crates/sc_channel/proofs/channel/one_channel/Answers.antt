use Rattle.sc_channel.proofs.ChannelLaws.{is_channel-to, is_channel-from}
use Rattle.sc_channel.proofs.channel.one_channel.Goals as goal

pub returns : goal.returns
returns c = λ numbers. (is_channel-to numbers, is_channel-from numbers)
