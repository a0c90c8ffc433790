use Rattle.sc_rtp.proofs.ReadingLaws.{reading_of-packet, reading_of-there, reading_of-refused, refusal-there, one_packet, one_reason, packet_accepted}
use Rattle.sc_rtp.proofs.reading_laws.one_reading.Goals as goal

pub returns : goal.returns
returns c = record {
  packets = reading_of-packet;
  accepted = reading_of-there;
  refusals = reading_of-refused;
  refused = refusal-there;
  one_packet = one_packet;
  one_reason = one_reason;
  never_both = packet_accepted;
}
