use Rattle.sc_rtpdump.proofs.ReadingLaws.{reading_of-capture, reading_of-sound, reading_of-only, reading_of-otherwise, front_of-exact}
use Rattle.sc_rtpdump.proofs.reading_laws.one_reading.Goals as goal

pub returns : goal.returns
returns c = record {
  capture = reading_of-capture;
  sound = reading_of-sound;
  alone = reading_of-only;
  none = reading_of-otherwise;
  front = front_of-exact;
}
