use Rattle.sc_repair.proofs.Restoration.{arrived-thinned, comes_back, comes_in_time, first-slots, prompt-timely}
use Rattle.sc_repair.proofs.SentCaptures.{protected-capture_there}
use Rattle.sc_repair.proofs.laws.protected_captures_come_back.Goals as goal

pub returns : goal.returns
returns c = record {
  capture = protected-capture_there;
  arrived = arrived-thinned;
  restored = λ file size input preamble records flags h. comes_back file size input preamble records flags h.sent h.meets;
  timely = λ file size input preamble records flags h. comes_in_time file size input preamble records flags h.sent h.meets;
  fronts = first-slots;
  runs = prompt-timely;
}
