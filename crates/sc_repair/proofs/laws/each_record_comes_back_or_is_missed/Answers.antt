use Rattle.sc_repair.proofs.Restoration.{arrived-thinned, each_comes_back, values-are_outcomes}
use Rattle.sc_repair.proofs.laws.each_record_comes_back_or_is_missed.Goals as goal

pub returns : goal.returns
returns c = record { due = each_comes_back; missed = values-are_outcomes; arrived = arrived-thinned }
