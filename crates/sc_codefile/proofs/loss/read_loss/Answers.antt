use Rattle.sc_codefile.proofs.ReadingLaws.{loss_reading_of}
use Rattle.sc_codefile.proofs.loss.read_loss.Goals as goal

pub returns-clause-reading : goal.returns-clause-reading
returns-clause-reading c = loss_reading_of c.args.text.now c.read_value.result c.read_value.ensures.file c.read_value.ensures.fault
