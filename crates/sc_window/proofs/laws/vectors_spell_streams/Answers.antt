use Rattle.sc_window.proofs.SpellLaws.{IsLostStream-spelled, lost_symbols-spelled, IsVector-lost_symbols, spelled-lost_symbols}
use Rattle.sc_window.proofs.laws.vectors_spell_streams.Goals as goal

pub returns-clause-stream : goal.returns-clause-stream
returns-clause-stream g c k class v h = IsLostStream-spelled g.F.Field.zero g.met.F.Field.field.zero_element k class v h

pub returns-clause-read_back : goal.returns-clause-read_back
returns-clause-read_back g c k class v h = lost_symbols-spelled g.F.Field.zero k class v h

pub returns-clause-vector : goal.returns-clause-vector
returns-clause-vector g c k class xs h = IsVector-lost_symbols g.F.Field.zero k class xs h

pub returns-clause-spelled : goal.returns-clause-spelled
returns-clause-spelled g c k class xs h = spelled-lost_symbols g.F.Field.zero k class xs h
