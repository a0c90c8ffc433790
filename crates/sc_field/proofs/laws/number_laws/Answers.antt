use Rattle.sc_field.specs.ActionLemmas.{number_add, number_mul, is_number, is_number_xor, is_number_act, element_xor, element_act}
use Rattle.sc_field.proofs.laws.number_laws.Goals as goal

pub returns-clause-add : goal.returns-clause-add
returns-clause-add g c = number_add g.met.F.Field.field g.met.F.Field.action g.met.F.Field.numbered g.met.F.Field.by_number

pub returns-clause-mul : goal.returns-clause-mul
returns-clause-mul g c = number_mul g.met.F.Field.field g.met.F.Field.action g.met.F.Field.numbered g.met.F.Field.by_number

pub returns-clause-is_number : goal.returns-clause-is_number
returns-clause-is_number g c = is_number g.met.F.Field.field g.met.F.Field.action g.met.F.Field.numbered g.met.F.Field.by_number

pub returns-clause-xor : goal.returns-clause-xor
returns-clause-xor g c = element_xor g.met.F.Field.field g.met.F.Field.action g.met.F.Field.numbered g.met.F.Field.by_number

pub returns-clause-xor_is_number : goal.returns-clause-xor_is_number
returns-clause-xor_is_number g c = is_number_xor g.met.F.Field.field g.met.F.Field.action g.met.F.Field.numbered g.met.F.Field.by_number

pub returns-clause-act : goal.returns-clause-act
returns-clause-act g c = element_act g.met.F.Field.field g.met.F.Field.action g.met.F.Field.numbered g.met.F.Field.by_number

pub returns-clause-act_is_number : goal.returns-clause-act_is_number
returns-clause-act_is_number g c = is_number_act g.met.F.Field.field g.met.F.Field.action g.met.F.Field.numbered g.met.F.Field.by_number
