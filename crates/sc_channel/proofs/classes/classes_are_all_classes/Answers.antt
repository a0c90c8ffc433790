use Rattle.sc_channel.proofs.ClassLaws.{Contains-class, class-from_contains, length-classes_of, length-class, IsSet-class, IsAdmissible-class, part_of_class}
use Rattle.sc_channel.proofs.OrderSteps.{classes-before}
use Rattle.sc_channel.proofs.classes.classes_are_all_classes.Goals as goal

pub returns-clause-classes : goal.returns-clause-classes
returns-clause-classes c channel class ordered = (class-from_contains channel class ordered, Contains-class channel class)

pub returns-clause-count : goal.returns-clause-count
returns-clause-count c = length-classes_of

pub returns-clause-order : goal.returns-clause-order
returns-clause-order c = classes-before

pub returns-clause-lengths : goal.returns-clause-lengths
returns-clause-lengths c = length-class

pub returns-clause-first_lost : goal.returns-clause-first_lost
returns-clause-first_lost c = IsSet-class

pub returns-clause-admissible : goal.returns-clause-admissible
returns-clause-admissible c = IsAdmissible-class

pub returns-clause-contain : goal.returns-clause-contain
returns-clause-contain c = part_of_class
