use Rattle.sc_codefile.proofs.FileSteps.{same_file, no_fault-file, some_file-no_fault, refused-file}
use Rattle.sc_codefile.proofs.FaultSteps.{same_refusal}
use Rattle.sc_codefile.specs.CodeFile.{code_faults}
use Rattle.sc_codefile.proofs.laws.one_code_file.Goals as goal

pub returns-clause-file : goal.returns-clause-file
returns-clause-file c = same_file

pub returns-clause-no_fault : goal.returns-clause-no_fault
returns-clause-no_fault c = no_fault-file

pub returns-clause-some_file : goal.returns-clause-some_file
returns-clause-some_file c = some_file-no_fault

pub returns-clause-refused : goal.returns-clause-refused
returns-clause-refused c = refused-file

pub returns-clause-refusal : goal.returns-clause-refusal
returns-clause-refusal c = same_refusal code_faults
