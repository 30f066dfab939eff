use Rattle.cqf_admission.proofs.ByLine.{administrators_are_counted, faults_are_of_their_lines, scripts_are_their_lines}
use Rattle.cqf_admission.proofs.laws.script_is_its_lines.Goals as goal

pub returns-clause-calls : goal.returns-clause-calls
returns-clause-calls c = scripts_are_their_lines

pub returns-clause-faults : goal.returns-clause-faults
returns-clause-faults c = faults_are_of_their_lines

pub returns-clause-administrators : goal.returns-clause-administrators
returns-clause-administrators c = administrators_are_counted
