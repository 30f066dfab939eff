use Rattle.cqf_laws_history.proofs.StreamRows.{no_other_port}
use Rattle.cqf_laws_history.proofs.definitions.frames_go_to_each_port.Goals as goal

pub returns-clause-no_other : goal.returns-clause-no_other
returns-clause-no_other c = no_other_port
