use Rattle.cqf_laws_cycle.proofs.Besides.{streams_start_as_alone}
use Rattle.cqf_laws_cycle.proofs.beside.streams_start_as_alone.Goals as goal

pub returns : goal.returns
returns c = streams_start_as_alone
