use Rattle.cqf_instants_run.proofs.Starting.{port_starts_the_background}
use Rattle.cqf_instants_run.proofs.law.port_starts_the_background.Goals as goal

-- it is the law
pub returns : goal.returns
returns c = port_starts_the_background c.port_list_sends.ensures
