use Rattle.cqf_laws_cycle.proofs.Batches.{batch_whole, cycle_brings}
use Rattle.cqf_laws_cycle.proofs.bridges.cycle_brings_its_batches.Goals as goal

pub returns-clause-whole : goal.returns-clause-whole
returns-clause-whole c run cycles cycle m net sent compiled =
    batch_whole run cycles net compiled c.port_list_sends.ensures m cycle sent

pub returns-clause-brings : goal.returns-clause-brings
returns-clause-brings c run cycles cycle bridge net batches compiled =
    cycle_brings run cycles net compiled c.port_list_sends.ensures batches cycle bridge
