use Rattle.cqf_model.specs.Network.{compiled_lists}
use Rattle.cqf_laws_network.specs.NetworkLaws.{with_tables}
use Rattle.std.proofs.Common.{arith, ◌≤◌, refl}
use Rattle.cqf_bridge.proofs.SameFrames.{follows_both, has_sent_both, same_background, same_before_cycle}
use Rattle.cqf_bridge.proofs.longer_runs.longer_run_is_followed.Goals as goal

pub returns-clause-tables : goal.returns-clause-tables
returns-clause-tables c run others net b tables =
    follows_both (with_tables run others) run.tables net net b (same_before_cycle c.the_past_alone_matters.ensures.ports run others net b.received tables)

pub returns-clause-tables_halfway : goal.returns-clause-tables_halfway
returns-clause-tables_halfway c run others net b tables =
    has_sent_both (with_tables run others) run.tables net net b (same_before_cycle c.the_past_alone_matters.ensures.ports run others net b.received tables) refl

pub returns-clause-longer : goal.returns-clause-longer
returns-clause-longer c run others cycles longer net more b is within =
    let keeps = c.longer_run_keeps_its_cycles.ensures run others (compiled_lists run.domain) cycles longer net more is.shorter
    is.beginning.legal is.whole.legal in
    follows_both run others net more b (λ l. keeps.waits l b.received within)

pub returns-clause-longer_halfway : goal.returns-clause-longer_halfway
returns-clause-longer_halfway c run others cycles longer net more b is within =
    let keeps = c.longer_run_keeps_its_cycles.ensures run others (compiled_lists run.domain) cycles longer net more is.shorter
    is.beginning.legal is.whole.legal in
    let upto : b.received ≤ cycles = omega (arith, within) in
    has_sent_both run others net more b (λ l. keeps.waits l b.received upto)
    (same_background run others cycles b.received b.number net more keeps within)
