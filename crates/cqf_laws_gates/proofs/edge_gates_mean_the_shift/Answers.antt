use Rattle.cqf_laws_gates.proofs.Books.{edge_gates_mean_the_shift, loose_inner_gates_are_redundant}
use Rattle.cqf_laws_gates.proofs.edge_gates_mean_the_shift.Goals as goal

pub returns-clause-networks : goal.returns-clause-networks
returns-clause-networks c = loose_inner_gates_are_redundant c.inner_gates_are_redundant.ensures.networks c.inner_gates_are_redundant.ensures.verdicts

pub returns-clause-shift : goal.returns-clause-shift
returns-clause-shift c =
    edge_gates_mean_the_shift c.inner_gates_are_redundant.ensures.networks c.inner_gates_are_redundant.ensures.verdicts
    c.tables_are_orderly.ensures.orderly c.loose_history_means_the_shift.ensures
