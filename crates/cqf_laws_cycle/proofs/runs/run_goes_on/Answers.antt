use Rattle.cqf_laws_cycle.proofs.Steps.{begins, run_goes_on}
use Rattle.cqf_laws_cycle.proofs.runs.run_goes_on.Goals as goal

pub returns-clause-begins : goal.returns-clause-begins
returns-clause-begins c = begins c.legal_starts_exist.ensures

pub returns-clause-goes_on : goal.returns-clause-goes_on
returns-clause-goes_on c =
    run_goes_on c.the_past_alone_matters.ensures.sends c.the_past_alone_matters.ensures.ports c.late_arrival_changes_nothing.ensures
    c.gate_gives_class.ensures c.port_list_is_open.ensures
