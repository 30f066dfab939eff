use Rattle.cqf_laws_cycle.proofs.Steps.{last_table_waits}
use Rattle.cqf_laws_cycle.proofs.runs.last_table_waits.Goals as goal

pub returns : goal.returns
returns c =
    last_table_waits c.shorter_run_is_the_beginning.ensures.legal c.the_past_alone_matters.ensures.sends c.the_past_alone_matters.ensures.ports
    c.late_arrival_changes_nothing.ensures c.gate_gives_class.ensures c.port_list_is_open.ensures
