use Rattle.cqf_laws_shift.proofs.CycleLaws.{cycle_laws}
use Rattle.cqf_laws_gates.proofs.Redundant.{lenient_of_own, own_of_lenient, same_of_own}
use Rattle.cqf_laws_gates.proofs.inner_gates_are_redundant.Goals as goal
use Rattle.std.proofs.Common.{arith, length}

pub returns-clause-networks : goal.returns-clause-networks
returns-clause-networks c run gates net heard lenient planned background meets =
    let laws = cycle_laws c.port_is_one_cycle_late.ensures c.streams_are_sent_as_alone.ensures c.gate_gives_class.ensures c.gate_counts_cycles.ensures in (
      own_of_lenient laws run gates net heard lenient planned background meets c.late_arrival_changes_nothing.ensures
          c.legal_part_is_legal.ensures.same_past c.port_list_is_open.ensures,
      lenient_of_own laws run gates net heard lenient planned background meets,
    )

pub returns-clause-verdicts : goal.returns-clause-verdicts
returns-clause-verdicts c run gates net heard lenient planned background meets legal =
    let laws = cycle_laws c.port_is_one_cycle_late.ensures c.streams_are_sent_as_alone.ensures c.gate_gives_class.ensures c.gate_counts_cycles.ensures in
    same_of_own laws run gates net heard lenient planned background meets legal (length run.tables) (omega arith)
