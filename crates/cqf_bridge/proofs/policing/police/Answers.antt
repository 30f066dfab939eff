use Rattle.std.proofs.Common.{arith}
use Rattle.cqf_bridge.specs.Taking.{received_as}
use Rattle.cqf_bridge.proofs.After.{policed_after}
use Rattle.cqf_bridge.proofs.policing.police.Goals as goal

pub returns-in_ok-outcome-in-ByLink-clause-following : goal.returns-in_ok-outcome-in-ByLink-clause-following
returns-in_ok-outcome-in-ByLink-clause-following c = λ tables policed table counted.
    policed_after c.args.domain.now tables c.args.table.now.rows c.args.number c.args.cycle.0 c.gate_counts_cycles.ensures
    (omega (arith, c.know.ensures.accepted.cycle_least)) table policed (received_as c.args.frame.now) c.args.gates.now
    c.requires.in_cycle counted _ _ c.in_ok-outcome-in-ByLink.ensures.polices

pub returns-in_ok-outcome-in-AtEdge-clause-following : goal.returns-in_ok-outcome-in-AtEdge-clause-following
returns-in_ok-outcome-in-AtEdge-clause-following c = λ tables policed table counted.
    policed_after c.args.domain.now tables c.args.table.now.rows c.args.number c.args.cycle.0 c.gate_counts_cycles.ensures
    (omega (arith, c.know.ensures.accepted.cycle_least)) table policed (received_as c.args.frame.now) c.args.gates.now
    c.requires.in_cycle counted _ _ c.in_ok-outcome-in-AtEdge.ensures.polices
