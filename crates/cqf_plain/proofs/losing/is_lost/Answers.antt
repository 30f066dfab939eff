use Rattle.cqf_bridge.specs.Taking.{received_as}
use Rattle.cqf_plain.proofs.Policing.{counted_so}
use Rattle.cqf_plain.proofs.losing.is_lost.Goals as goal

pub returns-in-GoesOn-clause-counted : goal.returns-in-GoesOn-clause-counted
returns-in-GoesOn-clause-counted c =
    counted_so c.args.domain.now c.args.number c.args.table.now.cycle c.cycle.result.0 c.args.table.now.rows (received_as c.args.frame.now) c.args.gates.now
    c.police.new.gates c.cycle.ensures (λ tables policed table counted. (c.in_ok-police.ensures.following tables policed table counted).counted)

pub returns-in-Dropped-clause-counted : goal.returns-in-Dropped-clause-counted
returns-in-Dropped-clause-counted c =
    counted_so c.args.domain.now c.args.number c.args.table.now.cycle c.cycle.result.0 c.args.table.now.rows (received_as c.args.frame.now) c.args.gates.now
    c.police.new.gates c.cycle.ensures (λ tables policed table counted. (c.in_ok-police.ensures.following tables policed table counted).counted)

pub returns-in-LacksRow-clause-counted : goal.returns-in-LacksRow-clause-counted
returns-in-LacksRow-clause-counted c =
    counted_so c.args.domain.now c.args.number c.args.table.now.cycle c.cycle.result.0 c.args.table.now.rows (received_as c.args.frame.now) c.args.gates.now
    c.police.new.gates c.cycle.ensures (λ tables policed table counted. (c.in_ok-police.ensures.following tables policed table counted).counted)

pub returns-in-ExceedsGate-clause-counted : goal.returns-in-ExceedsGate-clause-counted
returns-in-ExceedsGate-clause-counted c =
    counted_so c.args.domain.now c.args.number c.args.table.now.cycle c.cycle.result.0 c.args.table.now.rows (received_as c.args.frame.now) c.args.gates.now
    c.police.new.gates c.cycle.ensures (λ tables policed table counted. (c.in_ok-police.ensures.following tables policed table counted).counted)
