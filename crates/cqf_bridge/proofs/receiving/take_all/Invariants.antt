use Rattle.std.specs.Prelude.{map}
use Rattle.cqf_bridge.specs.Taking.{received_as}
use Rattle.cqf_bridge.proofs.TakenCycle.{IsTaking}
use Rattle.cqf_bridge.proofs.receiving.take_all.Given as goal

-- the frames so far are taken
abbrev pub invariant-loop-frame : goal.invariant-loop-frame
invariant-loop-frame l =
    IsTaking l.phase.domain.now l.phase.table.now.rows l.phase.number l.phase.cycle.0 l.fn.ports.items l.fn.drops.items (map received_as l.frames)
    l.frame-index l.gates l.ports.items l.drops.items
