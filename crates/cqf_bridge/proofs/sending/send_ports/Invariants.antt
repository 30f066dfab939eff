use Rattle.cqf_bridge.specs.Sending.{FirstSend}
use Rattle.cqf_bridge.proofs.sending.send_ports.Given as goal

abbrev pub invariant-loop-index : goal.invariant-loop-index
invariant-loop-index l =
    FirstSend l.phase.domain.now l.phase.cycle.0 l.phase.background.now l.index l.fn.ports.items l.ports.items l.fn.batches.items
    l.batches.items l.fn.started.items l.started.items
