use Rattle.std.specs.Prelude.{◌≡◌, ◌++◌, map, take, drop}
use Rattle.cqf_bridge.specs.Taking.{queue_on}
use Rattle.cqf_bridge.proofs.recording.queue_all.Given as goal

abbrev pub invariant-loop-index : goal.invariant-loop-index
invariant-loop-index l =
    l.ports.items ≡ map (queue_on l.row l.ingress l.arrival) (take l.index l.fn.ports.items) ++ drop l.index l.fn.ports.items
