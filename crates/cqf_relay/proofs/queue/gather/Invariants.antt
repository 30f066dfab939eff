use Rattle.std.proofs.Common.{◌≡◌, ◌++◌, take}
use Rattle.std.specs.List.{flat_map}
use Rattle.cqf_relay.specs.Queues.{AreByCycle, queued_by}
use Rattle.cqf_relay.proofs.queue.gather.Given as goal

-- the frames of the inlets so far follow what waited before
abbrev pub invariant-loop-inlet : goal.invariant-loop-inlet
invariant-loop-inlet l =
    AreByCycle l.inlets l.edge → l.queue.items ≡ l.fn.queue.items ++ flat_map (queued_by l.leads l.cycle) (take l.inlet-index l.inlets)
