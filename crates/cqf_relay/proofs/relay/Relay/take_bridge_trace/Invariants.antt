use Rattle.std.specs.Vec.Iter.{into_iter_items}
use Rattle.cqf_relay.proofs.Handing.{AreTracesUpTo}
use Rattle.cqf_relay.proofs.relay.Relay.take_bridge_trace.Given as goal

-- the traces of the links so far are taken
abbrev pub invariant-loop-outlet : goal.invariant-loop-outlet
invariant-loop-outlet l = AreTracesUpTo l.traces.items (into_iter_items l.outlet-iterator) l.fn.self.outlets.items
