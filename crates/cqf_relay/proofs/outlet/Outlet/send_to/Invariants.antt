use Rattle.cqf_relay.proofs.Sends.{HasSentTo}
use Rattle.cqf_relay.proofs.outlet.Outlet.send_to.Given as goal

-- it has sent up to the next cycle
abbrev pub invariant-loop-cycle : goal.invariant-loop-cycle
invariant-loop-cycle l = HasSentTo l.until l._cycle l.inlets l.edge l.fn.self l.self
