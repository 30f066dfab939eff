use Rattle.cqf_relay.proofs.Sends.{HasSent}
use Rattle.cqf_relay.proofs.outlet.Outlet.send_queue.Given as goal

-- the first frames are sent
abbrev pub invariant-loop-queued : goal.invariant-loop-queued
invariant-loop-queued l = HasSent l.cycle l.queue l.queued-index l.offset l.fn.self l.self
