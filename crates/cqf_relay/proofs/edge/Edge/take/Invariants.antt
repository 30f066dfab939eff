-- The offers so far are judged.
use Rattle.std.proofs.Common.{take}
use Rattle.cqf_relay.proofs.Offers.{HasJudged}
use Rattle.cqf_relay.proofs.edge.Edge.take.Given as goal

abbrev pub invariant-loop-offered : goal.invariant-loop-offered
invariant-loop-offered l = HasJudged l.domain l.cycle.0 l.table.rows (take l.offered-index l.offers) l.fn.self l.self
