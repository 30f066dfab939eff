use Rattle.cqf_bridge.specs.PortRecord.{frames_of}
use Rattle.cqf_bridge.proofs.Handing.{HasHanded}
use Rattle.cqf_bridge.proofs.outgoing.hand_all.Given as goal

-- the starts so far are handed on, and the others are to be
abbrev pub invariant-loop-sent : goal.invariant-loop-sent
invariant-loop-sent l = HasHanded (frames_of l.arrivals l.streams) l.made l.sent-index l.fn.batch l.batch l.fn.background.items l.background.items
