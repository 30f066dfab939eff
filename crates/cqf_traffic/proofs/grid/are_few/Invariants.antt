use Rattle.std.proofs.Common.{◌≡◌, ◌+◌, min, take}
use Rattle.cqf_traffic.specs.Offering.{frames_before}
use Rattle.cqf_traffic.proofs.grid.are_few.Given as goal

abbrev pub invariant-loop-sender : goal.invariant-loop-sender
invariant-loop-sender l = l.frames ≡ min (frames_before l.end.0 (take l.sender-index l.senders)) (l.most + 1)
