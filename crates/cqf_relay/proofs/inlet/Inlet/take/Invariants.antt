use Rattle.std.proofs.Common.{◌≡◌, ◌++◌, map, take}
use Rattle.cqf_relay.specs.Logs.{came_by_segment}
use Rattle.cqf_relay.proofs.inlet.Inlet.take.Given as goal

-- the frames so far follow those that arrived before
abbrev pub invariant-loop-moving : goal.invariant-loop-moving
invariant-loop-moving l =
    (l.self.link ≡ l.fn.self.link)
    × (l.self.log.frames.items ≡ l.fn.self.log.frames.items ++ map (came_by_segment l.segment.from) (take l.moving-index l.moving-items))
