use Rattle.std.proofs.Common.{◌≡◌, ◌++◌, length, map, take}
use Rattle.cqf_port.specs.PortState.{start_of}
use Rattle.cqf_port.proofs.run.hand_on.Given as goal

-- the starts so far follow what the caller had
abbrev pub invariant-loop-transmission : goal.invariant-loop-transmission
invariant-loop-transmission l = (l.given.items ≡ l.initial.given.items ++ map (start_of l.arrivals) (take l.transmission-index l.made))
    × (l.kept ≡ length l.initial.given.items)
