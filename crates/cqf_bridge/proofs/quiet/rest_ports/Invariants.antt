use Rattle.std.specs.Prelude.{◌≡◌, ◌++◌, map, take, drop}
use Rattle.cqf_bridge.specs.Quiet.{rested}
use Rattle.cqf_bridge.proofs.quiet.rest_ports.Given as goal

abbrev pub invariant-loop-index : goal.invariant-loop-index
invariant-loop-index l = l.ports.items ≡ map (rested l.until.0) (take l.index l.fn.ports.items) ++ drop l.index l.fn.ports.items
