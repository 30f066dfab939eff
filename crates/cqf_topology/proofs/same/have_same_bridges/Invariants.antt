-- The bridges so far are the same.
use Rattle.std.proofs.Common.{◌≡◌, take}
use Rattle.cqf_topology.proofs.same.have_same_bridges.Given as goal

abbrev pub invariant-loop-bridge : goal.invariant-loop-bridge
invariant-loop-bridge l = take l.bridge l.one.bridges ≡ take l.bridge l.other.bridges
