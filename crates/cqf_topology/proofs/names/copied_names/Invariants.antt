-- The names so far have been copied.
use Rattle.std.proofs.Common.{◌≡◌, take}
use Rattle.cqf_topology.proofs.names.copied_names.Given as goal

abbrev pub invariant-loop-name : goal.invariant-loop-name
invariant-loop-name l = l.copies.items ≡ take l.name-index l.names
