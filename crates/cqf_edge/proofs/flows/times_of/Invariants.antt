use Rattle.std.proofs.Common.{◌≡◌, map, take}
use Rattle.std.specs.Prelude.{option_and_then}
use Rattle.cqf_edge.specs.Edge.{times_by}
use Rattle.cqf_edge.proofs.flows.times_of.Given as goal

abbrev pub invariant-loop-passage : goal.invariant-loop-passage
invariant-loop-passage l = l.times.items ≡ map (option_and_then times_by) (take l.passage-index l.passages)
