use Rattle.std.specs.Prelude.{◌≡◌, take}
use Rattle.std.specs.List.{flat_map}
use Rattle.cqf_bridge.specs.Cycles.{starts_of_batch}
use Rattle.cqf_bridge.proofs.paging.starts_of.Given as goal

abbrev pub invariant-loop-batch : goal.invariant-loop-batch
invariant-loop-batch l = l.starts.items ≡ flat_map starts_of_batch (take l.batch-index l.batches)
