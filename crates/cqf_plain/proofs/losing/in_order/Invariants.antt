use Rattle.std.specs.Prelude.{◌≡◌, map, take}
use Rattle.std.specs.List.{flat_map}
use Rattle.cqf_model.specs.Policing.{sent_received}
use Rattle.cqf_bridge.specs.Batch.{LinkBatch}
use Rattle.cqf_bridge.specs.Taking.{received_as}
use Rattle.cqf_plain.proofs.losing.in_order.Given as goal

abbrev pub invariant-loop-batch : goal.invariant-loop-batch
invariant-loop-batch l =
    map received_as l.frames.items ≡ flat_map (λ (b : LinkBatch). map (sent_received l.domain b.link) b.frames) (take l.batch-index l.batches)
