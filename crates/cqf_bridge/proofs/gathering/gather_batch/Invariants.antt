use Rattle.std.specs.Prelude.{◌≡◌, ◌++◌, map, take}
use Rattle.cqf_model.specs.Policing.{sent_received}
use Rattle.cqf_bridge.specs.Taking.{received_as}
use Rattle.cqf_bridge.proofs.gathering.gather_batch.Given as goal

abbrev pub invariant-loop-index : goal.invariant-loop-index
invariant-loop-index l =
    map received_as l.frames.items ≡ map received_as l.fn.frames.items ++ map (sent_received l.domain l.batch.link) (take l.index l.batch.frames)
