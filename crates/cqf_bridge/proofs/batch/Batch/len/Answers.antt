use Rattle.std.proofs.Common.{◌∙◌, ap, length, sym}
use Rattle.cqf_bridge.specs.Batch.{LinkBatch}
use Rattle.cqf_bridge.proofs.Columns.{length_across}
use Rattle.cqf_bridge.proofs.batch.Batch.len.Goals as goal

pub returns : goal.returns
returns c =
    let b = c.self.inside in
    ap length c.as_slice.ensures.value
    ∙ sym (length_across b.starts.items b.frames.items b.streams.items b.octets.items c.self.invariant)
    ∙ ap (λ (x : LinkBatch). length x.frames) c.self.view_is
