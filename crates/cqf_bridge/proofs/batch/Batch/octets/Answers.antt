use Rattle.std.proofs.Common.{◌∙◌, ap, sum}
use Rattle.cqf_bridge.specs.Batch.{octets_of_batch}
use Rattle.cqf_bridge.proofs.Columns.{sum_across}
use Rattle.cqf_bridge.proofs.batch.Batch.octets.Goals as goal

pub returns : goal.returns
returns c =
    let b = c.self.inside in
    c.octet_sum.ensures ∙ ap sum c.as_slice.ensures.value
    ∙ sum_across b.starts.items b.frames.items b.streams.items b.octets.items c.self.invariant
    ∙ ap octets_of_batch c.self.view_is
