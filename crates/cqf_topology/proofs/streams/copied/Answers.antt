use Rattle.std.proofs.Common.{◌∙◌, string_bytes}
use Rattle.cqf_topology.proofs.Fronts.{copy-more}
use Rattle.cqf_topology.proofs.streams.copied.Goals as goal

pub loop-text-preserved : goal.loop-text-preserved
loop-text-preserved c =
    copy-more c.args.texts.now c.loop-text.text-index c.text-item.result c.loop-text-test.true c.text-item.is string_bytes _ _ _
    c.in_ok-push.ensures.items (c.in_ok-from_str.ensures.ok ∙ c.as_str.ensures.value) c.loop-text.invariant
