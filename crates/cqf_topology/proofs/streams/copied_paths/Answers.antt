use Rattle.std.proofs.Common.{◌∙◌, map, string_bytes, ap}
use Rattle.cqf_topology.proofs.Fronts.{copy-more}
use Rattle.cqf_topology.proofs.streams.copied_paths.Goals as goal

pub loop-path-preserved : goal.loop-path-preserved
loop-path-preserved c =
    copy-more c.args.paths.now c.loop-path.path-index c.path-item.result c.loop-path-test.true c.path-item.is (λ path. map string_bytes path.items) _ _ _
    c.in_ok-push.ensures.items (c.in_ok-copied.ensures ∙ ap (map string_bytes) c.as_slice.ensures.value) c.loop-path.invariant
