use Rattle.std.proofs.Common.{ℕ, ◌∙◌, ◌++◌, ◌+◌, List, ap, arith, filter, subst, sym}
use Rattle.cqf_model.specs.declared.frames.Dropped.{Dropped}
use Rattle.cqf_trace.specs.Traces.{IsDropsEndBefore, drops_at, is_drop_in}
use Rattle.cqf_trace.proofs.Reported.{bridge_placed, reported_further}
use Rattle.cqf_trace.proofs.reporting.add_drops.Goals as goal

-- one more bridge is done
pub loop-bridge-preserved : goal.loop-bridge-preserved
loop-bridge-preserved c =
    let traces = c.args.traces.now in
    let cycle = c.args.cycle.0 in
    let end = c.drops_end_of-end.result in
    let reported = c.loop-bridge.reported.items in (
      bridge_placed c.args.domain.now traces cycle c.loop-bridge.bridge c.from-index.result c.loop-bridge.indices end c.loop-bridge.invariant.0
          c.from-index.ensures (omega (arith, c.loop-bridge-test.true, c.bridges-bridge-end.ensures))
          (subst (λ (drops : List Dropped). IsDropsEndBefore (cycle + 1) drops end) c.drops-drops.ensures c.drops_end_of-end.ensures.following),
      reported_further (λ (bridge : ℕ). filter (is_drop_in cycle) (drops_at traces bridge)) c.loop-bridge.bridge c.args.reported.now.items reported
          c.extend_from_slice.new.self.items c.loop-bridge.invariant.1
          (c.in_ok-extend_from_slice.ensures.items
          ∙ ap (λ (drops : List Dropped). reported ++ drops)
          (sym c.drops_end_of-end.ensures.of_cycle ∙ ap (filter (is_drop_in cycle)) c.drops-drops.ensures)),
    )
