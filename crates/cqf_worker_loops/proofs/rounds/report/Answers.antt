use Rattle.std.proofs.Common.{◌≡◌, ◌∙◌, ◌+◌, Bool, true, ap, refl, sym, subst, arith, add-zero, if◌then◌else◌}
use Rattle.cqf_worker_loops.specs.Stepping.{GoesFurther}
use Rattle.cqf_worker_loops.proofs.HandedSegments.{goes_further, hands_on_at, next_port, one_at_most, outlets_still}
use Rattle.cqf_worker_loops.proofs.rounds.report.Goals.{then-has_news+in_ok-report_on, else-has_news, then-is_onward, else-is_onward}
use Rattle.cqf_worker_loops.proofs.rounds.report.Goals as goal

-- the link has something to pass on through the port
pub report_on-requires-clause-at : goal.report_on-requires-clause-at
report_on-requires-clause-at g c =
    let w = c.loop-index.worker in
    let so = c.loop-index.invariant in
    let t = c.requires.traffic in
    let number = c.requires.number in
    hands_on_at t number c.loop-index.index w (so.0.under_way t number c.requires.is) c.outlets-in-loop-index.result.now c.index-outlets-index-in-loop-index.result
    c.outlets-in-loop-index.ensures c.index-outlets-index-in-loop-index.is (omega (arith, so.1, c.loop-index-test.true)) c.loop-index.port
    (so.3 t number c.requires.is) (c.if-has_news.ensures.onward refl) (c.if-has_news.ensures.more refl)

-- it goes on, and the next port is that of the next link that ends in another bridge
pub loop-index-preserved : goal.loop-index-preserved
loop-index-preserved g c =
    let first = c.args.worker.now in
    let w = c.loop-index.worker in
    let so = c.loop-index.invariant in
    let read = c.index-outlets-index.result in
    let goes : GoesFurther first c.if-has_news.worker = elim c.if-has_news.branch [
      | then-has_news+in_ok-report_on b ↦ subst (GoesFurther first) (sym b.worker-is) (goes_further first w _ so.0 b.in_ok-report_on.ensures.ok)
      | else-has_news b ↦ subst (GoesFurther first) (sym b.worker-is) so.0
    ] in
    let port : c.if-is_onward.port ≡ c.loop-index.port + (if read.wire.onward then 1 else 0) = elim c.if-is_onward.branch [
      | then-is_onward b ↦
          b.port-is ∙ ap (λ (onward : Bool). c.loop-index.port + (if onward then 1 else 0)) (sym (sym c.is_onward-is_onward.ensures ∙ b.if-is_onward.true))
      | else-is_onward b ↦
          b.port-is ∙ sym (add-zero c.loop-index.port)
          ∙ ap (λ (onward : Bool). c.loop-index.port + (if onward then 1 else 0)) (sym (sym c.is_onward-is_onward.ensures ∙ b.if-is_onward.false))
    ] in (
      goes,
      omega (arith, so.1, outlets_still first w c.requires so.0, outlets_still first c.if-has_news.worker c.requires goes),
      omega (arith, port, so.2, one_at_most read.wire.onward),
      λ t number under_way.
          port ∙ next_port t number c.loop-index.index w (so.0.under_way t number under_way) c.outlets.result.now read c.outlets.ensures c.index-outlets-index.is
          (omega (arith, so.1, c.loop-index-test.true)) c.loop-index.port (so.3 t number under_way),
    )
