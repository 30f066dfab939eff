use Rattle.std.proofs.Common.{ℕ, ◌≡◌, ◌∙◌, ap, arith, get_or, map, sym}
use Rattle.std.proofs.lemmas.Option.{get_or_from_slice_get}
use Rattle.cqf_lists.proofs.Members.{contains_at}
use Rattle.cqf_model.specs.Policing.{sent_received}
use Rattle.cqf_bridge.specs.Taking.{received_as}
use Rattle.cqf_bridge.proofs.InOrder.{gathered_more}
use Rattle.cqf_bridge.proofs.gathering.gather_batch.Goals as goal

pub by_link-requires-clause-early : goal.by_link-requires-clause-early
by_link-requires-clause-early c =
    c.requires.early c.get.result (contains_at c.args.batch.now.frames c.loop-index.index c.get.result c.get.ensures)

pub loop-index-preserved : goal.loop-index-preserved
loop-index-preserved c =
    let b = c.args.batch.now in
    let sent = c.get.result in
    let same : get_or b.frames c.loop-index.index sent ≡ sent = get_or_from_slice_get b.frames c.loop-index.index sent sent c.get.ensures in
    gathered_more (sent_received c.args.domain.now b.link) b.frames c.loop-index.index sent (map received_as c.args.frames.now.items) _ _ _
    (omega (arith, c.loop-index-test.true, c.len-index-end.ensures))
    (c.by_link.ensures ∙ ap (λ (l : ℕ). sent_received c.args.domain.now l sent) c.link.ensures ∙ ap (sent_received c.args.domain.now b.link) (sym same))
    c.in_ok-push.ensures.items c.loop-index.invariant
