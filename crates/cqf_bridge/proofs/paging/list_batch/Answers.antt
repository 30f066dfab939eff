use Rattle.std.proofs.Common.{◌∙◌, ap}
use Rattle.std.specs.Prelude.{◌++◌, ◌∷◌, []}
use Rattle.cqf_model.specs.declared.frames.Started.{Started}
use Rattle.cqf_model.specs.Book.{started}
use Rattle.cqf_bridge.proofs.Paged.{batch_more}
use Rattle.cqf_bridge.proofs.paging.list_batch.Goals as goal

pub loop-index-preserved : goal.loop-index-preserved
loop-index-preserved c =
    batch_more (started c.args.batch.now.cycle c.args.batch.now.link) c.loop-index.index c.args.batch.now.frames c.get.result c.args.starts.now.items
    c.loop-index.starts.items
    c.push.new.self.items c.get.ensures c.loop-index.invariant
    (c.in_ok-push.ensures.items ∙ ap (λ (x : Started). c.loop-index.starts.items ++ x ∷ [])
    (c.as_started.ensures ∙ (λ i. started (c.cycle.ensures i) (c.link.ensures i) c.get.result)))
