use Rattle.std.proofs.Common.{sym, subst, Contains}
use Rattle.std.proofs.lemmas.List.Elements.{Contains-get_or}
use Rattle.cqf_plain.proofs.losing.in_order.Goals as goal

pub gather_batch-requires : goal.gather_batch-requires
gather_batch-requires c =
    c.requires c.batch-item.result
    (subst (Contains c.args.batches.now) (sym c.batch-item.is) (Contains-get_or c.args.batches.now c.loop-batch.batch-index c.batch-item.result
    c.loop-batch-test.true))
