use Rattle.std.proofs.Common.{◌∙◌, sym, subst, Contains}
use Rattle.std.proofs.lemmas.List.Elements.{Contains-get_or}
use Rattle.cqf_bridge.specs.Taking.{IsBatchOf}
use Rattle.cqf_model.proofs.LinkEnds.{enters_inside}
use Rattle.cqf_bridge.proofs.Coming.{are_batches_of, batch_enters, not_batches_of, one_more_index}
use Rattle.cqf_bridge.proofs.checking.are_batches.Goals as goal

pub is_batch_of-requires-clause-inside : goal.is_batch_of-requires-clause-inside
is_batch_of-requires-clause-inside c =
    let are = c.are_of_links.ensures.yes c.if-not-are_of_links.false ∙ c.requires.incoming in
    let held = subst (Contains c.args.batches.now) (sym c.batch-item.is)
    (Contains-get_or c.args.batches.now c.loop-batch.batch-index c.batch-item.result c.loop-batch-test.true) in
    enters_inside c.args.domain.now c.batch-item.result.link c.args.number
    (batch_enters c.args.domain.now c.args.number c.args.batches.now c.batch-item.result are held)

pub returns-then-not-is_batch_of-clause-no : goal.returns-then-not-is_batch_of-clause-no
returns-then-not-is_batch_of-clause-no c =
    let held = subst (Contains c.args.batches.now) (sym c.batch-item.is)
    (Contains-get_or c.args.batches.now c.loop-batch.batch-index c.batch-item.result c.loop-batch-test.true) in
    λ _. not_batches_of c.args.domain.now c.args.number c.args.cycle.0 c.args.table.now.rows c.args.batches.now c.batch-item.result held
    (c.is_batch_of.ensures.no c.if-not-is_batch_of.true)

pub loop-batch-preserved : goal.loop-batch-preserved
loop-batch-preserved c =
    one_more_index (IsBatchOf c.args.domain.now c.args.number c.args.cycle.0 c.args.table.now.rows) c.args.batches.now c.loop-batch.batch-index
    c.batch-item.result c.batch-item.is (c.is_batch_of.ensures.yes c.if-not-is_batch_of.false) c.loop-batch.invariant

pub returns-clause-yes : goal.returns-clause-yes
returns-clause-yes c =
    let are = c.are_of_links.ensures.yes c.if-not-are_of_links.false ∙ c.requires.incoming in
    λ _. are_batches_of c.args.domain.now c.args.number c.args.cycle.0 c.args.table.now.rows c.args.batches.now are
    c.loop-batch.batch-index c.loop-batch-test.false c.loop-batch.invariant
