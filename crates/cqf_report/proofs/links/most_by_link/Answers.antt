use Rattle.std.proofs.Common.{rules}
use denote.Param.Always.{mut_total}
use Rattle.std.proofs.lemmas.List.Sorted.{answers_always}
use Rattle.std.specs.Slice.Iter.{chunk_by_rest}
use Rattle.cqf_report.specs.LinkSums.{are_of_one_batch}
use Rattle.cqf_report.proofs.LinkMost.{all_most, none_most, more_most}
use Rattle.cqf_report.proofs.links.most_by_link.Goals as goal

pub loop-batch-init : goal.loop-batch-init
loop-batch-init c = (
  mut_total _ _ (λ s a. tt),
  tt,
  rw (c.into_iter-batch-iterator.ensures.into_iter_gives, c.chunk_by-batch-items.ensures.rest)
      (none_most c.args.starts.now c.in_ok-most.most.items c.requires c.in_ok-most.ensures),
)

pub loop-batch-preserved : goal.loop-batch-preserved
loop-batch-preserved c =
    let steps = c.in-Some.ensures.steps in
    let run = steps.2 are_of_one_batch (answers_always _ _ _ (λ f a r g called. search rules)) in (
      mut_total _ _ (λ s a. tt),
      tt,
      rw c.raise.ensures (more_most c.args.starts.now (chunk_by_rest c.loop-batch.batch-iterator) c.in-Some.batch.now (chunk_by_rest c.next.new.self)
          c.loop-batch.most.items _ c.in_ok-octets.octets steps.0 steps.1 run.1 c.in_ok-octets.ensures c.loop-batch.invariant.2),
    )

pub returns-clause-most : goal.returns-clause-most
returns-clause-most c link below =
    let steps = c.in-None.ensures.steps in
    all_most c.args.starts.now _ c.loop-batch.most.items c.loop-batch.invariant.2 steps.0 link below
