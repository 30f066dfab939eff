use Rattle.std.proofs.Common.{rules}
use Rattle.std.proofs.lemmas.List.Sorted.{IsNonDecreasingBy-from_sort_by_key, answers_always}
use Rattle.cqf_bridge.proofs.InOrder.{brought_in_order}
use Rattle.cqf_plain.proofs.ByLink.{batch_on, batches_on, link_of_batch}
use Rattle.cqf_plain.proofs.handing.sort_batches.Goals as goal

pub returns : goal.returns
returns c =
    let up = IsNonDecreasingBy-from_sort_by_key link_of_batch _ c.in_ok-sort_by_key.ensures.sorted (λ a r q k. search rules) in
    let stable = c.sort_by_key.ensures.stable link_of_batch (answers_always _ _ _ (λ f a r q k. search rules)) in
    brought_in_order link_of_batch batch_on batches_on c.args.batches.now.items c.sort_by_key.new.self.items up stable
