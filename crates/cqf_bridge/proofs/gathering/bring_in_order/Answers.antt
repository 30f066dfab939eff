use Rattle.std.proofs.Common.{rules}
use Rattle.std.proofs.lemmas.List.Sorted.{IsNonDecreasingBy-from_sort_by_key, answers_always}
use Rattle.cqf_model.specs.Policing.{Received}
use Rattle.cqf_bridge.specs.Taking.{received_as}
use Rattle.cqf_bridge.proofs.InOrder.{at_instant, at_instants, brought_in_order, instant_of_frame, mapped_in_order}
use Rattle.cqf_bridge.proofs.gathering.bring_in_order.Goals as goal

pub returns-clause-ok : goal.returns-clause-ok
returns-clause-ok c =
    let gathered = c.args.frames.now.items in
    let sorted = c.sort_by_key.new.self.items in
    let up = IsNonDecreasingBy-from_sort_by_key instant_of_frame _ c.in_ok-sort_by_key.ensures.sorted (λ a r q k. search rules) in
    let stable = c.sort_by_key.ensures.stable instant_of_frame (answers_always _ _ _ (λ f a r q k. search rules)) in
    mapped_in_order received_as (λ (x : Received). x.at) gathered sorted (at_instant 0)
    (brought_in_order instant_of_frame at_instant at_instants gathered sorted up stable)
