use Rattle.std.proofs.Common.{rules}
use Rattle.std.proofs.lemmas.List.Sorted.{IsNonDecreasingBy-from_sort_by_key, answers_always}
use Rattle.cqf_bridge.proofs.InOrder.{brought_in_order}
use Rattle.cqf_plain.proofs.ByLink.{link_of_start, start_on, starts_on}
use Rattle.cqf_plain.proofs.handing.sort_by_link.Goals as goal

pub returns : goal.returns
returns c =
    let up = IsNonDecreasingBy-from_sort_by_key link_of_start _ c.in_ok-sort_by_key.ensures.sorted (λ a r q k. search rules) in
    let stable = c.sort_by_key.ensures.stable link_of_start (answers_always _ _ _ (λ f a r q k. search rules)) in
    brought_in_order link_of_start start_on starts_on c.args.starts.now.items c.sort_by_key.new.self.items up stable
