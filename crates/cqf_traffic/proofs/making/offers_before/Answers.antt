use Rattle.std.proofs.Common.{rules}
use Rattle.std.proofs.lemmas.List.Sorted.{IsNonDecreasingBy-from_sort_by_key, answers_always}
use Rattle.cqf_traffic.proofs.Arranging.{arranged, at_of}
use Rattle.cqf_traffic.proofs.making.offers_before.Goals as goal

-- the sort is stable
pub returns : goal.returns
returns c = arranged c.args.until.end.0 c.args.until.seed c.args.senders.now _ _ c.in_ok-list.ensures c.sort_by_key.ensures.permutation
    (IsNonDecreasingBy-from_sort_by_key at_of _ c.in_ok-sort_by_key.ensures.sorted (λ a r q k. search rules))
    (c.sort_by_key.ensures.stable at_of (answers_always _ _ _ (λ f a r q k. search rules)))
