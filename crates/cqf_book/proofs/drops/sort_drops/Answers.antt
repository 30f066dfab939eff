use Rattle.std.proofs.Common.{rules}
use Rattle.std.proofs.lemmas.List.Sorted.{answers_always}
use Rattle.cqf_book.proofs.BookSorts.{sorted_drops}
use Rattle.cqf_book.proofs.drops.sort_drops.Goals as goal

pub returns-clause-ok : goal.returns-clause-ok
returns-clause-ok c =
    let sort = c.in_ok-sort_by_key.ensures in
    sorted_drops _ _
    (record {
      moved = sort.permutation;
      sorted = sort.sorted (λ drop. (drop.cycle.0, drop.bridge, drop.frame)) (answers_always _ _ _ (λ f a r q k. search rules));
      stable = sort.stable (λ drop. (drop.cycle.0, drop.bridge, drop.frame)) (answers_always _ _ _ (λ f a r q k. search rules));
    })
