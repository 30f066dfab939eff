use Rattle.std.proofs.Common.{rules}
use Rattle.std.proofs.lemmas.List.Sorted.{answers_always}
use Rattle.cqf_book.proofs.BookSorts.{sorted_starts}
use Rattle.cqf_book.proofs.starts.sort_starts.Goals as goal

pub returns-clause-ok : goal.returns-clause-ok
returns-clause-ok c =
    let sort = c.in_ok-sort_by_key.ensures in
    sorted_starts _ _
    (record {
      moved = sort.permutation;
      sorted = sort.sorted (λ start. (start.cycle.0, start.link, start.start.0)) (answers_always _ _ _ (λ f a r q k. search rules));
      stable = sort.stable (λ start. (start.cycle.0, start.link, start.start.0)) (answers_always _ _ _ (λ f a r q k. search rules));
    })
