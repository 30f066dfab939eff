use Rattle.std.proofs.Common.{rules}
use Rattle.std.proofs.lemmas.List.Sorted.{answers_always}
use Rattle.cqf_program_summary.specs.Hops.Legs.{frame_of, instant_of, link_of}
use Rattle.cqf_program_summary.proofs.Strict.{sorted_strictly}
use Rattle.cqf_program_summary.proofs.hops.legs.sort_legs.Goals as goal

pub returns-clause-order : goal.returns-clause-order
returns-clause-order c =
    let sort = c.sort_unstable_by_key.ensures in
    record {
      same = sort.permutation;
      in_order = sorted_strictly _ _ c.requires sort.permutation
          (sort.sorted (λ leg. (frame_of leg, instant_of leg, link_of leg)) (answers_always _ _ _ (λ f a r q k. search rules)));
    }
