use Rattle.std.proofs.Common.{rules}
use Rattle.std.proofs.lemmas.List.Sorted.{IsNonDecreasingBy-from_sort_by_key}
use Rattle.cqf_model.specs.declared.frames.Dropped.{Dropped}
use Rattle.cqf_program_summary.proofs.Strict.{rising}
use Rattle.cqf_program_summary.proofs.hops.preparing.sort_by_frame.Goals as goal

pub returns-clause-rise : goal.returns-clause-rise
returns-clause-rise c =
    let sort = c.sort_unstable_by_key.ensures in
    rising c.args.drops.now.items c.sort_unstable_by_key.new.self.items c.requires sort.permutation
    (IsNonDecreasingBy-from_sort_by_key (λ (x : Dropped). x.frame) _ sort.sorted (λ a r q k. search rules))
