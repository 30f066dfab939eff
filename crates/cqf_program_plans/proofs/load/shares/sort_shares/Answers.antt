use Rattle.std.proofs.Common.{◌-◌, ℕ, rules}
use Rattle.std.proofs.lemmas.List.Sorted.{IsNonDecreasingBy-from_sort_by_key, answers_always}
use Rattle.cqf_program_plans.specs.declared.load.shares.AccessShare.{AccessShare}
use Rattle.cqf_program_plans.specs.Load.Access.{most_taken}
use Rattle.cqf_program_plans.proofs.GreatestFirst.{sorted_greatest}
use Rattle.cqf_program_plans.proofs.load.shares.sort_shares.Goals as goal

pub returns : goal.returns
returns c =
    let key : AccessShare → ℕ = λ share. most_taken - share.taken in
    let up = IsNonDecreasingBy-from_sort_by_key key _ c.in_ok-sort_by_key.ensures.sorted (λ a r q k. search rules) in
    let stable = c.sort_by_key.ensures.stable key (answers_always _ _ _ (λ f a r q k. search rules)) in
    sorted_greatest most_taken (λ (share : AccessShare). share.taken) _ _ up stable
