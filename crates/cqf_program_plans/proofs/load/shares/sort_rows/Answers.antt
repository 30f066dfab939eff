use Rattle.std.proofs.Common.{◌-◌, ℕ, rules}
use Rattle.std.proofs.lemmas.List.Sorted.{IsNonDecreasingBy-from_sort_by_key, answers_always}
use Rattle.cqf_model.specs.declared.topology.Row.{Row}
use Rattle.cqf_model.specs.Limits.{most_reserved}
use Rattle.cqf_program_plans.proofs.GreatestFirst.{sorted_greatest}
use Rattle.cqf_program_plans.proofs.load.shares.sort_rows.Goals as goal

pub returns : goal.returns
returns c =
    let key : Row → ℕ = λ row. most_reserved - row.octets in
    let up = IsNonDecreasingBy-from_sort_by_key key _ c.in_ok-sort_by_key.ensures.sorted (λ a r q k. search rules) in
    let stable = c.sort_by_key.ensures.stable key (answers_always _ _ _ (λ f a r q k. search rules)) in
    sorted_greatest most_reserved (λ (row : Row). row.octets) _ _ up stable
