use Rattle.std.proofs.Common.{List, rules, subst}
use Rattle.std.proofs.lemmas.List.Sorted.{IsNonDecreasingBy-from_sort_by_key, answers_always}
use Rattle.cqf_lists.proofs.Sorted.{stable_at}
use Rattle.cqf_model.specs.declared.frames.Backed.{Backed}
use Rattle.cqf_laws_cycle.specs.Gathered.{IsInOrderOf}
use Rattle.cqf_agenda.specs.Agenda.{instant_of_backed}
use Rattle.cqf_agenda.proofs.InCycles.{backed_at, backed_at_instants}
use Rattle.cqf_agenda.proofs.picking.background_in_order.Goals as goal

-- the sort is stable
pub returns : goal.returns
returns c =
    let sorted = c.sort_by_key.new.self.items in
    let up = IsNonDecreasingBy-from_sort_by_key instant_of_backed _ c.in_ok-sort_by_key.ensures.sorted (λ a r q k. search rules) in
    let stable = c.sort_by_key.ensures.stable instant_of_backed (answers_always _ _ _ (λ f a r q k. search rules)) in
    subst (λ (xs : List Backed). IsInOrderOf instant_of_backed xs sorted) c.in_ok-list.ensures
    (record { in_order = up; stable = λ t. stable_at instant_of_backed backed_at backed_at_instants c.in_ok-list.list.items sorted t stable })
