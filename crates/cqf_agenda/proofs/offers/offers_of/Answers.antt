use Rattle.std.proofs.Common.{List, arith, rules, subst}
use Rattle.std.proofs.lemmas.List.Sorted.{IsNonDecreasingBy-from_sort_by_key, answers_always}
use Rattle.cqf_lists.proofs.Sorted.{stable_at}
use Rattle.cqf_model.specs.declared.frames.Offered.{Offered}
use Rattle.cqf_laws_cycle.specs.Gathered.{IsInOrderOf}
use Rattle.cqf_agenda.specs.Agenda.{instant_of_offer}
use Rattle.cqf_agenda.proofs.InCycles.{offer_at, offers_at_instants}
use Rattle.cqf_agenda.proofs.offers.offers_of.Goals as goal

-- the sort is stable
pub returns : goal.returns
returns c =
    let listed = c.in_ok-list.list.items in
    let sorted = c.sort_by_key.new.self.items in
    let up = IsNonDecreasingBy-from_sort_by_key instant_of_offer _ c.in_ok-sort_by_key.ensures.sorted (λ a r q k. search rules) in
    let stable = c.sort_by_key.ensures.stable instant_of_offer (answers_always _ _ _ (λ f a r q k. search rules)) in
    c.frames_are_taken_in_order.ensures.offers c.args.domain.now c.args.offers.now c.args.bridge c.args.cycle.0 sorted
    (omega (arith, c.know.ensures.accepted.cycle_least))
    (subst (λ (xs : List Offered). IsInOrderOf instant_of_offer xs sorted) c.in_ok-list.ensures
    (record { in_order = up; stable = λ t. stable_at instant_of_offer offer_at offers_at_instants listed sorted t stable }))
