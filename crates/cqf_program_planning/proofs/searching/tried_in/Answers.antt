use Rattle.std.proofs.Common.{◌≡◌, ◌∙◌, Some, None, ap, length, map, sym}
use Rattle.std.specs.Prelude.{option_map}
use Rattle.std.proofs.lemmas.List.{length-map}
use Rattle.cqf_admission.specs.Asking.{asked_paced}
use Rattle.cqf_network.specs.NetworkDomain.{domain_at}
use Rattle.cqf_program_placing.specs.Placing.{outcome_value}
use Rattle.cqf_program_placing.specs.Settled.{settled_value}
use Rattle.cqf_program_planning.specs.Orders.{requests_in}
use Rattle.cqf_program_planning.proofs.OtherOrders.{requests_each}
use Rattle.cqf_program_planning.proofs.Searches.{all_found, not_all}
use Rattle.cqf_program_planning.proofs.searching.tried_in.Goals as goal

-- not all streams are placed
pub returns-in_default : goal.returns-in_default
returns-in_default c =
    let streams = c.args.streams.now in
    let those = map settled_value streams in
    let order = c.args.order.now in
    let outcomes = map outcome_value c.args.outcomes.now in
    let many : length those ≡ length streams = length-map streams settled_value in
    let none : requests_in (length those) order outcomes ≡ None =
    ap (λ n. requests_in n order outcomes) many ∙ sym c.in_ok-asked.ensures ∙ ap (option_map (λ all. map asked_paced all.items)) c.in_default.is in
    not_all those (domain_at c.args.network.now c.args.cycle_time) order outcomes none

-- there is a request for each
pub tried_with-requires : goal.tried_with-requires
tried_with-requires c =
    let count = length c.args.streams.now in
    let requests = c.in-Some.requests.items in
    let some : requests_in count c.args.order.now (map outcome_value c.args.outcomes.now) ≡ Some (map asked_paced requests) =
    sym c.in_ok-asked.ensures ∙ ap (option_map (λ all. map asked_paced all.items)) c.in-Some.is in
    ap length c.as_slice.ensures.value
    ∙ sym (length-map requests asked_paced)
    ∙ requests_each count c.args.order.now (map outcome_value c.args.outcomes.now) (map asked_paced requests) some

pub returns : goal.returns
returns c =
    let streams = c.args.streams.now in
    let those = map settled_value streams in
    let order = c.args.order.now in
    let outcomes = map outcome_value c.args.outcomes.now in
    let many : length those ≡ length streams = length-map streams settled_value in
    let some : requests_in (length those) order outcomes ≡ Some (map asked_paced c.as_slice.result.now) =
    ap (λ n. requests_in n order outcomes) many ∙ sym c.in_ok-asked.ensures ∙ ap (option_map (λ all. map asked_paced all.items)) c.in-Some.is
    ∙ ap (λ xs. Some (map asked_paced xs)) (sym c.as_slice.ensures.value) in
    all_found those c.in_ok-domain.domain (domain_at c.args.network.now c.args.cycle_time) order outcomes (map asked_paced c.as_slice.result.now)
    c.in_ok-found.found c.in_ok-domain.ensures some c.in_ok-found.ensures
