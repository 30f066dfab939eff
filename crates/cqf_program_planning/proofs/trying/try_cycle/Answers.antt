use Rattle.std.proofs.Common.{◌≡◌, ◌∙◌, [], Option, ap, length, map, subst, sym}
use Rattle.std.specs.Prelude.{unwrap_or}
use Rattle.std.proofs.lemmas.List.{length-map}
use Rattle.cqf_program_placing.specs.Placing.{outcome_value}
use Rattle.cqf_program_placing.specs.Settled.{settled_value}
use Rattle.cqf_program_planning.specs.declared.trying.Tried.{Tried}
use Rattle.cqf_program_planning.specs.Trying.{IsTried}
use Rattle.cqf_program_planning.proofs.Searches.{tried_or_found}
use Rattle.cqf_program_planning.proofs.TriedLemmas.{each_placed, length-placed}
use Rattle.cqf_program_planning.proofs.trying.try_cycle.Goals as goal

-- each stream has an outcome
pub search-requires-clause-each : goal.search-requires-clause-each
search-requires-clause-each c =
    let streams = c.args.streams.now in
    let placed = c.in_ok-placing.placing in
    ap length c.as_slice-outcomes.ensures.value
    ∙ sym (length-map c.in_ok-first.first.outcomes.items outcome_value)
    ∙ ap length c.in_ok-first.ensures.outcomes_are
    ∙ length-placed placed.domain (map settled_value streams) placed.outcomes
    (each_placed placed.domain [] (map settled_value streams) placed.outcomes placed.entries c.in_ok-placing.ensures.placed)
    ∙ length-map streams settled_value

-- it is found in another order
pub returns-in-Some : goal.returns-in-Some
returns-in-Some c =
    let those = map settled_value c.args.streams.now in
    let placed = c.in_ok-placing.placing in
    let first = c.in_ok-first.first in
    subst (λ (found : Option Tried). IsTried c.args.network.now those c.args.tries c.args.cycle_time (unwrap_or found first)) c.in-Some.is
    (tried_or_found c.args.network.now those c.args.tries c.args.cycle_time placed first (map outcome_value c.as_slice-outcomes.result.now) c.in_ok-found.found
    (record { domain = c.in_ok-placing.ensures.domain; placed_are = c.in_ok-placing.ensures.placed }) c.in_ok-first.ensures
    (ap (map outcome_value) c.as_slice-outcomes.ensures.value ∙ c.in_ok-first.ensures.outcomes_are) c.in_ok-found.ensures)

-- or in the first
pub returns-in-None : goal.returns-in-None
returns-in-None c =
    let those = map settled_value c.args.streams.now in
    let placed = c.in_ok-placing.placing in
    let first = c.in_ok-first.first in
    subst (λ (found : Option Tried). IsTried c.args.network.now those c.args.tries c.args.cycle_time (unwrap_or found first)) c.in-None.is
    (tried_or_found c.args.network.now those c.args.tries c.args.cycle_time placed first (map outcome_value c.as_slice-outcomes.result.now) c.in_ok-found.found
    (record { domain = c.in_ok-placing.ensures.domain; placed_are = c.in_ok-placing.ensures.placed }) c.in_ok-first.ensures
    (ap (map outcome_value) c.as_slice-outcomes.ensures.value ∙ c.in_ok-first.ensures.outcomes_are) c.in_ok-found.ensures)
