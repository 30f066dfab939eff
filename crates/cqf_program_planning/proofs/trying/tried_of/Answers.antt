use Rattle.std.proofs.Common.{◌∙◌, [], ap, length, map, subst, sym}
use Rattle.std.proofs.lemmas.List.{length-map}
use Rattle.cqf_admission.specs.ActiveCycles.{AreOfGoodPaces}
use Rattle.cqf_program_placing.specs.Placing.{outcome_value}
use Rattle.cqf_program_placing.specs.Settled.{settled_value}
use Rattle.cqf_program_planning.proofs.TriedLemmas.{each_placed, length-placed}
use Rattle.cqf_program_planning.proofs.trying.tried_of.Goals as goal

-- each stream has an outcome
pub candidate_of-requires-clause-each : goal.candidate_of-requires-clause-each
candidate_of-requires-clause-each c =
    let placed = c.args.placing in
    ap length c.as_slice-2.ensures.value
    ∙ sym (length-map c.in_ok-domain.outcomes.items outcome_value)
    ∙ ap length c.in_ok-domain.ensures.outcomes
    ∙ length-placed placed.domain (map settled_value c.args.streams.now) placed.outcomes
    (each_placed placed.domain [] (map settled_value c.args.streams.now) placed.outcomes placed.entries c.requires)
    ∙ length-map c.args.streams.now settled_value

-- its rows have good paces
pub candidate_of-requires-clause-good : goal.candidate_of-requires-clause-good
candidate_of-requires-clause-good c =
    subst AreOfGoodPaces (sym c.as_slice.ensures.value) c.in_ok-domain.ensures.good
