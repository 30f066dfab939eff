-- Those so far are placed.
use Rattle.std.proofs.Common.{◌≡◌, map, take}
use Rattle.cqf_admission.specs.Asking.{asked_paced}
use Rattle.cqf_program_placing.specs.Placing.{Placed, outcome_value}
use Rattle.cqf_program_planning.proofs.searching.all_placed.Given as goal

abbrev pub invariant-loop-request : goal.invariant-loop-request
invariant-loop-request l = map outcome_value l.outcomes.items ≡ map Placed (map asked_paced (take l.request-index l.requests))
