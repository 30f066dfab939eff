use Rattle.std.proofs.Common.{◌≡◌, ◌++◌, map}
use Rattle.std.specs.Vec.Iter.{into_iter_items}
use Rattle.cqf_admission.specs.Asking.{asked_paced}
use Rattle.cqf_program_plans.specs.Latency.Input.{asked_in, deadlines_in}
use Rattle.cqf_topology.specs.PlannedText.{planned_text}
use Rattle.cqf_program_plans.proofs.latency.reading.parted.Given as goal

-- those so far are in the two lists, and the others are still to be taken
abbrev pub invariant-loop-planned : goal.invariant-loop-planned
invariant-loop-planned l =
    (asked_in (map planned_text l.fn.streams.items) ≡ map asked_paced l.requests.items ++ asked_in (map planned_text (into_iter_items l.planned-iterator)))
    × (deadlines_in (map planned_text l.fn.streams.items) ≡ l.deadlines.items ++ deadlines_in (map planned_text (into_iter_items l.planned-iterator)))
