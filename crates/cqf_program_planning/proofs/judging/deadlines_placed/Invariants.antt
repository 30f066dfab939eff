-- The deadlines of those so far come before those of the rest.
use Rattle.std.proofs.Common.{◌≡◌, ◌++◌, map}
use Rattle.cqf_model.specs.History.{Asked}
use Rattle.cqf_program_placing.specs.Settled.{SettledStream}
use Rattle.cqf_program_planning.proofs.PlacedLemmas.{those_from}
use Rattle.cqf_program_planning.proofs.judging.deadlines_placed.Given as goal

abbrev pub invariant-loop-index : goal.invariant-loop-index
invariant-loop-index l =
    map (λ (one : SettledStream × Asked). one.0.deadline) (those_from l.streams l.outcomes 0)
    ≡ l.deadlines.items ++ map (λ (one : SettledStream × Asked). one.0.deadline) (those_from l.streams l.outcomes l.index)
