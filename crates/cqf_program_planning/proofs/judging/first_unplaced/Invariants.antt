-- The first that isn't placed is among the rest.
use Rattle.std.proofs.Common.{◌≡◌}
use Rattle.cqf_program_planning.proofs.PlacedLemmas.{unplaced_from}
use Rattle.cqf_program_planning.proofs.judging.first_unplaced.Given as goal

abbrev pub invariant-loop-index : goal.invariant-loop-index
invariant-loop-index l = unplaced_from l.streams l.outcomes 0 ≡ unplaced_from l.streams l.outcomes l.index
