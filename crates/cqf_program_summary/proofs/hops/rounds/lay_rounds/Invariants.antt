-- The rounds so far follow one another, and each step adds offers.
use Rattle.std.proofs.Common.{◌-◌, length}
use Rattle.cqf_program_summary.proofs.Laid.{AreSoFar}
use Rattle.cqf_program_summary.proofs.hops.rounds.lay_rounds.Given as goal

abbrev pub invariant-loop-last : goal.invariant-loop-last
invariant-loop-last l = AreSoFar l.domain l.hop_number l.offers l.drops l.rounds.items l.last

abbrev pub decreases-loop-last : goal.decreases-loop-last
decreases-loop-last l = length l.offers - l.last.frames
