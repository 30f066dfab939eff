-- The legs so far are processed, and the room hasn't shrunk.
use Rattle.std.proofs.Common.{◌≡◌, ◌≤◌, take}
use Rattle.std.specs.Prelude.{vec_capacity}
use Rattle.cqf_program_summary.specs.Hops.Rounds.{legs_up_to}
use Rattle.cqf_program_summary.proofs.hops.steps.take_up_to.Given as goal

abbrev pub invariant-loop-leg : goal.invariant-loop-leg
invariant-loop-leg l = record {
  legs : l.here.items ≡ legs_up_to l.frames (take l.leg-index l.kept);
  room : vec_capacity l.initial.here ≤ vec_capacity l.here;
}
