-- The starts so far are processed, and the room hasn't shrunk.
use Rattle.std.proofs.Common.{◌≡◌, ◌≤◌, ◌++◌, take}
use Rattle.std.specs.Prelude.{vec_capacity}
use Rattle.cqf_program_summary.specs.Hops.Rounds.{legs_after, source_of, started_legs}
use Rattle.cqf_program_summary.proofs.hops.steps.push_starts.Given as goal

abbrev pub invariant-loop-started : goal.invariant-loop-started
invariant-loop-started l = record {
  legs : l.legs.items ≡ l.initial.legs.items ++ legs_after l.frames (started_legs (source_of l.run) (take l.started-index l.starts));
  room : vec_capacity l.initial.legs ≤ vec_capacity l.legs;
}
