-- The drops so far are processed, and the room hasn't shrunk.
use Rattle.std.proofs.Common.{◌≡◌, ◌≤◌, ◌++◌, take}
use Rattle.std.specs.Prelude.{vec_capacity}
use Rattle.cqf_program_summary.specs.Hops.Rounds.{dropped_legs, source_of}
use Rattle.cqf_program_summary.proofs.hops.steps.push_drops.Given as goal

abbrev pub invariant-loop-dropped : goal.invariant-loop-dropped
invariant-loop-dropped l = record {
  legs : l.legs.items ≡ l.initial.legs.items ++ dropped_legs (source_of l.run) (take l.dropped-index l.drops);
  room : vec_capacity l.initial.legs ≤ vec_capacity l.legs;
}
