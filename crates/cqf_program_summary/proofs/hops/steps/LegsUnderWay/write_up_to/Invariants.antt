-- The starts of the cycles so far are returned, or of all, and the room hasn't shrunk.
use Rattle.cqf_program_summary.specs.Hops.Rounds.{KeepsRoom, WritesKept, source_of}
use Rattle.cqf_program_summary.proofs.hops.steps.LegsUnderWay.write_up_to.Given as goal

abbrev pub invariant-loop-cycle : goal.invariant-loop-cycle
invariant-loop-cycle l = record {
  kept : WritesKept (source_of l.run) l._cycle l.initial.self l.self;
  room : KeepsRoom l.initial.self l.self;
}
