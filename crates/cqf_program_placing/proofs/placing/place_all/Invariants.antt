-- The streams so far are placed, no call but theirs was made, and what links have left is known.
use Rattle.cqf_model.specs.History.{held_in, seals}
use Rattle.cqf_program_placing.specs.Known.{AreKnown}
use Rattle.cqf_program_placing.proofs.IndexLemmas.{ArePlacedSoFar}
use Rattle.cqf_program_placing.proofs.placing.place_all.Given as goal

abbrev pub invariant-loop-stream : goal.invariant-loop-stream
invariant-loop-stream l = record {
  placed : ArePlacedSoFar l.domain l.streams l.stream-index l.admission l.outcomes.items;
  known : AreKnown l.domain (held_in l.domain l.admission.entries (seals l.admission.entries)) l.rooms;
}
