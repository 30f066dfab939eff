-- The starts so far are noted.
use Rattle.std.proofs.Common.{take}
use Rattle.cqf_program_runs.specs.Deliveries.UnderWay.{NotesAll, slots_of}
use Rattle.cqf_program_runs.proofs.deliveries.under_way.note_each.Given as goal

abbrev pub invariant-loop-start : goal.invariant-loop-start
invariant-loop-start l =
    NotesAll l.ended.domain.now l.ended.rows.now l.ended.edge_verdicts.now l.index (take l.start-index l.starts) (slots_of l.initial.slots.items)
    (slots_of l.slots.items)
