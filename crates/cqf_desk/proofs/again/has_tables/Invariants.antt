-- The tables so far are those that the seat's Seals closed so far.
use Rattle.cqf_desk.proofs.Steps.{HasClosed}
use Rattle.cqf_desk.proofs.again.has_tables.Given as goal

abbrev pub invariant-loop-entry : goal.invariant-loop-entry
invariant-loop-entry l = HasClosed l.fn.again l.again l.rest l.fn.number l.tables l.next l.entry-index
