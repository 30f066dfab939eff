-- The seat's calls so far are those of the entries so far.
use Rattle.cqf_desk.proofs.Calls.{HasRead}
use Rattle.cqf_desk.proofs.closing.has_calls.Given as goal

abbrev pub invariant-loop-entry : goal.invariant-loop-entry
invariant-loop-entry l = HasRead l.fn.number l.calls l.rest l.next l.entry-index
