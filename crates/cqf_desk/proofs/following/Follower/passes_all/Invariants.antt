-- The calls so far were made, and the seat's tables are unchanged.
use Rattle.cqf_desk.proofs.Followers.{HasPassed}
use Rattle.cqf_desk.proofs.following.Follower.passes_all.Given as goal

abbrev pub invariant-loop-entry : goal.invariant-loop-entry
invariant-loop-entry l = HasPassed l.fn.self l.self l.others l.number l.entry-index
