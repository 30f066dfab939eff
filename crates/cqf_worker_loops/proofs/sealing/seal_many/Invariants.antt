use Rattle.cqf_worker_loops.specs.Handing.{SealsMany}
use Rattle.cqf_worker_loops.proofs.sealing.seal_many.Given as goal

-- this number of cycles is closed, and these are their tables
abbrev pub invariant-loop : goal.invariant-loop
invariant-loop g l = SealsMany l.counter l.fn.seat l.seat l.tables.items
