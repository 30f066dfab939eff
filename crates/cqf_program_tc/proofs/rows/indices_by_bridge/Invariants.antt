-- The indices of the rows so far are noted.
use Rattle.cqf_program_tc.specs.Rows.{AreBelow, indices_in}
use Rattle.cqf_program_tc.proofs.rows.indices_by_bridge.Given as goal

abbrev pub invariant-loop-index : goal.invariant-loop-index
invariant-loop-index l = AreBelow l.domain l.rows l.index (indices_in l.lists.items)
