-- The index is noted at each bridge that one of the hops so far leaves.
use Rattle.std.proofs.Common.{take}
use Rattle.cqf_program_tc.specs.Rows.{indices_in}
use Rattle.cqf_program_tc.proofs.NotedRows.{AreUpTo}
use Rattle.cqf_program_tc.proofs.rows.note_row.Given as goal

abbrev pub invariant-loop-hop : goal.invariant-loop-hop
invariant-loop-hop l = AreUpTo l.domain l.rows l.index (take l.hop-index l.hops) (indices_in l.lists.items)
