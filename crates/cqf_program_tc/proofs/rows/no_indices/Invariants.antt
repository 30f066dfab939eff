-- This number of lists are empty.
use Rattle.cqf_lists.specs.ByNumber.{AreListsBy, lists_of}
use Rattle.cqf_program_tc.proofs.NotedRows.{no_index}
use Rattle.cqf_program_tc.proofs.rows.no_indices.Given as goal

abbrev pub invariant-loop-bridge : goal.invariant-loop-bridge
invariant-loop-bridge l = AreListsBy no_index l._bridge (lists_of l.lists.items)
