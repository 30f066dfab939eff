-- The variables of the streams so far.
use Rattle.cqf_lists.specs.ByNumber.{AreListsBy, lists_of}
use Rattle.cqf_program_tc.specs.Variables.{variable_at}
use Rattle.cqf_program_tc.proofs.variables.stream_variables.Given as goal

abbrev pub invariant-loop-index : goal.invariant-loop-index
invariant-loop-index l = AreListsBy (variable_at l.rows) l.index (lists_of l.variables.items)
