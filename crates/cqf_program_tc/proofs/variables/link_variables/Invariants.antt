-- The variables of the links so far.
use Rattle.cqf_lists.specs.ByNumber.{AreListsBy, lists_of}
use Rattle.cqf_program_tc.specs.Variables.{link_variable}
use Rattle.cqf_program_tc.proofs.variables.link_variables.Given as goal

abbrev pub invariant-loop-link : goal.invariant-loop-link
invariant-loop-link l = AreListsBy (link_variable l.domain) l.link (lists_of l.variables.items)
