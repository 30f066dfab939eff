-- The lists so far, all empty.
use Rattle.std.proofs.Common.{[]}
use Rattle.cqf_lists.specs.ByNumber.{lists_of}
use Rattle.cqf_instants_run.specs.Feeding.{AreFed}
use Rattle.cqf_instants_run.proofs.feeding.no_arrivals.Given as goal

abbrev pub invariant-loop-link : goal.invariant-loop-link
invariant-loop-link l = AreFed [] [] l._link (lists_of l.lists.items)
