-- The offers so far have entered.
use Rattle.cqf_instants_run.specs.Entered.{AreEntered}
use Rattle.cqf_instants_run.proofs.entering.enter_offers.Given as goal

abbrev pub invariant-loop-index : goal.invariant-loop-index
invariant-loop-index l = AreEntered l.end.0 l.offers l.edge_verdicts l.groups l.index l.entering.items
