-- The offers so far are counted.
use Rattle.cqf_instants_run.specs.Columns.{verdict_at}
use Rattle.cqf_instants_run.proofs.Offers.{AreCounted}
use Rattle.cqf_instants_run.proofs.counted.columns_of.Given as goal

abbrev pub invariant-loop-index : goal.invariant-loop-index
invariant-loop-index l =
    AreCounted l.domain l.cycles (verdict_at l.domain l.rows l.edge_verdicts) l.offers l.index l.initial.columns.items l.columns.items
