-- The drops of the offers so far.
use Rattle.std.proofs.Common.{◌≡◌}
use Rattle.cqf_instants_run.proofs.ByIndex.{by_index}
use Rattle.cqf_instants_run.proofs.dropping.drops_by_index.Given as goal

abbrev pub invariant-loop-index : goal.invariant-loop-index
invariant-loop-index l = l.drops.items ≡ by_index l.cycle_time.0 l.cycles l.offers l.edge_verdicts l.index
