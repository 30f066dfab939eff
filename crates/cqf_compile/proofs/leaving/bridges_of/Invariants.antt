-- The bridges of the hops so far.
use Rattle.cqf_compile.proofs.Bridges.{AreBridges}
use Rattle.cqf_compile.proofs.leaving.bridges_of.Given as goal

abbrev pub invariant-loop-hop : goal.invariant-loop-hop
invariant-loop-hop l = AreBridges l.plan l.row.tree.items l.hop-index l.bridges.items
