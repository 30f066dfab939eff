-- The hops so far have enough left.
use Rattle.std.proofs.Common.{◌≡◌, drop}
use Rattle.cqf_model.specs.Table.{links_in}
use Rattle.cqf_admission.specs.Weighing.{short_among, stand_short}
use Rattle.cqf_admission.proofs.state.short_of.Given as goal

abbrev pub invariant-loop-hop : goal.invariant-loop-hop
invariant-loop-hop l =
    stand_short l.domain l.holdings.rows l.cost l.pace l.tree ≡ short_among l.domain l.holdings.rows l.cost l.pace l.tree (links_in (drop l.hop-index l.tree))
