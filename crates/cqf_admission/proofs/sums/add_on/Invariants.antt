-- The number was added to the sums of the links so far.
use Rattle.std.proofs.Common.{take}
use Rattle.cqf_model.specs.Table.{links_in}
use Rattle.cqf_admission.specs.Sums.{AreMoreOn}
use Rattle.cqf_admission.proofs.sums.add_on.Given as goal

abbrev pub invariant-loop-hop : goal.invariant-loop-hop
invariant-loop-hop l = AreMoreOn l.fn.sums.items (take l.hop-index (links_in l.tree)) l.number l.sums.items
