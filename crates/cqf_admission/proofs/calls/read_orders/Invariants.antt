-- The script's orders are those read so far and those of the remaining lines.
use Rattle.std.proofs.Common.{length, map}
use Rattle.cqf_admission.specs.Asking.{asked_paced}
use Rattle.cqf_admission.specs.Orders.{ordered_in}
use Rattle.cqf_admission.proofs.ReadLines.{AreOrdersSoFar, IsReadSoFar}
use Rattle.cqf_admission.proofs.calls.read_orders.Given as goal

abbrev pub invariant-loop-line : goal.invariant-loop-line
invariant-loop-line l =
    IsReadSoFar (map asked_paced l.names) l.seat l.cycles l.text (map (ordered_in (map asked_paced l.names) l.text) l.orders.items)
    l.position.line l.position.sealed l.position.called l.left
    × AreOrdersSoFar (map asked_paced l.names) l.text l.orders.items l.left

abbrev pub decreases-loop-line : goal.decreases-loop-line
decreases-loop-line l = length l.left
