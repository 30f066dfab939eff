-- What arrives at a bridge at the instants of a cycle is of the cycle.
use Rattle.std.proofs.Common.{◌≡◌, ℕ, ◌+◌, ◌*◌, arith, Contains}
use Rattle.cqf_lists.specs.Lists.{each_below}
use Rattle.cqf_lists.proofs.EachBelow.{contains_from_below}
use Rattle.cqf_units.proofs.Cycles.{cycle_is}
use Rattle.cqf_model.specs.Domain.{cycle_of}
use Rattle.cqf_model.specs.Run.{Run}
use Rattle.cqf_model.specs.Policing.{Carried, Received, received_at}
use Rattle.cqf_model.proofs.Coming.{received_when}

-- what comes in a cycle is of the cycle
pub received_in_when : (run : Run) (carried : Carried) (bridge cycle : ℕ) (x : Received) →
    Contains (each_below (λ offset. received_at run carried bridge (cycle * run.domain.cycle_time + offset)) run.domain.cycle_time) x →
    cycle_of run.domain x.at ≡ cycle
received_in_when run carried bridge cycle x h =
    let time = run.domain.cycle_time in
    let w = contains_from_below (λ offset. received_at run carried bridge (cycle * time + offset)) time x h in
    let at = received_when run carried bridge (cycle * time + w.0) x w.2 in
    cycle_is time cycle x.at (omega (arith, at)) (omega (arith, at, w.1))
