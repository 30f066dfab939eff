-- The offers so far of cycles that aren't run are counted.
use Rattle.std.proofs.Common.{◌≡◌, ◌≤◌, count_by, nat_le, take}
use Rattle.cqf_model.specs.declared.frames.Offered.{Offered}
use Rattle.cqf_model.specs.Shift.{offer_cycle}
use Rattle.cqf_model.specs.Policing.{numbered}
use Rattle.cqf_program_runs.proofs.deliveries.noted.later_offers.Given as goal

abbrev pub invariant-loop-index : goal.invariant-loop-index
invariant-loop-index l =
    (l.later ≡ count_by (λ (x : Offered). nat_le l.cycles (offer_cycle l.domain x)) (take l.index (numbered l.offers))) × (l.later ≤ l.index)
