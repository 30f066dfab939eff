use Rattle.cqf_program_plans.proofs.Listed.{none_listed}
use Rattle.cqf_program_plans.proofs.load.listing.LoadListing.new.Goals as goal

pub invariant_of-result : goal.invariant_of-result
invariant_of-result c = rw (c.new-2.ensures, c.new-3.ensures.items) (none_listed _ _ c.in_ok-held.ensures c.in_ok-crossing.ensures)
