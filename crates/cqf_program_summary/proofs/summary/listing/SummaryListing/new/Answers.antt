use Rattle.cqf_program_summary.proofs.Listed.{none_listed}
use Rattle.cqf_program_summary.proofs.summary.listing.SummaryListing.new.Goals as goal

pub returns : goal.returns
returns c = λ d. none_listed d _ c.new-2.ensures c.new-3.ensures.items c.in_ok-costs.ensures
