use Rattle.std.proofs.Common.{◌≡◌, map, take}
use Rattle.cqf_program_runs.specs.Deliveries.Deadlines.{deadline_in}
use Rattle.cqf_program_summary.specs.Summary.Listing.{fare_named}
use Rattle.cqf_program_summary.proofs.summary.sums.fares_of.Given as goal

-- the counts of the streams so far are there
abbrev pub invariant-loop-listed : goal.invariant-loop-listed
invariant-loop-listed l =
    l.fares.items ≡ map (fare_named l.domain l.costs (deadline_in l.deadlines)) (take l.listed-index l.streams)
