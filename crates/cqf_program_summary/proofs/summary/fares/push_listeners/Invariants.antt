-- The paths to the listeners so far are appended.
use Rattle.std.proofs.Common.{◌≡◌, ◌++◌, Some, take}
use Rattle.cqf_program_summary.specs.Summary.Listing.{cost_beside}
use Rattle.cqf_program_summary.proofs.Found.{paths_among}
use Rattle.cqf_program_summary.proofs.summary.fares.push_listeners.Given as goal

abbrev pub invariant-loop-hop : goal.invariant-loop-hop
invariant-loop-hop l = l.paths.items ≡ l.initial.paths.items ++ paths_among l.domain (cost_beside l.costs (Some l.row)) (take l.hop-index l.hop-items)
