use Rattle.std.proofs.Common.{Some, arith}
use Rattle.cqf_program_summary.specs.Summary.Listing.{cost_beside}
use Rattle.cqf_program_summary.specs.Summary.{listener_to}
use Rattle.cqf_program_summary.proofs.Listed.{none_after}
use Rattle.cqf_program_summary.proofs.summary.fares.listener_to.Goals as goal

pub returns-then-hop-links : goal.returns-then-hop-links
returns-then-hop-links c =
    let d = c.args.domain.now in
    let hop = c.args.hop.now in
    none_after d hop.link (listener_to d (cost_beside c.args.costs.now (Some c.args.row.now)) hop) (omega (arith, c.if-hop-links.true, c.links.ensures))
