-- The lists so far are empty.
use Rattle.std.proofs.Common.{[]}
use Rattle.cqf_lists.specs.ByNumber.{lists_of}
use Rattle.cqf_report.specs.ByLink.{AreListsByLink}
use Rattle.cqf_report.proofs.links.no_octets.Given as goal

abbrev pub invariant-loop-link : goal.invariant-loop-link
invariant-loop-link l = AreListsByLink [] l._link (lists_of l.by_link.items)
