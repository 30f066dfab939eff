-- The octets of the starts so far are listed.
use Rattle.std.proofs.Common.{take}
use Rattle.cqf_lists.specs.ByNumber.{lists_of}
use Rattle.cqf_report.specs.ByLink.{AreListsByLink}
use Rattle.cqf_report.proofs.links.octets_by_link.Given as goal

abbrev pub invariant-loop-start : goal.invariant-loop-start
invariant-loop-start l = AreListsByLink (take l.start-index l.starts) 65536 (lists_of l.by_link.items)
