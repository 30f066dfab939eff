use Rattle.std.proofs.Common.{[]}
use Rattle.cqf_lists.proofs.ByNumber.{list_more, no_lists}
use Rattle.cqf_report.specs.ByLink.{octets_listed}
use Rattle.cqf_report.proofs.links.no_octets.Goals as goal

pub loop-link-init : goal.loop-link-init
loop-link-init c = no_lists (octets_listed []) c.in_ok-by_link.by_link.items c.in_ok-by_link.ensures.items

pub loop-link-preserved : goal.loop-link-preserved
loop-link-preserved c =
    list_more (octets_listed []) c.loop-link._link c.loop-link.by_link.items c.push.new.self.items c.new.result c.loop-link.invariant c.new.ensures.items
    c.in_ok-push.ensures.items
