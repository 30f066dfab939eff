use Rattle.std.proofs.Common.{arith, ap, ◌∙◌}
use Rattle.toml.specs.Data.{array, table}
use Rattle.toml.proofs.Views.{view-Array, view-Table}
use Rattle.cqf_network_text.specs.DomainMembers.{link_members}
use Rattle.cqf_network_text.proofs.Putting.{push_last, push_next}
use Rattle.cqf_network_text.proofs.domain.links_value.Goals as goal

pub link_table-requires-clause-from : goal.link_table-requires-clause-from
link_table-requires-clause-from c = (c.know.ensures.accepted.links_good c.loop-number.number c.link.result c.link.ensures).from_bridge

pub link_table-requires-clause-to : goal.link_table-requires-clause-to
link_table-requires-clause-to c = (c.know.ensures.accepted.links_good c.loop-number.number c.link.result c.link.ensures).to_node

pub loop-number-preserved : goal.loop-number-preserved
loop-number-preserved c =
    push_next (λ link. table (link_members c.args.domain.now link)) c.args.domain.now.links c.loop-number.number c.link.result
    c.loop-number.links.items c.push.new.self.items _ c.link.ensures (view-Table c.in_ok-table.table ∙ ap table c.in_ok-table.ensures)
    c.in_ok-push.ensures.items c.loop-number.invariant

pub returns : goal.returns
returns c =
    view-Array c.loop-number.links
    ∙ ap array (push_last (λ link. table (link_members c.args.domain.now link)) c.args.domain.now.links c.loop-number.number c.loop-number.links.items
    (omega arith) c.loop-number.invariant)
