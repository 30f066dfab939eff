use Rattle.std.proofs.Common.{◌∙◌, ◌==◌, ◌&&◌, ap}
use Rattle.std.specs.Prelude.{position}
use Rattle.std.specs.contracts.prelude.U16PartialEq.TheImpl.{ghosts as number}
use Rattle.cqf_model.specs.contracts.topology.NodePartialEq.TheImpl.{ghosts as node}
use Rattle.cqf_model.specs.Domain.{same_node}
use Rattle.cqf_topology.specs.Links.{Linked}
use Rattle.cqf_topology.proofs.LinkEnds.{index-of-ends}
use Rattle.cqf_topology.proofs.link_list.LinkList.number_of.Goals as goal

pub returns-clause-number : goal.returns-clause-number
returns-clause-number c =
    c.get_index_of.ensures.index
    ∙ ap (position (λ y. number.eq c.args.from y.0 && node.eq c.args.to y.1)) c.self.invariant
    ∙ index-of-ends c.args.from c.args.to c.self.inside.links.items
    ∙ ap (λ (l : Linked). position (λ link. (link.from == c.args.from) && same_node link.to c.args.to) l.items) c.self.view_is
