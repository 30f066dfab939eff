use Rattle.std.proofs.Common.{◌≡◌, ◌<◌, ◌∙◌, Contains, List, ap, arith, length}
use Rattle.cqf_model.specs.declared.topology.Hop.{Hop}
use Rattle.cqf_model.specs.declared.topology.Row.{Row}
use Rattle.cqf_model.specs.Domain.{Domain}
use Rattle.cqf_model.specs.History.{most_beside}
use Rattle.cqf_model.specs.Table.{link_cost}
use Rattle.cqf_admission.specs.Rows.{IsCountable}
use Rattle.cqf_admission.proofs.ActiveCycleLemmas.{most_of_uses}
use Rattle.cqf_admission.specs.ActiveCycles.{SumsByCycle, most_at}
use Rattle.cqf_program_plans.proofs.CostsByActiveCycle.{beside_little, low_hop, none_more}
use Rattle.cqf_program_plans.specs.Latency.Output.{AreCosts, DomainTable}
use Rattle.cqf_program_plans.proofs.latency.costs.Costs.at_hop.Goals as goal

pub most_at-most-requires-clause-inside : goal.most_at-most-requires-clause-inside
most_at-most-requires-clause-inside c =
    let low = low_hop c.args.row.now.tree.items c.args.hop.now _ c.requires.of_tree c.requires.countable.inside in
    omega (arith, low, c.self.invariant.each.as_many, ap (λ (t : DomainTable). length t.domain.links) c.self.view_is)

-- the sum that is kept of the hop's link is what the rows cost of it beside the row
reported : (domain table : Domain) (rows : List Row) (costs : SumsByCycle) (row : Row) (hop : Hop) → AreCosts domain rows costs → Contains row.tree.items hop →
    IsCountable (length table.links) row → length domain.links ≡ length table.links →
    most_at costs hop.link row.pace hop.hop_number ≡ most_beside rows row.tree.items row.pace hop.link
reported domain table rows costs row hop are there countable same =
    let low = low_hop row.tree.items hop _ there countable.inside in
    let inside : hop.link < length domain.links = omega (arith, low, same) in
    most_of_uses costs row.tree.items row.pace hop (link_cost rows hop.link) countable.apart there (λ cycle below. are.each.each hop.link cycle inside)

pub prove-unreachable-requires : goal.prove-unreachable-requires
prove-unreachable-requires c =
    let row = c.args.row.now in
    let hop = c.args.hop.now in
    let rows = c.self.inside.rows.now in
    let d = c.self.inside.domain.now in
    none_more c.most_at-most.result 110000000 (most_beside rows row.tree.items row.pace hop.link)
    (c.most_at-most.ensures
    ∙ reported d c.args.self.now.domain rows c.self.inside.costs row hop c.self.invariant c.requires.of_tree c.requires.countable
    (ap (λ (t : DomainTable). length t.domain.links) c.self.view_is))
    (beside_little rows row.tree.items row.pace hop.link c.self.invariant.little) c.if-prove.true

pub returns : goal.returns
returns c =
    let row = c.args.row.now in
    let hop = c.args.hop.now in
    c.most_at-most.ensures
    ∙ reported c.self.inside.domain.now c.args.self.now.domain c.self.inside.rows.now c.self.inside.costs row hop c.self.invariant c.requires.of_tree
    c.requires.countable (ap (λ (t : DomainTable). length t.domain.links) c.self.view_is)
    ∙ ap (λ (t : DomainTable). most_beside t.rows row.tree.items row.pace hop.link) c.self.view_is
