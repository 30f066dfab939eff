use Rattle.std.proofs.Common.{◌∙◌, ◌==◌, ◌&&◌, List, ap, sym, filter}
use Rattle.std.specs.List.{list_any}
use Rattle.cqf_lists.proofs.Any.{list_any-filter, list_any-map}
use Rattle.cqf_model.specs.declared.topology.Hop.{Hop}
use Rattle.cqf_model.specs.Table.{same_ingress}
use Rattle.cqf_model.proofs.topology.Row.goes_on_by.Goals as goal

pub returns : goal.returns
returns c =
    let hops = c.args.self.now.tree.items in
    c.leads_on.ensures
    ∙ ap (λ (xs : List Hop). list_any (λ (hop : Hop). same_ingress hop.from c.args.ingress && (hop.link == c.args.link)) xs) c.as_slice.ensures.value
    ∙ sym (list_any-filter (λ (hop : Hop). hop.link == c.args.link) (λ (hop : Hop). same_ingress hop.from c.args.ingress) hops)
    ∙ sym (list_any-map (λ k. k == c.args.link) (λ (hop : Hop). hop.link) (filter (λ (hop : Hop). same_ingress hop.from c.args.ingress) hops))
