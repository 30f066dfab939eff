use Rattle.std.proofs.Common.{◌∙◌, ◌&&◌, List, None, ap, sym, filter}
use Rattle.std.specs.List.{list_any}
use Rattle.cqf_lists.proofs.Any.{list_any-filter, list_any-map}
use Rattle.cqf_model.specs.declared.topology.Hop.{Hop}
use Rattle.cqf_model.specs.Domain.{leaves}
use Rattle.cqf_model.specs.Table.{same_ingress}
use Rattle.cqf_topology.proofs.beginning.begins_at.Goals as goal

pub returns : goal.returns
returns c =
    let hops = c.args.row.now.tree.items in
    let d = c.args.domain.now in
    c.one_begins.ensures
    ∙ ap (λ (xs : List Hop). list_any (λ (hop : Hop). same_ingress hop.from None && leaves d hop.link c.args.bridge) xs) c.as_slice.ensures.value
    ∙ sym (list_any-filter (λ (hop : Hop). leaves d hop.link c.args.bridge) (λ (hop : Hop). same_ingress hop.from None) hops)
    ∙ sym (list_any-map (λ l. leaves d l c.args.bridge) (λ (hop : Hop). hop.link) (filter (λ (hop : Hop). same_ingress hop.from None) hops))
