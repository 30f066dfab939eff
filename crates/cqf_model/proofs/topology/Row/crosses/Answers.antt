use Rattle.std.proofs.Common.{◌∙◌, ◌==◌, List, ap, sym}
use Rattle.std.specs.List.{list_any}
use Rattle.cqf_lists.proofs.Any.{list_any-map}
use Rattle.cqf_model.specs.declared.topology.Hop.{Hop}
use Rattle.cqf_model.proofs.topology.Row.crosses.Goals as goal

pub returns : goal.returns
returns c =
    c.has_link.ensures
    ∙ ap (λ (hops : List Hop). list_any (λ (hop : Hop). hop.link == c.args.link) hops) c.as_slice.ensures.value
    ∙ sym (list_any-map (λ k. k == c.args.link) (λ (hop : Hop). hop.link) c.args.self.now.tree.items)
