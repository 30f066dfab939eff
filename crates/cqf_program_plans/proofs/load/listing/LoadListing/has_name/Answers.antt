use Rattle.std.proofs.Common.{◌∙◌, ℕ, List, ap}
use Rattle.std.specs.List.{list_any}
use Rattle.cqf_lists.proofs.Any.{list_any-map}
use Rattle.cqf_model.specs.declared.topology.Row.{Row}
use Rattle.cqf_model.specs.Domain.{is_text}
use Rattle.cqf_topology.specs.DomainText.{is_among}
use Rattle.cqf_program_plans.proofs.load.listing.LoadListing.has_name.Goals as goal

pub returns : goal.returns
returns c =
    let rows : List Row = c.self.inside.rows.items in
    let name = c.args.name.now in
    c.contains.ensures ∙ ap (is_among name) c.self.invariant.are_names
    ∙ list_any-map (λ (other : List ℕ). is_text other name) (λ (row : Row). row.name) rows
    ∙ ap (λ (rs : List Row). list_any (λ (row : Row). is_text row.name name) rs) c.self.view_is
