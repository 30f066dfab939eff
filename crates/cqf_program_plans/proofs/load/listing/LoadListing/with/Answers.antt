use Rattle.std.proofs.Common.{◌<◌, ◌∙◌, ℕ, List, ap, arith, length}
use Rattle.std.specs.List.{list_any}
use Rattle.cqf_lists.proofs.Any.{list_any-map}
use Rattle.cqf_model.specs.declared.topology.Row.{Row}
use Rattle.cqf_model.specs.Domain.{is_text}
use Rattle.cqf_topology.specs.DomainText.{is_among}
use Rattle.cqf_program_plans.proofs.Listed.{one_listed, room_for}
use Rattle.cqf_program_plans.proofs.load.listing.LoadListing.with.Goals as goal

pub add-requires : goal.add-requires
add-requires c =
    let rows : List Row = c.self.inside.rows.items in
    let row = c.args.row in
    ap (is_among row.name) c.self.invariant.are_names ∙ list_any-map (λ (other : List ℕ). is_text other row.name) (λ (other : Row). other.name) rows
    ∙ ap (λ (rs : List Row). list_any (λ (other : Row). is_text other.name row.name) rs) c.self.view_is ∙ c.requires.free

pub add_cost-requires-clause-room : goal.add_cost-requires-clause-room
add_cost-requires-clause-room c =
    let rows : List Row = c.self.inside.rows.items in
    let few : length rows < 16384 = omega (arith, c.requires.few, ap (λ (rs : List Row). length rs) c.self.view_is) in
    room_for c.self.inside.names.keys rows c.self.inside.held c.self.inside.crossing.items c.args.row c.self.invariant few c.requires.countable.octets
    c.requires.countable.overhead

pub invariant_of-result : goal.invariant_of-result
invariant_of-result c =
    let rows : List Row = c.self.inside.rows.items in
    let few : length rows < 16384 = omega (arith, c.requires.few, ap (λ (rs : List Row). length rs) c.self.view_is) in
    one_listed c.self.inside.names.keys rows c.self.inside.held c.self.inside.crossing.items c.args.row c.self.invariant few
    c.requires.countable.octets c.requires.countable.overhead _ _ _ _ c.in_ok-add.ensures.more c.in_ok-push.ensures.items c.add_cost.ensures c.add_where.ensures
