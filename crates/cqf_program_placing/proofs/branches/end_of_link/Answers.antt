use Rattle.std.proofs.Common.{◌∙◌, [], subst, sym}
use Rattle.std.proofs.lemmas.Option.{get_or_from_slice_get}
use Rattle.cqf_model.specs.declared.topology.Node.TheVariants.{Bridge, Station}
use Rattle.cqf_model.specs.Domain.{IsNode}
use Rattle.cqf_program_placing.proofs.RouteLemmas.{name_at_end, to_node}
use Rattle.cqf_program_placing.proofs.branches.end_of_link.Goals as goal

pub bridge_name-requires : goal.bridge_name-requires
bridge_name-requires c =
    let d = c.args.domain.now in
    subst (IsNode d) c.in-Bridge.is (to_node d c.args.link c.link.result c.know.ensures.accepted c.link.ensures)

pub station_name-requires : goal.station_name-requires
station_name-requires c =
    let d = c.args.domain.now in
    subst (IsNode d) c.in-Station.is (to_node d c.args.link c.link.result c.know.ensures.accepted c.link.ensures)

pub returns-in-Bridge : goal.returns-in-Bridge
returns-in-Bridge c =
    let d = c.args.domain.now in
    c.copied.ensures ∙ sym (get_or_from_slice_get d.bridges c.in-Bridge.bridge c.bridge_name.result.now [] c.bridge_name.ensures)
    ∙ sym (name_at_end d c.args.link c.link.result (Bridge c.in-Bridge.bridge) c.link.ensures c.in-Bridge.is)

pub returns-in-Station : goal.returns-in-Station
returns-in-Station c =
    let d = c.args.domain.now in
    c.copied-in-Station.ensures ∙ sym (get_or_from_slice_get d.stations c.in-Station.station c.station_name.result.now [] c.station_name.ensures)
    ∙ sym (name_at_end d c.args.link c.link.result (Station c.in-Station.station) c.link.ensures c.in-Station.is)
