use Rattle.std.proofs.Common.{◌≡◌, ◌∙◌, [], Option, Some, None, List, ℕ, ap, if◌then◌else◌, subst, sym, option_map}
use Rattle.std.specs.Option.{option_map_or}
use Rattle.std.proofs.lemmas.Option.{get_or_from_slice_get}
use Rattle.cqf_compile.proofs.Ends.{to_node}
use Rattle.cqf_model.specs.declared.topology.Link.{Link}
use Rattle.cqf_model.specs.declared.topology.Node.{Node}
use Rattle.cqf_model.specs.declared.topology.Node.TheVariants.{Station}
use Rattle.cqf_model.specs.Domain.{IsNode, end_of}
use Rattle.cqf_topology.specs.NodeNames.{name_of_node}
use Rattle.cqf_program_plans.specs.Latency.Text.{is_station}
use Rattle.cqf_program_plans.proofs.latency.listeners.listener_at.Goals as goal

pub station_name-requires : goal.station_name-requires
station_name-requires c =
    let d = c.args.domain.now in
    subst (IsNode d) c.in-Station.is (to_node d c.args.link c.link.result c.know.ensures.accepted c.link.ensures)

pub returns-in-Station : goal.returns-in-Station
returns-in-Station c =
    let d = c.args.domain.now in
    let reported : Option Node → Option (List ℕ) = λ o. if is_station o then Some (option_map_or (name_of_node d) o []) else None in
    let ends : end_of d c.args.link ≡ Some (Station c.in-Station.station) =
    ap (option_map (λ (link : Link). link.to)) c.link.ensures ∙ ap Some c.in-Station.is in
    ap Some (c.copied.ensures ∙ sym (get_or_from_slice_get d.stations c.in-Station.station c.station_name.result.now [] c.station_name.ensures))
    ∙ ap reported (sym ends)
