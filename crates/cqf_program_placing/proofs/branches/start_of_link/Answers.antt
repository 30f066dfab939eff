use Rattle.std.proofs.Common.{◌∙◌, [], ap, sym}
use Rattle.std.proofs.lemmas.Option.{get_or_from_slice_get}
use Rattle.cqf_topology.specs.NodeNames.{name_of_bridge}
use Rattle.cqf_program_placing.proofs.RouteLemmas.{bridge_of_link, from_node}
use Rattle.cqf_program_placing.proofs.branches.start_of_link.Goals as goal

pub bridge_name-requires : goal.bridge_name-requires
bridge_name-requires c = from_node c.args.domain.now c.args.link c.link.result c.know.ensures.accepted c.link.ensures

pub returns : goal.returns
returns c =
    let d = c.args.domain.now in
    c.copied.ensures ∙ sym (get_or_from_slice_get d.bridges c.link.result.from c.bridge_name.result.now [] c.bridge_name.ensures)
    ∙ ap (name_of_bridge d) (sym (bridge_of_link d c.args.link c.link.result c.link.ensures))
