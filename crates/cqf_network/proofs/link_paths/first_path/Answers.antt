use Rattle.cqf_model.specs.declared.topology.Node.TheVariants.{Bridge}
use Rattle.cqf_network.specs.Paths.{has_room}
use Rattle.cqf_network.proofs.PathLemmas.{first_into, none_into}
use Rattle.cqf_network.proofs.link_paths.first_path.Goals as goal

pub returns-in_err-found : goal.returns-in_err-found
returns-in_err-found c =
    rw c.from_residual.ensures
    (none_into c.args.room.links.now (has_room c.args.room.left.now c.args.room.cost) (Bridge c.args.from) c.args.to c.in_err-found.ensures.first)

pub returns : goal.returns
returns c =
    first_into c.args.room.links.now (has_room c.args.room.left.now c.args.room.cost) (Bridge c.args.from) c.args.to c.in_ok-found.found.end
    c.in_ok-found.found.path.items c.in_ok-found.ensures.first c.in_ok-found.ensures.short
