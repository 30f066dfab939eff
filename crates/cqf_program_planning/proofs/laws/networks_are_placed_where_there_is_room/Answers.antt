use Rattle.cqf_program_planning.proofs.ReadNetworks.{networks_are_placed}
use Rattle.cqf_program_planning.proofs.laws.networks_are_placed_where_there_is_room.Goals as goal

pub returns : goal.returns
returns c = networks_are_placed c.placed_where_there_is_room.ensures
