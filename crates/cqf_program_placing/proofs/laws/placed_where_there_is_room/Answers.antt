use Rattle.cqf_program_placing.proofs.RoomLemmas.{placed_by_room}
use Rattle.cqf_program_placing.proofs.laws.placed_where_there_is_room.Goals as goal

pub returns : goal.returns
returns c =
    let history = c.state_follows_history.ensures in
    let link_paths = c.first_paths_are_a_tree.ensures in
    placed_by_room history.goes_on history.counted history.granted history.refused link_paths.one link_paths.no_loop link_paths.part
