-- The hops so far have room.
use Rattle.std.proofs.Common.{◌≡◌, drop}
use Rattle.std.specs.List.{list_all}
use Rattle.cqf_model.specs.History.{held_in, seals}
use Rattle.cqf_program_placing.specs.Placing.{has_room_at}
use Rattle.cqf_program_placing.proofs.choosing.has_room_on.Given as goal

abbrev pub invariant-loop-hop : goal.invariant-loop-hop
invariant-loop-hop l =
    let has_room = has_room_at l.domain (held_in l.domain l.admission.entries (seals l.admission.entries)) l.cost l.pace in
    list_all has_room (drop l.hop-index l.tree) ≡ list_all has_room l.tree
