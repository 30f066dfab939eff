-- For the values of `every` so far, what links have left is recomputed.
use Rattle.cqf_model.specs.History.{held_in, seals}
use Rattle.cqf_model.specs.Table.{links_in}
use Rattle.cqf_program_placing.proofs.Known.{AreSoFar}
use Rattle.cqf_program_placing.proofs.rooms.Rooms.renew.Given as goal

abbrev pub invariant-loop-emptiest : goal.invariant-loop-emptiest
invariant-loop-emptiest l =
    AreSoFar l.domain (held_in l.domain l.admission.entries (seals l.admission.entries)) (links_in l.tree) l.emptiest-index l.fn.self.known.items l.emptiest-items
