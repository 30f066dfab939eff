-- What the links so far have left.
use Rattle.std.proofs.Common.{◌≡◌, ◌∷◌, []}
use Rattle.cqf_lists.specs.Lists.{each_below}
use Rattle.cqf_model.specs.History.{held_in, seals}
use Rattle.cqf_program_placing.specs.ActiveCycles.{left_emptiest}
use Rattle.cqf_program_placing.proofs.rooms.lefts.Given as goal

abbrev pub invariant-loop-link : goal.invariant-loop-link
invariant-loop-link l =
    l.left.items ≡ each_below (λ k. left_emptiest l.domain (held_in l.domain l.admission.entries (seals l.admission.entries)) l.every k ∷ []) l.link
