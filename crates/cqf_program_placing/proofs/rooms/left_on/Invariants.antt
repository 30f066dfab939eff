-- The most that is left in the phases so far.
use Rattle.std.proofs.Common.{◌≡◌, ◌∷◌, [], fold, max}
use Rattle.cqf_lists.specs.Lists.{each_below}
use Rattle.cqf_admission.specs.Costs.{left_in_active_cycles}
use Rattle.cqf_model.specs.History.{held_in, seals}
use Rattle.cqf_program_placing.specs.ActiveCycles.{hop_at, pace_by}
use Rattle.cqf_program_placing.proofs.rooms.left_on.Given as goal

abbrev pub invariant-loop-phase : goal.invariant-loop-phase
invariant-loop-phase l =
    let rows = held_in l.domain l.admission.entries (seals l.admission.entries) in
    l.most ≡ fold max 0 (each_below (λ p. left_in_active_cycles l.domain rows (pace_by l.every p) (hop_at l.link) ∷ []) l.phase)
