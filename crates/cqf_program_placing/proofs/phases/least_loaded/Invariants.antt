-- The first of the phases so far whose loads are the least.
use Rattle.cqf_model.specs.History.{held_in, seals}
use Rattle.cqf_program_placing.specs.ActiveCycles.{loads_with}
use Rattle.cqf_program_placing.proofs.Loads.{IsLeastSoFar}
use Rattle.cqf_program_placing.proofs.phases.least_loaded.Given as goal

abbrev pub invariant-loop-phase : goal.invariant-loop-phase
invariant-loop-phase l =
    let rows = held_in l.domain l.admission.entries (seals l.admission.entries) in
    IsLeastSoFar (loads_with l.domain rows l.cost l.every l.tree) l.phase l.first l.least.items
