-- The states of the entries so far.
use Rattle.std.proofs.Common.{◌≡◌, take, map}
use Rattle.cqf_model.specs.GateList.{Entry}
use Rattle.cqf_gates.proofs.transmission.states_of.Given as goal

abbrev pub invariant-loop-entry : goal.invariant-loop-entry
invariant-loop-entry l = l.states.items ≡ map (λ (entry : Entry). entry.0) (take l.entry-index l.entries)
