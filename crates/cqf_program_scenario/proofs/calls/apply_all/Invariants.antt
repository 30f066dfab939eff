-- The calls so far are made, and there is room for the rest.
use Rattle.std.proofs.Common.{◌≡◌, drop, map}
use Rattle.cqf_admission.specs.Script.{called_of}
use Rattle.cqf_program_scenario.specs.Calls.{HasRoom, with_calls}
use Rattle.cqf_program_scenario.proofs.calls.apply_all.Given as goal

abbrev pub invariant-loop-call : goal.invariant-loop-call
invariant-loop-call l =
    (l.admission.domain ≡ l.fn.admission.domain)
    × (with_calls l.fn.admission.domain l.admission.entries (map called_of (drop l.call-index l.calls))
    ≡ with_calls l.fn.admission.domain l.fn.admission.entries (map called_of l.fn.calls))
    × HasRoom l.cycles l.admission.entries (map called_of (drop l.call-index l.calls))
