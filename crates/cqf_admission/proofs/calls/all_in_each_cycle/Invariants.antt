use Rattle.std.proofs.Common.{◌≡◌, map, take}
use Rattle.cqf_admission.specs.Asking.{asked_of, asked_paced}
use Rattle.cqf_admission.proofs.calls.all_in_each_cycle.Given as goal

abbrev pub invariant-loop-request : goal.invariant-loop-request
invariant-loop-request l = map asked_paced l.copies.items ≡ map asked_of (take l.request-index l.requests)
