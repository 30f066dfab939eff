use Rattle.std.proofs.Common.{◌≡◌, map, take}
use Rattle.cqf_admission.specs.Asking.{asked_paced, asked_shared}
use Rattle.cqf_admission.proofs.calls.all_shared.Given as goal

abbrev pub invariant-loop-request : goal.invariant-loop-request
invariant-loop-request l = map asked_shared l.copies.items ≡ map asked_paced (take l.request-index l.requests)
