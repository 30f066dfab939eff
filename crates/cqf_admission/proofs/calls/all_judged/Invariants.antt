use Rattle.std.proofs.Common.{◌≡◌, map, take}
use Rattle.cqf_admission.specs.Asking.{asked_paced, asked_shared}
use Rattle.cqf_admission.proofs.calls.all_judged.Given as goal

abbrev pub invariant-loop-position : goal.invariant-loop-position
invariant-loop-position l = map asked_shared l.copies.items ≡ map asked_paced (take l.position l.requests)
