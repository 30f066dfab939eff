use Rattle.std.proofs.Common.{◌≡◌, map, take}
use Rattle.cqf_admission.specs.Asking.{asked_paced}
use Rattle.cqf_program_offers.specs.Made.{script_text}
use Rattle.cqf_program_offers.proofs.calls.script_text.Given as goal

abbrev pub invariant-loop-request : goal.invariant-loop-request
invariant-loop-request l = l.text.items ≡ script_text (map asked_paced (take l.request-index l.requests))
