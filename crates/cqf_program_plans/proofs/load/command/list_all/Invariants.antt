use Rattle.std.proofs.Common.{◌≡◌, [], map, drop}
use Rattle.cqf_admission.specs.Asking.{asked_paced}
use Rattle.cqf_program_plans.specs.Load.Output.{listed_from}
use Rattle.cqf_program_plans.proofs.load.command.list_all.Given as goal

-- the rest is listed after those so far
abbrev pub invariant-loop-request : goal.invariant-loop-request
invariant-loop-request l =
    listed_from l.domain [] (map asked_paced l.requests) ≡ listed_from l.domain l.listing (map asked_paced (drop l.request-index l.requests))
