-- The links so far.
use Rattle.std.proofs.Common.{◌≡◌, map, take}
use Rattle.cqf_program_plans.specs.Load.Access.{unloaded}
use Rattle.cqf_program_plans.proofs.load.access.all_unloaded.Given as goal

abbrev pub invariant-loop-link : goal.invariant-loop-link
invariant-loop-link l = l.loads.items ≡ map (unloaded l.network l.cycle_time.0) (take l.link-index l.links)
