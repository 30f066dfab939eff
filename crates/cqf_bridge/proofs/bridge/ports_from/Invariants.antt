use Rattle.std.specs.Prelude.{◌≡◌, map, [], ◌∷◌, if◌then◌else◌}
use Rattle.cqf_lists.specs.Lists.{each_below}
use Rattle.cqf_model.specs.Domain.{leaves}
use Rattle.cqf_bridge.specs.PortRecord.{new_record}
use Rattle.cqf_bridge.proofs.bridge.ports_from.Given as goal

abbrev pub invariant-loop-link : goal.invariant-loop-link
invariant-loop-link l = l.ports.items ≡ map (new_record l.plan) (each_below (λ k. if leaves l.plan k l.number then k ∷ [] else []) l.link)
