use Rattle.std.specs.Prelude.{◌≡◌, take}
use Rattle.std.specs.List.{flat_map}
use Rattle.cqf_plain.specs.declared.driven.RunBridge.{RunBridge}
use Rattle.cqf_plain.proofs.handing.list_background.Given as goal

-- those of the first bridges are listed
abbrev pub invariant-loop-driven : goal.invariant-loop-driven
invariant-loop-driven l = l.here.items ≡ flat_map (λ (s : RunBridge). s.bridge.background) (take l.driven-index l.bridges)
