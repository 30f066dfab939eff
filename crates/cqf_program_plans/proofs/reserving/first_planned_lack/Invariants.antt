use Rattle.std.proofs.Common.{◌≡◌, ◌+◌, drop, map}
use Rattle.cqf_program_plans.specs.Reserving.{first_lack, planned_octets}
use Rattle.cqf_traffic.specs.FlowsText.{flow_text}
use Rattle.cqf_program_plans.proofs.reserving.first_planned_lack.Given as goal

-- the first lack is that of the remaining streams
abbrev pub invariant-loop-index : goal.invariant-loop-index
invariant-loop-index l =
    first_lack l.domain.overhead l.domain.cycle_time (l.index + 1) (map planned_octets (map flow_text (drop l.index l.flows)))
    ≡ first_lack l.domain.overhead l.domain.cycle_time 1 (map planned_octets (map flow_text l.flows))
