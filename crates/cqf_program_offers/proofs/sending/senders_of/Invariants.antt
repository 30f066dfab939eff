use Rattle.std.proofs.Common.{◌≡◌, [], drop, map, take}
use Rattle.cqf_model.specs.declared.topology.Row.{Row}
use Rattle.cqf_program_plans.specs.Load.Output.{listed_from}
use Rattle.cqf_traffic.specs.FlowsText.{flow_text}
use Rattle.cqf_program_offers.specs.OffersOutput.{asked_in, sender_of}
use Rattle.cqf_program_offers.proofs.sending.senders_of.Given as goal

-- the rest is judged after those so far, which are seen as their talkers see them
abbrev pub invariant-loop-flow : goal.invariant-loop-flow
invariant-loop-flow l =
    (listed_from l.domain [] (map asked_in (map flow_text l.flows)) ≡ listed_from l.domain l.rows.items (map asked_in (map flow_text (drop l.flow-index l.flows))))
    × (l.names.keys ≡ map (λ (row : Row). row.name) l.rows.items)
    × (l.senders.items ≡ map (sender_of l.domain) (map flow_text (take l.flow-index l.flows)))
