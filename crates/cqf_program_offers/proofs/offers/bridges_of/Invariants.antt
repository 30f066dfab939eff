use Rattle.std.proofs.Common.{◌≡◌, map, take}
use Rattle.cqf_traffic.specs.FlowsText.{flow_text}
use Rattle.cqf_program_offers.specs.Made.{bridges_of}
use Rattle.cqf_program_offers.proofs.offers.bridges_of.Given as goal

abbrev pub invariant-loop-flow : goal.invariant-loop-flow
invariant-loop-flow l = l.most ≡ bridges_of (map flow_text (take l.flow-index l.flows))
