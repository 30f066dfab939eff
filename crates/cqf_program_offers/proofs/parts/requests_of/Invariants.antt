use Rattle.std.proofs.Common.{◌≡◌, map, take}
use Rattle.cqf_admission.specs.Asking.{asked_paced}
use Rattle.cqf_traffic.specs.FlowsText.{flow_text}
use Rattle.cqf_program_offers.specs.OffersOutput.{asked_in}
use Rattle.cqf_program_offers.proofs.parts.requests_of.Given as goal

abbrev pub invariant-loop-flow : goal.invariant-loop-flow
invariant-loop-flow l = map asked_paced l.requests.items ≡ map asked_in (map flow_text (take l.flow-index l.flows))
