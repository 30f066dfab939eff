-- The network that a part means, and its domain: its bridges, and the links that begin at them.
use Rattle.std.specs.Prelude.{ℕ, List, Result, Ok}
use Rattle.cqf_lists.specs.Results.{and_then}
use Rattle.cqf_model.specs.Domain.{Domain}
use Rattle.cqf_model.specs.declared.limits.Limits.{Limits}
use Rattle.cqf_network.specs.NetworkDomain.{NetworkDomain, domain_at, network_of_text, open_cycle}
use Rattle.cqf_program_scenario.specs.Lines.{domain_line}
use Rattle.cqf_output.specs.Stops.{or_line}

-- the network of a part that is read within some limits, or the line of its first fault
abbrev pub network_of_part : Limits → List ℕ → Result NetworkDomain (List ℕ)
network_of_part limits text = or_line domain_line (network_of_text limits text)

-- the domain of a network whose cycle time isn't open: it has one candidate
abbrev pub domain_of : NetworkDomain → Domain
domain_of network = domain_at network (open_cycle network)

-- the domain of a part, or the line of its first fault
abbrev pub domain_of_part : Limits → List ℕ → Result Domain (List ℕ)
domain_of_part limits text = and_then (network_of_part limits text) (λ network. Ok (domain_of network))
