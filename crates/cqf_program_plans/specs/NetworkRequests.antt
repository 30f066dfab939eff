-- The requests of a part for a network: each stream reserves what its traffic needs of a cycle at its edge bridge.
use Rattle.std.specs.Prelude.{ℕ, List, Result, if◌then◌else◌}
use Rattle.cqf_lists.specs.Results.{and_then}
use Rattle.cqf_topology.specs.PacedText.{PacedText}
use Rattle.cqf_network.specs.NetworkDomain.{NetworkDomain}
use Rattle.cqf_program_scenario.specs.Networks.{domain_of}
use Rattle.cqf_program_plans.specs.Edges.{has_access, open_edges_of_part}
use Rattle.cqf_program_plans.specs.Reserving.{requests_at, requests_in}

-- the requests, or the line of the first fault: of the part, of the first stream whose talker or listeners don't fit, of the first access
-- link that is full, and of the first stream that reserves less than its traffic needs. If no station has an access link, deadlines aren't
-- read
abbrev pub requests_of_network : NetworkDomain → List ℕ → Result (List PacedText) (List ℕ)
requests_of_network network text =
    if has_access network
    then and_then (open_edges_of_part network text) (λ edge. requests_at (domain_of network) edge.flows)
    else requests_in (domain_of network) text
