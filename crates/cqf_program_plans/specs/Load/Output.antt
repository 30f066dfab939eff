-- The result of the command `load` for its input: what each link holds of the streams and has left, or the line of the input's first fault.
use Rattle.cqf_model.specs.declared.limits.Limits.{Limits}
use Rattle.std.specs.Prelude.{ℕ, ◌+◌, ◌++◌, List, [], ◌∷◌, Option, Result, Ok, if◌then◌else◌, length, map}
use Rattle.cqf_lists.specs.Results.{and_then, refuse}
use Rattle.cqf_model.specs.declared.topology.Row.{Row}
use Rattle.cqf_model.specs.Domain.{Domain}
use Rattle.cqf_model.specs.History.{Asked}
use Rattle.cqf_model.specs.Limits.{most_reserved}
use Rattle.cqf_text.specs.Parts.{parts_of}
use Rattle.cqf_admission.specs.Asking.{asked_by}
use Rattle.cqf_network.specs.NetworkDomain.{NetworkDomain}
use Rattle.cqf_edge.specs.EdgeFlows.{EdgeFlowsText}
use Rattle.cqf_edge.specs.declared.uses.Handed.{Handed}
use Rattle.cqf_program_scenario.specs.Networks.{domain_of, network_of_part}
use Rattle.cqf_program_scenario.specs.Parts.{two_parts}
use Rattle.cqf_program_plans.specs.declared.load.access.AccessLoad.{AccessLoad}
use Rattle.cqf_program_plans.specs.declared.load.shares.AccessShare.{AccessShare}
use Rattle.cqf_program_plans.specs.Compile.Output.{stream_line}
use Rattle.cqf_program_plans.specs.Edges.{edges_of_part, has_access}
use Rattle.cqf_program_plans.specs.Load.Access.{access_loads, most_taken}
use Rattle.cqf_program_plans.specs.Load.Written.{text_of_load}
use Rattle.cqf_program_plans.specs.Load.Streams.{StreamLoads, access_shares, greatest_first, text_of_streams}
use Rattle.cqf_program_plans.specs.Reserving.{requests_at, requests_in}
use Rattle.cqf_program_plans.specs.Load.Listing.{listed_row, listing_refusal}

-- the rows with streams listed after them in turn, each judged as if those before it had been accepted; or the line of the first stream
-- that is refused. Whether links have room doesn't matter
abbrev pub listed_from : Domain → List Row → List Asked → Result (List Row) (List ℕ)
listed_from d rows [] = Ok rows
listed_from d rows (asked ∷ more) =
    refuse (listing_refusal d rows asked) (stream_line (length rows + 1)) (listed_from d (rows ++ listed_row d rows asked ∷ []) more)

-- what is read: a domain, what its streams take of access links, what each hands to one, and what they request
pub record LoadedInput : Type 0 where
  pub domain : Domain
  pub access : List AccessLoad
  pub handed : List (Option Handed)
  pub streams : List Asked

-- what is read of a network in which a station has an access link. An access link may be full, since `load` shows how full it is
abbrev pub loaded_from : NetworkDomain → EdgeFlowsText → Result LoadedInput (List ℕ)
loaded_from network edge = and_then (requests_at (domain_of network) edge.flows) (λ requests. Ok (record {
  domain = domain_of network;
  access = access_loads network (domain_of network).cycle_time edge.handed edge.flows;
  handed = edge.handed;
  streams = map asked_by requests;
}))

abbrev pub loaded_by_access : NetworkDomain → List ℕ → Result LoadedInput (List ℕ)
loaded_by_access network text = and_then (edges_of_part network text) (loaded_from network)

-- what is read of a network in which no station has an access link
abbrev pub loaded_without : Domain → List ℕ → Result LoadedInput (List ℕ)
loaded_without d text = and_then (requests_in d text) (λ requests. Ok (record { domain = d; access = []; handed = []; streams = map asked_by requests }))

-- what is read of a network, and a part for it
abbrev pub loaded_network : NetworkDomain → List ℕ → Result LoadedInput (List ℕ)
loaded_network network text = if has_access network then loaded_by_access network text else loaded_without (domain_of network) text

-- what is read of an input, or the line of its first fault: of the parts, of the domain, of the streams, or of the first that doesn't enter
-- as its text says or reserves less than its traffic needs
abbrev pub load_input : Limits → List ℕ → Result LoadedInput (List ℕ)
load_input limits input = and_then (two_parts (parts_of input)) (λ parts.
    and_then (network_of_part limits parts.0) (λ network. loaded_network network parts.1))

-- the text for what is read, or the line of the first stream that isn't listed
abbrev pub load_of : LoadedInput → Result (List ℕ) (List ℕ)
load_of found = and_then (listed_from found.domain [] found.streams) (λ rows.
    Ok (text_of_load (record { domain = found.domain; rows = rows; access = found.access })))

-- the text for an input, or the line of its first fault
abbrev pub loaded_input : Limits → List ℕ → Result (List ℕ) (List ℕ)
loaded_input limits input = and_then (load_input limits input) load_of

-- what each stream takes of each link, from what is read. On a link the stream that reserves the most is first, and on an access link the
-- stream that takes the most. Equal ones are in the order of the text
abbrev pub stream_loads : LoadedInput → List Row → StreamLoads
stream_loads found rows = record {
  domain = found.domain;
  rows = greatest_first most_reserved (λ (row : Row). row.octets) rows;
  access = found.access;
  shares = greatest_first most_taken (λ (share : AccessShare). share.taken) (access_shares found.domain.overhead found.domain.cycle_time found.handed rows);
}

-- the text of `load --streams` for what is read, or the line of the first stream that isn't listed
abbrev pub streams_of : LoadedInput → Result (List ℕ) (List ℕ)
streams_of found = and_then (listed_from found.domain [] found.streams) (λ rows. Ok (text_of_streams (stream_loads found rows)))

-- the text of `load --streams` for an input, or the line of its first fault
abbrev pub loaded_streams : Limits → List ℕ → Result (List ℕ) (List ℕ)
loaded_streams limits input = and_then (load_input limits input) streams_of
