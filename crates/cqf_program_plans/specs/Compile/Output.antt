-- The result of the command `compile` for its input: the configuration of a domain and its streams, or the line of the input's first fault.
use Rattle.cqf_program_scenario.specs.Networks.{domain_of, network_of_part}
use Rattle.cqf_program_plans.specs.NetworkRequests.{requests_of_network}
use Rattle.cqf_network.specs.NetworkDomain.{NetworkDomain}
use Rattle.cqf_model.specs.declared.limits.Limits.{Limits}
use Rattle.std.specs.Prelude.{ℕ, ◌≡◌, ◌≤◌, ◌+◌, ◌++◌, Bool, codes, decimal, length, List, [], ◌∷◌, map, Result, Ok}
use Rattle.cqf_model.specs.declared.topology.Row.{Row}
use Rattle.cqf_model.specs.Domain.{Domain}
use Rattle.cqf_model.specs.History.{Admits, Asked, Recorded, held_in, IsLegalHistory, refusal_of, reply_to, seals}
use Rattle.cqf_text.specs.Parts.{parts_of}
use Rattle.cqf_lists.specs.Results.{and_then, refuse}
use Rattle.cqf_laws_history.specs.StateLaws.{with_entry}
use Rattle.cqf_admission.specs.Admission.{Administration}
use Rattle.cqf_admission.specs.Asking.{asked_by}
use Rattle.cqf_compile.specs.ConfigText.{config_text}
use Rattle.cqf_program_plans.specs.Compile.Gated.{gated_rows}
use Rattle.cqf_program_scenario.specs.Parts.{two_parts}
use Rattle.cqf_model.specs.Refusals.{text_of_refusal}
use Rattle.cqf_model.specs.declared.history.Refused.{Refused}
use Rattle.cqf_output.specs.Stops.{line_of}
use Rattle.cqf_model.specs.Limits.{most_streams}

-- the line for a stream that isn't admitted, by its position among the streams, from 1
abbrev pub stream_line : ℕ → Refused → List ℕ
stream_line index refused = line_of (codes "cqf: stream " ++ (decimal index ++ (codes ": " ++ text_of_refusal refused)))

-- the history with a request for a stream by seat 0, and its due answer
abbrev pub with_asked : Domain → List Recorded → Asked → List Recorded
with_asked d entries asked = with_entry entries 0 (Admits asked) (reply_to d entries (Admits asked))

-- the history with streams admitted in turn, the first of them at this position; or the line of the first stream that is refused
abbrev pub admitted_from : Domain → List Recorded → ℕ → List Asked → Result (List Recorded) (List ℕ)
admitted_from d entries index [] = Ok entries
admitted_from d entries index (asked ∷ more) =
    refuse (refusal_of d (held_in d entries (seals entries)) asked) (stream_line index) (admitted_from d (with_asked d entries asked) (index + 1) more)

-- the domain of a network and the streams of a part for it, or the line of the part's first fault: of the streams, of the first that doesn't
-- enter as its text says, of the first access link that is full, and of the first stream that reserves less than its traffic needs
abbrev pub plan_of_network : NetworkDomain → List ℕ → Result (Domain × List Asked) (List ℕ)
plan_of_network network text = and_then (requests_of_network network text) (λ requests. Ok (domain_of network, map asked_by requests))

-- the domain and the streams of an input, or the line of the first fault: of the parts, then of the domain, then of the
-- streams
abbrev pub compile_input : Limits → List ℕ → Result (Domain × List Asked) (List ℕ)
compile_input limits input = and_then (two_parts (parts_of input)) (λ parts.
    and_then (network_of_part limits parts.0) (λ network. plan_of_network network parts.1))

-- the configuration of a domain with all of these streams admitted before cycle 0, with stream gates only at edge bridges, or at all
-- bridges
abbrev pub configuration_of : Bool → Domain → List Asked → Result (List ℕ) (List ℕ)
configuration_of edge_gates d streams =
    and_then (admitted_from d [] 1 streams) (λ entries. Ok (config_text d (gated_rows edge_gates (held_in d entries 0))))

-- the configuration for an input, or the line of its first fault
abbrev pub compiled_input : Limits → Bool → List ℕ → Result (List ℕ) (List ℕ)
compiled_input limits edge_gates input = and_then (compile_input limits input) (λ found. configuration_of edge_gates found.0 found.1)

-- a history that only grants admissions: no Seal, one held stream for each entry, and at most 16,384 entries
pub record AreAllHeld (d : Domain) (entries : List Recorded) : Type 0 where
  pub legal : IsLegalHistory d entries
  pub no_seal : seals entries ≡ 0
  pub one_each : length (held_in d entries 0) ≡ length entries
  pub few : length entries ≤ most_streams

-- an administration of a domain with all of its streams held from cycle 0 on, and their rows
pub record ArePlanned (d : Domain) (administration : Administration) (rows : List Row) : Type 0 where
  pub domain : administration.domain ≡ d
  pub all : AreAllHeld d administration.entries
  pub held : rows ≡ held_in d administration.entries 0

-- the rows are those of all of these streams, which were admitted before cycle 0, in the table of that cycle
pub record HoldsAll (d : Domain) (streams : List Asked) (rows : List Row) : Type 0 where
  pub entries : List Recorded
  pub admitted : admitted_from d [] 1 streams ≡ Ok entries
  pub held : rows ≡ held_in d entries 0
