-- The result of the command `compile --format json` for its input: the object, or the line of the input's first fault.
use Rattle.std.specs.Prelude.{ℕ, Bool, List, [], Result, Ok}
use Rattle.cqf_lists.specs.Results.{and_then}
use Rattle.cqf_addressing.specs.declared.links.LinkInterfaces.{LinkInterfaces}
use Rattle.cqf_addressing.specs.declared.streams.StreamAddress.{StreamAddress}
use Rattle.cqf_addressing.specs.Faults.{interfaces_line, stream_addresses_line}
use Rattle.cqf_addressing.specs.Links.{interfaces_of_text}
use Rattle.cqf_addressing.specs.Streams.{addresses_of_text}
use Rattle.cqf_admission.specs.ActiveCycles.{AreOfGoodPaces}
use Rattle.cqf_model.specs.declared.limits.Limits.{Limits}
use Rattle.cqf_model.specs.declared.topology.Row.{Row}
use Rattle.cqf_model.specs.Domain.{Domain}
use Rattle.cqf_model.specs.History.{Asked, held_in}
use Rattle.cqf_output.specs.Stops.{or_line}
use Rattle.cqf_program_json.specs.Text.{json_text}
use Rattle.cqf_program_plans.specs.Compile.Gated.{gated_rows}
use Rattle.cqf_program_plans.specs.Compile.Output.{admitted_from, compile_input}
use Rattle.cqf_program_scenario.specs.Parts.{two_parts}
use Rattle.cqf_program_tc.specs.Rows.{AreByBridge}
use Rattle.cqf_text.specs.Parts.{parts_of}

-- a domain, the rows of its streams, their addresses, and the interfaces of its links
pub record AddressedPlan : Type 0 where
  pub domain : Domain
  pub rows : List Row
  pub addresses : List StreamAddress
  pub links : List LinkInterfaces

-- the text of an output
abbrev pub text_of_json : AddressedPlan → List ℕ
text_of_json plan = json_text plan.domain plan.addresses plan.links plan.rows

-- the interfaces of links in a domain's text, and the addresses of streams in a streams text, or the line of the first fault
abbrev pub addressing_of : Limits → List ℕ → List ℕ → Result (List LinkInterfaces × List StreamAddress) (List ℕ)
addressing_of limits domain_text streams_text =
    and_then (or_line interfaces_line (interfaces_of_text domain_text)) (λ links.
    and_then (or_line stream_addresses_line (addresses_of_text limits streams_text)) (λ addresses.
    Ok (links, addresses)))

-- the object of a domain with all of these streams admitted before cycle 0 and the addressing of both texts, with stream gates at edge bridges
-- alone or at all bridges; or the line of the first fault
abbrev pub json_of : Limits → Bool → Domain → List Asked → List ℕ → List ℕ → Result (List ℕ) (List ℕ)
json_of limits edge_gates d streams domain_text streams_text =
    and_then (admitted_from d [] 1 streams) (λ entries.
    and_then (addressing_of limits domain_text streams_text) (λ addressing.
    Ok (json_text d addressing.1 addressing.0 (gated_rows edge_gates (held_in d entries 0)))))

-- the object of an input, or the line of its first fault: first those that `compile` finds, then those of its interfaces and addresses
abbrev pub json_of_input : Limits → Bool → List ℕ → Result (List ℕ) (List ℕ)
json_of_input limits edge_gates input =
    and_then (two_parts (parts_of input)) (λ parts.
    and_then (compile_input limits input) (λ found.
    json_of limits edge_gates found.0 found.1 parts.0 parts.1))

-- the object can be written: the rows' paces are good, and it is known which of them leave each bridge
pub record IsReadyObject (d : Domain) (rows : List Row) (indices : List (List ℕ)) : Type 0 where
  pub paced : AreOfGoodPaces rows
  pub by_bridge : AreByBridge d rows indices
