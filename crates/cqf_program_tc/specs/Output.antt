-- The result of the commands `compile --format tc` and `compile --format env` for their input: the script or the variable file, or the line
-- of the input's first fault.
use Rattle.cqf_model.specs.declared.limits.Limits.{Limits}
use Rattle.std.specs.Prelude.{ℕ, ◌≡◌, ◌<◌, ◌++◌, Bool, List, [], Option, Some, None, Result, Ok, Err, codes, length}
use Rattle.std.specs.Global.{Global}
use Rattle.std.specs.declared.vec.Vec.{Vec}
use Rattle.cqf_addressing.specs.Faults.{interfaces_line, stream_addresses_line}
use Rattle.cqf_addressing.specs.Links.{interfaces_of_text}
use Rattle.cqf_addressing.specs.Streams.{addresses_of_text, gate_index}
use Rattle.cqf_addressing.specs.declared.links.LinkInterfaces.{LinkInterfaces}
use Rattle.cqf_addressing.specs.declared.streams.StreamAddress.{StreamAddress}
use Rattle.cqf_lists.specs.Results.{and_then}
use Rattle.cqf_text.specs.Parts.{parts_of}
use Rattle.cqf_admission.specs.ActiveCycles.{AreOfGoodPaces}
use Rattle.cqf_model.specs.declared.topology.Node.{Node}
use Rattle.cqf_model.specs.declared.topology.Node.TheVariants.{Bridge, Station}
use Rattle.cqf_model.specs.declared.topology.Row.{Row}
use Rattle.cqf_model.specs.Domain.{Domain, node_named}
use Rattle.cqf_model.specs.History.{Asked, held_in}
use Rattle.cqf_output.specs.Stops.{fault_line, or_line}
use Rattle.cqf_program_plans.specs.Compile.Gated.{gated_rows}
use Rattle.cqf_program_plans.specs.Compile.Output.{admitted_from, compile_input}
use Rattle.cqf_program_scenario.specs.Parts.{two_parts}
use Rattle.cqf_program_tc.specs.Env.{env_text}
use Rattle.cqf_program_tc.specs.Rows.{AreByBridge}
use Rattle.cqf_program_tc.specs.Text.{tc_text}
use Rattle.cqf_program_tc.specs.Variables.{AreNamed}
use Rattle.cqf_program_tc.specs.Words.{gate_words}

-- a domain, the requested streams, and the interfaces and addresses of links and streams in real bridges
pub record Addressed : Type 0 where
  pub domain : Domain
  pub streams : List Asked
  pub interfaces : List LinkInterfaces
  pub addresses : List StreamAddress

-- the interfaces of links and the addresses of streams in two texts
abbrev pub keys_of : Limits → (List ℕ × List ℕ) → Result (List LinkInterfaces × List StreamAddress) (List ℕ)
keys_of limits parts =
    and_then (or_line interfaces_line (interfaces_of_text parts.0)) (λ interfaces.
    and_then (or_line stream_addresses_line (addresses_of_text limits parts.1)) (λ addresses. Ok (interfaces, addresses)))

-- an input with its keys, or the line of the first fault: first those that `compile` finds, then those of the keys of links and of streams
abbrev pub addressed_input : Limits → List ℕ → Result Addressed (List ℕ)
addressed_input limits input =
    and_then (compile_input limits input) (λ found.
    and_then (and_then (two_parts (parts_of input)) (keys_of limits)) (λ keys.
    Ok (record { domain = found.0; streams = found.1; interfaces = keys.0; addresses = keys.1 })))

-- the rows of an input's streams, all of them admitted before cycle 0, with gates at edge bridges alone or at all bridges; or the line of the
-- first stream that isn't admitted
abbrev pub rows_of : Bool → Addressed → Result (List Row) (List ℕ)
rows_of edge_gates found =
    and_then (admitted_from found.domain [] 1 found.streams) (λ entries. Ok (gated_rows edge_gates (held_in found.domain entries 0)))

-- the script for an input, or the line of its first fault
abbrev pub tc_of : Bool → Bool → Addressed → Result (List ℕ) (List ℕ)
tc_of software edge_gates found =
    and_then (rows_of edge_gates found) (λ rows. Ok (tc_text found.domain software (gate_index found.addresses) rows))

abbrev pub tc_of_input : Limits → Bool → Bool → List ℕ → Result (List ℕ) (List ℕ)
tc_of_input limits software edge_gates input = and_then (addressed_input limits input) (tc_of software edge_gates)

-- the variable file of a bridge for an input, or the line of its first fault; last, that the domain lacks the bridge
abbrev pub unknown_bridge : List ℕ → List ℕ
unknown_bridge name = fault_line (codes "compile") (codes "UnknownBridge " ++ name)

abbrev pub bridge_of_node : List ℕ → Option Node → Result ℕ (List ℕ)
bridge_of_node name None = Err (unknown_bridge name)
bridge_of_node name (Some (Bridge bridge)) = Ok bridge
bridge_of_node name (Some (Station station)) = Err (unknown_bridge name)

abbrev pub bridge_named : Domain → List ℕ → Result ℕ (List ℕ)
bridge_named d name = bridge_of_node name (node_named d name)

abbrev pub env_of : Bool → List ℕ → Addressed → Result (List ℕ) (List ℕ)
env_of edge_gates name found =
    and_then (rows_of edge_gates found) (λ rows.
    and_then (bridge_named found.domain name) (λ bridge.
    Ok (env_text found.domain found.interfaces found.addresses rows bridge)))

abbrev pub env_of_input : Limits → Bool → List ℕ → List ℕ → Result (List ℕ) (List ℕ)
env_of_input limits edge_gates name input = and_then (addressed_input limits input) (env_of edge_gates name)

-- a script and a bridge's variable file, before they are written
pub record TcScript : Type 0 where
  pub domain : Domain
  pub rows : List Row
  pub addresses : List StreamAddress
  pub software : Bool

pub record EnvFile : Type 0 where
  pub domain : Domain
  pub rows : List Row
  pub interfaces : List LinkInterfaces
  pub addresses : List StreamAddress
  pub bridge : ℕ

-- the text of each
abbrev pub text_of_tc : TcScript → List ℕ
text_of_tc script = tc_text script.domain script.software (gate_index script.addresses) script.rows

abbrev pub text_of_env : EnvFile → List ℕ
text_of_env file = env_text file.domain file.interfaces file.addresses file.rows file.bridge

-- the data of both outputs are ready: the rows' paces are good, it is known which of them leave each bridge, and links and streams have
-- their variables
pub record IsReadyPlan (d : Domain) (rows : List Row) (indices : List (List ℕ)) (links streams : List (Vec ℕ Global)) : Type 0 where
  pub paced : AreOfGoodPaces rows
  pub by_bridge : AreByBridge d rows indices
  pub named : AreNamed d rows links streams

-- the same for a script, with the words of each stream's gate
pub record IsReadyScript (d : Domain) (rows : List Row) (indices : List (List ℕ)) (links streams : List (Vec ℕ Global)) (gates : List ℕ) : Type 0 where
  pub plan : IsReadyPlan d rows indices links streams
  pub words : gates ≡ gate_words d.cycle_time

-- the same for the file of one of the domain's bridges
pub record IsReadyFile (d : Domain) (rows : List Row) (indices : List (List ℕ)) (links streams : List (Vec ℕ Global)) (bridge : ℕ) : Type 0 where
  pub plan : IsReadyPlan d rows indices links streams
  pub inside : bridge < length d.bridges
