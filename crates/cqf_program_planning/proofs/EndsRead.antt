-- A stream that goes between its ends has both of them.
use Rattle.std.proofs.Common.{◌≡◌, ℕ, [], All, Bool, true, false, List, Option, Some, None, Result, Ok, Err, ok_or, refl, subst}
use Rattle.std.specs.Prelude.{if◌then◌else◌}
use Rattle.toml.specs.Data.{Data, Items, Members, as_array, as_str, as_table}
use Rattle.cqf_lists.specs.Results.{and_then}
use Rattle.cqf_topology.specs.declared.keys.Key.TheVariants as key
use Rattle.cqf_topology.specs.declared.toml_faults.TomlFault.{TomlFault}
use Rattle.cqf_topology.specs.declared.toml_faults.TomlFault.TheVariants as toml_fault
use Rattle.cqf_topology.specs.Fields.{are_tables, read_at, whole_document}
use Rattle.cqf_topology.specs.StreamsText.{streams_keys}
use Rattle.cqf_topology.specs.PlannedText.{deadline_from}
use Rattle.cqf_topology.proofs.Refusals.{and_then-Ok, each_from-All, refuse-Ok}
use Rattle.cqf_traffic.specs.declared.faults.FlowsFault.{FlowsFault}
use Rattle.cqf_traffic.specs.declared.faults.FlowsFault.TheVariants as flows_fault
use Rattle.cqf_traffic.specs.FlowsText.{or_streams, traffic_or}
use Rattle.cqf_network.specs.declared.talkers.Talker.{Talker}
use Rattle.cqf_network.specs.StreamsText.{Along, Between, StreamText, WantedText, branches_if, first_lack_of, listeners_read, octets_from, pacing_from, shortest_read}
use Rattle.cqf_network.specs.StreamsText.{network_streams_of_text, path_by, stream_from, streams_from, streams_in, streams_of_array, talker_read}
use Rattle.cqf_network.proofs.StreamParts.{each_stream, has_read}

-- the ends of a path between a talker and its listeners
pub record AreEnds (from : List ℕ) (to : List (List ℕ)) (talker : Option Talker) (listeners : Option (List (List ℕ))) : Type 0 where
  pub own : Talker
  pub is_talker : talker ≡ Some own
  pub node : own.node ≡ from
  pub are_listeners : listeners ≡ Some to

abbrev pub EndsOf : WantedText → Option Talker → Option (List (List ℕ)) → Type 0
EndsOf (Along paths) talker listeners = Unit {0}
EndsOf (Between from to) talker listeners = AreEnds from to talker listeners

abbrev pub HasEnds : StreamText → Type 0
HasEnds stream = EndsOf stream.path stream.talker stream.listeners

ends_by : (paths : Option (List (List (List ℕ)))) (talker : Option Talker) (listeners : Option (List (List ℕ))) (path : WantedText) →
    path_by paths talker listeners ≡ Ok path → EndsOf path talker listeners
ends_by (Some paths) talker listeners path e =
    let same : Along paths ≡ path = cc in subst (λ (w : WantedText). EndsOf w talker listeners) same tt
ends_by None None listeners path e = absurd cc
ends_by None (Some talker) None path e = absurd cc
ends_by None (Some talker) (Some to) path e =
    let same : Between talker.node to ≡ path = cc in
    subst (λ (w : WantedText). EndsOf w (Some talker) (Some to)) same (record { own = talker; is_talker = refl; node = refl; are_listeners = refl })

-- the streams of a text have both ends
pub streams_end : (text : List ℕ) (streams : List StreamText) → network_streams_of_text text ≡ Ok streams → All HasEnds streams
streams_end text =
    each_stream HasEnds (λ table stream lack read.
    let was = has_read table stream read in ends_by was.given stream.talker stream.listeners stream.path was.path) text
