-- What the text of a network file's domain says, before any check whether such a network can exist.
use Rattle.std.specs.Prelude.{ℕ, List, [], ◌∷◌, ◌&&◌, Bool, false, if◌then◌else◌, codes, length, nat_le, Option, Some, None, ok_or, Result, Ok, Err}
use Rattle.toml.specs.Data.{Data, Items, Members, as_array, as_bool, as_table, get_member}
use Rattle.cqf_lists.specs.Results.{and_then}
use Rattle.cqf_model.specs.declared.limits.Limits.{Limits}
use Rattle.cqf_topology.specs.declared.keys.Key.{Key}
use Rattle.cqf_topology.specs.declared.keys.Key.TheVariants.{Cycle, Guard, Bridges, Stations, Links, From, To}
use Rattle.cqf_topology.specs.declared.toml_faults.TomlFault.{TomlFault}
use Rattle.cqf_topology.specs.declared.toml_faults.TomlFault.TheVariants.{BadValue}
use Rattle.cqf_topology.specs.Fields.{are_tables, each_from, name_from, names_at, number_from, read_at, value_at, whole_document}
use Rattle.cqf_topology.specs.DomainText.{domain_keys, if_some, link_keys, overhead_from, sync_from}
use Rattle.cqf_topology.specs.LinkTimes.{times_read}
use Rattle.cqf_network.specs.declared.draft.NetworkLink.{NetworkLink}
use Rattle.cqf_network.specs.declared.draft.OneDirection.{OneDirection}
use Rattle.cqf_network.specs.declared.faults.NetworkFault.{NetworkFault}
use Rattle.cqf_network.specs.declared.faults.NetworkFault.TheVariants.{BadDuplex, BadOther}
use Rattle.cqf_network.specs.Faults.{or_network, network_fault}

-- the domain of a network file as its text says it: the candidates for its cycle time in the order of preference, times
-- in nanoseconds, names, and links by the names of their ends; and the limits within which it is read
pub record NetworkText : Type 0 where
  pub limits : Limits
  pub candidates : List ℕ
  pub guard : ℕ
  pub sync : ℕ
  pub overhead : ℕ
  pub bridges : List (List ℕ)
  pub stations : List (List ℕ)
  pub links : List NetworkLink

-- the required keys, in reading order. If candidates are given, `cycle` isn't read
abbrev pub network_keys : Option (List ℕ) → List Key
network_keys None = domain_keys
network_keys (Some given) = Guard ∷ Bridges ∷ Stations ∷ Links ∷ []

-- one cycle time, and a list of them
abbrev pub cycle_from : Data → Option ℕ
cycle_from d = number_from 10000 10000000 d

abbrev pub cycles_from : Items → Result (List ℕ) TomlFault
cycles_from items = each_from (λ d. ok_or (cycle_from d) (BadValue Cycle)) items

-- checks that there are 1 to 1,000
abbrev pub some_few : List ℕ → Result (List ℕ) TomlFault
some_few cycles = if nat_le 1 (length cycles) && nat_le (length cycles) 1000 then Ok cycles else Err (BadValue Cycle)

-- the candidates of a value: one cycle time, or an array of them
abbrev pub candidates_by : Option Items → Data → Result (List ℕ) TomlFault
candidates_by None d = and_then (ok_or (cycle_from d) (BadValue Cycle)) (λ cycle. Ok (cycle ∷ []))
candidates_by (Some items) d = and_then (cycles_from items) some_few

abbrev pub candidates_from : Data → Result (List ℕ) TomlFault
candidates_from d = candidates_by (as_array d) d

-- the candidates of a domain's table; given candidates replace them
abbrev pub candidates_of : Option Data → Result (List ℕ) TomlFault
candidates_of None = Err (BadValue Cycle)
candidates_of (Some d) = candidates_from d

abbrev pub candidates_read : Option (List ℕ) → Members → Result (List ℕ) TomlFault
candidates_read None table = candidates_of (value_at Cycle table)
candidates_read (Some given) table = Ok given

-- whether a link has both directions
abbrev pub duplex_by : Option Data → Result Bool NetworkFault
duplex_by None = Ok false
duplex_by (Some d) = ok_or (as_bool d) BadDuplex

abbrev pub duplex_at : Members → Result Bool NetworkFault
duplex_at table = duplex_by (get_member (codes "duplex") table)

-- the greatest size of a frame of no stream that the station of an access link sends: 64 to 1,522 octets; none if the text doesn't give it
abbrev pub other_by : Option Data → Result (Option ℕ) NetworkFault
other_by None = Ok None
other_by (Some d) = and_then (ok_or (number_from 64 1522 d) BadOther) (λ octets. Ok (Some octets))

abbrev pub other_at : Members → Result (Option ℕ) NetworkFault
other_at table = other_by (get_member (codes "other") table)

-- a link's table: its written direction, whether it also has the opposite one, and what its station may send beside streams
abbrev pub one_direction_read : Members → Result OneDirection TomlFault
one_direction_read table =
    and_then (read_at From name_from table) (λ from.
    and_then (read_at To name_from table) (λ to.
    and_then (times_read table) (λ times.
    Ok (record { from = from; to = to; times = times }))))

abbrev pub link_read : Members → Result NetworkLink NetworkFault
link_read table =
    and_then (or_network (one_direction_read table)) (λ there.
    and_then (duplex_at table) (λ duplex.
    and_then (other_at table) (λ other.
    Ok (record { there = there; duplex = duplex; other = other }))))

-- the elements of the array of links; each must be a table
abbrev pub links_from : Items → Result (List NetworkLink) NetworkFault
links_from items = each_from (λ d. and_then (ok_or (as_table d) (network_fault (BadValue Links))) link_read) items

abbrev pub links_of_array : Items → Result (List NetworkLink) NetworkFault
links_of_array items = if are_tables items then links_from items else Err (network_fault (BadValue Links))

abbrev pub links_read : Members → Result (List NetworkLink) NetworkFault
links_read table = and_then (or_network (read_at Links as_array table)) links_of_array

-- a domain's table, with these cycle times in place of its own
abbrev pub network_with_cycles : Limits → Members → List ℕ → Result NetworkText NetworkFault
network_with_cycles limits table candidates =
    and_then (or_network (read_at Guard (number_from 1 10000000) table)) (λ guard.
    and_then (or_network (sync_from table)) (λ sync.
    and_then (or_network (overhead_from table)) (λ overhead.
    and_then (or_network (and_then (names_at Bridges table) (if_some Bridges))) (λ bridges.
    and_then (or_network (names_at Stations table)) (λ stations.
    and_then (links_read table) (λ links.
    Ok (record {
      limits = limits;
      candidates = candidates;
      guard = guard;
      sync = sync;
      overhead = overhead;
      bridges = bridges;
      stations = stations;
      links = links;
    })))))))

-- a domain's table, whose cycle time may be open
abbrev pub draft_from : Limits → Option (List ℕ) → Members → Result NetworkText NetworkFault
draft_from limits given table = and_then (or_network (candidates_read given table)) (network_with_cycles limits table)

-- a domain's table, whose cycle time isn't open
abbrev pub one_from : Limits → Members → Result NetworkText NetworkFault
one_from limits table =
    and_then (or_network (read_at Cycle (number_from 10000 10000000) table)) (λ cycle. network_with_cycles limits table (cycle ∷ []))

-- what the domain of a network file's text says, or the first fault of reading it
abbrev pub draft_of_text : Limits → Option (List ℕ) → List ℕ → Result NetworkText NetworkFault
draft_of_text limits given text = and_then (or_network (whole_document (network_keys given) Links link_keys text)) (draft_from limits given)

-- what the text of a domain says whose cycle time isn't open, or the first fault of reading it
abbrev pub one_of_text : Limits → List ℕ → Result NetworkText NetworkFault
one_of_text limits text = and_then (or_network (whole_document domain_keys Links link_keys text)) (one_from limits)
