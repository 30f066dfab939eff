-- The domain that a text describes, or the first fault of the text.
use Rattle.std.specs.Prelude.{ℕ, ◌≡◌, ◌<◌, ◌≤◌, ◌≢◌, List, [], ◌∷◌, ◌++◌, ◌==◌, ◌&&◌, ◌||◌, Bool, true, false, if◌then◌else◌, length}
use Rattle.std.specs.Prelude.{nat_le, nat_lt, position, slice_get, AllPairs, Option, Some, None, ok_or, Result, Ok, Err, All, IsTrue}
use Rattle.std.specs.List.{list_any}
use Rattle.std.specs.Option.{unwrap_or}
use Rattle.toml.specs.Data.{Members}
use Rattle.cqf_units.specs.Name.{is_name}
use Rattle.cqf_model.specs.declared.topology.Link.{Link}
use Rattle.cqf_model.specs.declared.topology.Node.{Node}
use Rattle.cqf_model.specs.declared.topology.Node.TheVariants.{Bridge}
use Rattle.cqf_model.specs.Domain.{Domain, IsAccepted, is_text, node_or, same_node}
use Rattle.cqf_topology.specs.declared.draft.DraftLink.{DraftLink}
use Rattle.cqf_topology.specs.declared.keys.Key.{Key}
use Rattle.cqf_topology.specs.declared.keys.Key.TheVariants.{Cycle, Guard, Sync, GateOverhead, Bridges, Stations, Links, From, To, Rate, Delay}
use Rattle.cqf_topology.specs.declared.times.LinkTimes.{LinkTimes}
use Rattle.cqf_topology.specs.declared.toml_faults.TomlFault.{TomlFault}
use Rattle.cqf_topology.specs.declared.toml_faults.TomlFault.TheVariants as early
use Rattle.cqf_topology.specs.declared.faults.DomainFault.{DomainFault}
use Rattle.cqf_topology.specs.declared.faults.DomainFault.TheVariants as fault
use Rattle.cqf_lists.specs.Results.{and_then, refuse}
use Rattle.cqf_topology.specs.Fields.{and_first, whole_document, read_at, tables_of_key, number_from, number_if, name_from, names_at}
use Rattle.cqf_topology.specs.LinkTimes.{AreReadTimes, has_long_delay, has_long_gap, has_long_guard, has_long_sync, times_of, times_read}
use Rattle.cqf_model.specs.declared.limits.Limits.{Limits}
use Rattle.cqf_model.specs.Limits.{bridges_within, links_within, longest_cycle, most_overhead, profile, stations_within}

-- the keys that a domain text must have, and those that each of its links must have, in reading order
abbrev pub domain_keys : List Key
domain_keys = Cycle ∷ Guard ∷ Bridges ∷ Stations ∷ Links ∷ []

abbrev pub link_keys : List Key
link_keys = From ∷ To ∷ Rate ∷ Delay ∷ []

-- what a domain text says, before it is checked whether a network can be like that: the limits within which it is read, times in
-- nanoseconds, the octets of a frame that gates don't count, names, and links with the names of their ends
pub record DomainText : Type 0 where
  pub limits : Limits
  pub cycle_time : ℕ
  pub guard : ℕ
  pub sync : ℕ
  pub overhead : ℕ
  pub bridges : List (List ℕ)
  pub stations : List (List ℕ)
  pub links : List DraftLink

-- an array, which must have at least one element
abbrev pub if_some : {A : Type 0} → Key → List A → Result (List A) TomlFault
if_some key [] = Err (early.BadValue key)
if_some key (x ∷ xs) = Ok (x ∷ xs)

-- a link's table
abbrev pub link_read : Members → Result DraftLink TomlFault
link_read table =
    and_then (read_at From name_from table) (λ from.
    and_then (read_at To name_from table) (λ to.
    and_then (times_read table) (λ times.
    Ok (record { from = from; to = to; times = times }))))

-- what was read so far, followed by what is read of the rest
abbrev pub with_front : {A E : Type 0} → List A → Result (List A) E → Result (List A) E
with_front done (Ok rest) = Ok (done ++ rest)
with_front done (Err e) = Err e

-- how far clocks can be apart, by a domain's table: 0 if the key is missing
abbrev pub sync_from : Members → Result ℕ TomlFault
sync_from table = and_then (number_if Sync 0 10000000 table) (λ sync. Ok (unwrap_or sync 0))

-- the octets of a frame that gates don't count, by a domain's table: 0 if the key is missing
abbrev pub overhead_from : Members → Result ℕ TomlFault
overhead_from table = and_then (number_if GateOverhead 0 22 table) (λ overhead. Ok (unwrap_or overhead 0))

-- a domain's table
abbrev pub domain_from : Limits → Members → Result DomainText TomlFault
domain_from limits table =
    and_then (read_at Cycle (number_from 10000 10000000) table) (λ cycle_time.
    and_then (read_at Guard (number_from 1 10000000) table) (λ guard.
    and_then (sync_from table) (λ sync.
    and_then (overhead_from table) (λ overhead.
    and_then (and_then (names_at Bridges table) (if_some Bridges)) (λ bridges.
    and_then (names_at Stations table) (λ stations.
    and_then (tables_of_key Links link_read table) (λ links.
    Ok (record {
      limits = limits;
      cycle_time = cycle_time;
      guard = guard;
      sync = sync;
      overhead = overhead;
      bridges = bridges;
      stations = stations;
      links = links;
    }))))))))

-- whether a name is among some names; and the first of `names` that is among `earlier` or occurs earlier in `names` itself
abbrev pub is_among : List ℕ → List (List ℕ) → Bool
is_among name names = list_any (λ other. is_text other name) names

abbrev pub first_taken : List (List ℕ) → List (List ℕ) → Option (List ℕ)
first_taken earlier [] = None
first_taken earlier (name ∷ names) = if is_among name earlier then Some name else first_taken (earlier ++ name ∷ []) names

-- the names `done`, which are numbered already, followed by the new names. None of these may be among `others` or `done` or occur twice
abbrev pub numbered_with : List (List ℕ) → List (List ℕ) → List (List ℕ) → Result (List (List ℕ)) DomainFault
numbered_with others done names = refuse (first_taken (others ++ done) names) fault.NameTaken (Ok (done ++ names))

-- the link with these parts
abbrev pub link_with : ℕ → Node → LinkTimes → Link
link_with from to times = record { from = from; to = to; rate = times.rate; delay = times.delay; least = times.least; guard = times.guard }

-- a link between a bridge and a node, which must not be this bridge itself; `name` is the name of `to`
abbrev pub apart : List ℕ → DraftLink → ℕ → Node → Result Link DomainFault
apart name link from to =
    if same_node to (Bridge from)
    then Err (fault.UnknownName name)
    else Ok (link_with from to link.times)

-- the index of a name in a list of names
abbrev pub index_of : List ℕ → List (List ℕ) → Option ℕ
index_of name names = position (λ other. is_text other name) names

-- a link of the text with the numbers of its ends, or the first of its names that is no such end: `from` must name a bridge, and `to` a
-- node other than that bridge
abbrev pub joined_link : List (List ℕ) → List (List ℕ) → DraftLink → Result Link DomainFault
joined_link bridges stations link =
    and_then (ok_or (index_of link.from bridges) (fault.UnknownName link.from)) (λ from.
    and_then (ok_or (node_or (index_of link.to bridges) (index_of link.to stations)) (fault.UnknownName link.to)) (λ to.
    apart link.to link from to))

-- the links of the text with the numbers of their ends, or the first fault
abbrev pub joined : List (List ℕ) → List (List ℕ) → List DraftLink → Result (List Link) DomainFault
joined bridges stations [] = Ok []
joined bridges stations (link ∷ links) = and_first (joined_link bridges stations link) (joined bridges stations links)

-- whether two links have the same ends; and the number of the first link that has the same ends as an earlier link
abbrev pub same_ends : Link → Link → Bool
same_ends a b = (a.from == b.from) && same_node a.to b.to

abbrev pub first_twice : List Link → List Link → Option ℕ
first_twice earlier [] = None
first_twice earlier (link ∷ links) =
    if list_any (same_ends link) earlier then Some (length earlier) else first_twice (earlier ++ link ∷ []) links

-- the number of the first link whose guard band isn't shorter than the cycle; of the first whose greatest delay plus the distance of clocks
-- isn't less than its guard band; of the first on which the gap after a frame takes longer than its guard band; and of the first on which
-- clocks can be further apart than a shortest frame and the least delay take together
abbrev pub first_long_guard : ℕ → ℕ → List Link → Option ℕ
first_long_guard cycle_time guard links = position (λ (link : Link). has_long_guard cycle_time guard (times_of link)) links

abbrev pub first_long_delay : ℕ → ℕ → List Link → Option ℕ
first_long_delay sync guard links = position (λ (link : Link). has_long_delay sync guard (times_of link)) links

abbrev pub first_long_gap : ℕ → List Link → Option ℕ
first_long_gap guard links = position (λ (link : Link). has_long_gap guard (times_of link)) links

abbrev pub first_long_sync : ℕ → List Link → Option ℕ
first_long_sync sync links = position (λ (link : Link). has_long_sync sync (times_of link)) links

-- a unit if the test is true, else none
abbrev pub if_so : Bool → Option (Unit {0})
if_so true = Some tt
if_so false = None

-- there are more bridges, stations or links than the limits allow
abbrev pub is_too_many : Limits → List (List ℕ) → List (List ℕ) → List Link → Bool
is_too_many limits bridges stations links =
    nat_lt (bridges_within limits) (length bridges) || nat_lt (stations_within limits) (length stations)
    || nat_lt (links_within limits) (length links)

-- the domain that the text describes, with these links
abbrev pub with_these : DomainText → List Link → Domain
with_these d links =
    record {
      limits = d.limits;
      cycle_time = d.cycle_time;
      guard = d.guard;
      sync = d.sync;
      overhead = d.overhead;
      bridges = d.bridges;
      stations = d.stations;
      links = links;
    }

-- the domain that the text describes, or the first check that it fails, each check made over the whole text before the next
abbrev pub with_links : DomainText → List Link → Result Domain DomainFault
with_links d links =
    refuse (first_twice [] links) fault.LinkTwice (
    refuse (if_so (nat_le d.cycle_time d.guard)) (λ _. fault.GuardTooLong) (
    refuse (first_long_guard d.cycle_time d.guard links) fault.LinkGuardTooLong (
    refuse (first_long_delay d.sync d.guard links) fault.DelayTooLong (
    refuse (first_long_gap d.guard links) fault.GapTooLong (
    refuse (if_so (is_too_many d.limits d.bridges d.stations links)) (λ _. fault.TooMany) (
    refuse (first_long_sync d.sync links) fault.SyncTooLong (
    Ok (with_these d links))))))))

-- the domain that the text describes, or the first check that it fails; names and ends are checked before the rest
abbrev pub checked : DomainText → Result Domain DomainFault
checked d =
    refuse (first_taken [] (d.bridges ++ d.stations)) fault.NameTaken (
    and_then (joined d.bridges d.stations d.links) (with_links d))

-- a fault of reading as a fault of the domain
abbrev pub domain_fault : TomlFault → DomainFault
domain_fault early.NotToml = fault.NotToml
domain_fault (early.Missing key) = fault.Missing key
domain_fault (early.BadValue key) = fault.BadValue key
domain_fault early.Memory = fault.Memory

abbrev pub as_domain_fault : {A : Type 0} → Result A TomlFault → Result A DomainFault
as_domain_fault (Ok x) = Ok x
as_domain_fault (Err e) = Err (domain_fault e)

-- what a domain text says, or its first fault of reading
abbrev pub read_text : Limits → List ℕ → Result DomainText TomlFault
read_text limits text = and_then (whole_document domain_keys Links link_keys text) (domain_from limits)

-- the domain that a text describes within some limits, or its first fault
abbrev pub domain_within : Limits → List ℕ → Result Domain DomainFault
domain_within limits text = and_then (as_domain_fault (read_text limits text)) checked

-- the same if no limits are set
abbrev pub domain_of_text : List ℕ → Result Domain DomainFault
domain_of_text text = domain_within profile text

-- the facts that the ranges and forms of the values give
pub record IsReadable (d : DomainText) : Type 0 where
  pub cycle_least : 10000 ≤ d.cycle_time
  pub cycle_most : d.cycle_time ≤ longest_cycle
  pub guard_some : 0 < d.guard
  pub sync_most : d.sync ≤ longest_cycle
  pub overhead_most : d.overhead ≤ most_overhead
  pub some_bridge : 0 < length d.bridges
  pub bridges_named : All (λ name. IsTrue (is_name name)) d.bridges
  pub stations_named : All (λ name. IsTrue (is_name name)) d.stations
  pub times_are_read : All (λ (link : DraftLink). AreReadTimes link.times) d.links

-- the bridges of a text by number: none occurs twice
pub record HasBridges (d : DomainText) (bridges : List (List ℕ)) : Type 0 where
  pub readable : IsReadable d
  pub bridges_are : refuse (first_taken [] d.bridges) fault.NameTaken (Ok d.bridges) ≡ Ok bridges

-- the bridges and stations of a text by number: no station occurs twice or has the name of a bridge
pub record HasNames (d : DomainText) (bridges stations : List (List ℕ)) : Type 0 where
  pub has_bridges : HasBridges d bridges
  pub stations_are : refuse (first_taken bridges d.stations) fault.NameTaken (Ok d.stations) ≡ Ok stations

-- the names and links of a text by number: the facts that its checks give, up to the check of the links' ends
pub record IsNumberedDomain (d : DomainText) (bridges stations : List (List ℕ)) (links : List Link) : Type 0 where
  pub readable : IsReadable d
  pub bridges_are : bridges ≡ d.bridges
  pub stations_are : stations ≡ d.stations
  pub distinct : first_taken [] (d.bridges ++ d.stations) ≡ None
  pub joined_are : joined d.bridges d.stations d.links ≡ Ok links

-- no two links have the same ends
abbrev pub NoLinkTwice : List Link → Type 0
NoLinkTwice links = AllPairs (λ (a b : Link). ¬ ((a.from ≡ b.from) × (a.to ≡ b.to))) links

-- if a link leads from the bridge to the node, then its number is the one found
abbrev pub IsOnlyLink : Domain → ℕ → Node → Option ℕ → Type 0
IsOnlyLink d from to found = (number : ℕ) (link : Link) → slice_get d.links number ≡ Some link → link.from ≡ from → link.to ≡ to → found ≡ Some number

-- the domain with these parts
abbrev pub domain_with : Limits → ℕ → ℕ → ℕ → ℕ → List (List ℕ) → List (List ℕ) → List Link → Domain
domain_with limits cycle_time guard sync overhead bridges stations links =
    record {
      limits = limits;
      cycle_time = cycle_time;
      guard = guard;
      sync = sync;
      overhead = overhead;
      bridges = bridges;
      stations = stations;
      links = links;
    }

-- the facts that a domain's text gives beyond being accepted: clocks are no further apart than a text can say, each name has the form of a
-- name, no two names are equal, and no two links have the same ends
pub record IsDomain (d : Domain) : Type 0 where
  pub accepted : IsAccepted d
  pub sync_most : d.sync ≤ longest_cycle
  pub bridges_named : All (λ name. IsTrue (is_name name)) d.bridges
  pub stations_named : All (λ name. IsTrue (is_name name)) d.stations
  pub distinct : AllPairs (λ a b. a ≢ b) (d.bridges ++ d.stations)
  pub no_link_twice : NoLinkTwice d.links
