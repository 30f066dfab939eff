-- The table that a domain is written as. Its keys are in the order of their bytes.
use Rattle.std.specs.Prelude.{ℕ, pos, List, [], ◌∷◌, ◌==◌, Option, Some, None, if◌then◌else◌, map}
use Rattle.std.specs.Ordering.{match_ordering, nat_cmp}
use Rattle.std.specs.Cmp.Lexicographic.{slice_cmp}
use Rattle.toml.specs.Data.{Data, string, integer, array, table, Members, no_members, member}
use Rattle.toml.specs.View.{items_of}
use Rattle.cqf_units.specs.declared.timing.Rate.{Rate as LinkRate}
use Rattle.cqf_units.specs.declared.timing.Rate.TheVariants.{Mb10, Mb100, Mb1000, Mb2500, Mb5000, Mb10000, Mb25000, Mb40000, Mb100000}
use Rattle.cqf_model.specs.declared.topology.Link.{Link}
use Rattle.cqf_model.specs.declared.topology.Node.TheVariants.{Bridge}
use Rattle.cqf_model.specs.Domain.{Domain}
use Rattle.cqf_topology.specs.declared.keys.Key.{Key}
use Rattle.cqf_topology.specs.declared.keys.Key.TheVariants.{Bridges, Cycle, Delay, From, GateOverhead, Guard, Links, Rate, Stations, Streams, Sync, To}
use Rattle.cqf_topology.specs.Fields.{key_text}
use Rattle.cqf_topology.specs.NodeNames.{name_of_node}

-- a table with a value put at a key; keys stay in order, and an earlier value at the key is replaced
abbrev pub put : List ℕ → Data → Members → Members
put key value no_members = member key value no_members
put key value (member other that more) =
    match_ordering (slice_cmp nat_cmp key other) (member key value (member other that more)) (member other value more) (member other that (put key value more))

-- puts a number at a key, if there is a number
abbrev pub put_some : Key → Option ℕ → Members → Members
put_some key None members = members
put_some key (Some n) members = put (key_text key) (integer (pos n)) members

-- a number at a key, before other members
abbrev pub number_then : List ℕ → ℕ → Members → Members
number_then key n more = member key (integer (pos n)) more

-- the same, if there is a number; otherwise the other members alone
abbrev pub some_then : Key → Option ℕ → Members → Members
some_then key None more = more
some_then key (Some n) more = number_then (key_text key) n more

-- a list of texts, as an array
abbrev pub texts_data : List (List ℕ) → Data
texts_data texts = array (items_of (map string texts))

-- a rate in Mb/s
abbrev pub megabits_of : LinkRate → ℕ
megabits_of Mb10 = 10
megabits_of Mb100 = 100
megabits_of Mb1000 = 1000
megabits_of Mb2500 = 2500
megabits_of Mb5000 = 5000
megabits_of Mb10000 = 10000
megabits_of Mb25000 = 25000
megabits_of Mb40000 = 40000
megabits_of Mb100000 = 100000

-- a link's delays: one number if the least delay equals the greatest; otherwise both, the least first
abbrev pub delays_data : ℕ → ℕ → Data
delays_data least most =
    if least == most then integer (pos most) else array (items_of (integer (pos least) ∷ integer (pos most) ∷ []))

-- a link's table: the names of its ends, its delays, its rate, and its own guard band if it has one
abbrev pub members_of_link : List ℕ → List ℕ → Data → ℕ → Option ℕ → Members
members_of_link from to delays rate guard =
    member (key_text Delay) delays (
    member (key_text From) (string from) (
    some_then Guard guard (
    number_then (key_text Rate) rate (
    member (key_text To) (string to) no_members))))

abbrev pub link_members : Domain → Link → Members
link_members d link =
    members_of_link (name_of_node d (Bridge link.from)) (name_of_node d link.to) (delays_data link.least link.delay) (megabits_of link.rate) link.guard

-- the links, by number
abbrev pub links_data : Domain → Data
links_data d = array (items_of (map (λ link. table (link_members d link)) d.links))

-- how far clocks may differ; none if they may not
abbrev pub sync_written : ℕ → Option ℕ
sync_written sync = if sync == 0 then None else Some sync

-- the octets of a frame that gates don't count; none if they count all
abbrev pub overhead_written : ℕ → Option ℕ
overhead_written overhead = if overhead == 0 then None else Some overhead

-- a domain's table, given the value at `gate-overhead`, if any, and the value at `streams`
abbrev pub members_counting : Option ℕ → Domain → Data → Members
members_counting overhead d streams =
    member (key_text Bridges) (texts_data d.bridges) (
    member (key_text Cycle) (integer (pos d.cycle_time)) (
    some_then GateOverhead overhead (
    member (key_text Guard) (integer (pos d.guard)) (
    member (key_text Links) (links_data d) (
    member (key_text Stations) (texts_data d.stations) (
    member (key_text Streams) streams (
    some_then Sync (sync_written d.sync) no_members)))))))

-- a domain's table with its own value at `gate-overhead`; the value at `streams` is given
abbrev pub domain_members : Domain → Data → Members
domain_members d streams = members_counting (overhead_written d.overhead) d streams
