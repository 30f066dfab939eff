-- Reading a domain's table.
use Rattle.std.proofs.Common.{◌≡◌, ◌==◌, ◌+◌, ◌<◌, ◌≤◌, ℕ, suc, pos, List, [], ◌∷◌, Bool, true, false, cond, Option, Some, None, Ok, Err, All, IfSome, IsTrue}
use Rattle.std.proofs.Common.{length, map, slice_get, nat_le, ok_or, option_map, unwrap_or, eqb-true, refl, ap, sym, ◌∙◌, arith}
use Rattle.std.specs.Option.{option_and_then, option_or}
use Rattle.std.proofs.lemmas.Bool.{and_from}
use Rattle.std.proofs.lemmas.Bool.Decides.{nat_tests}
use Rattle.toml.specs.Data.{Data, Members, array, as_array, integer, no_members, string, table}
use Rattle.toml.specs.View.{items_of}
use Rattle.cqf_units.specs.Name.{is_name}
use Rattle.cqf_units.specs.declared.timing.Rate.{Rate as LinkRate}
use Rattle.cqf_units.specs.declared.timing.Rate.TheVariants.{Mb10, Mb100, Mb1000, Mb2500, Mb5000, Mb10000, Mb25000, Mb40000, Mb100000}
use Rattle.cqf_model.specs.declared.topology.Link.{Link}
use Rattle.cqf_model.specs.declared.topology.Node.{Node}
use Rattle.cqf_model.specs.declared.topology.Node.TheVariants.{Bridge, Station}
use Rattle.cqf_model.specs.Domain.{Domain, IsAcceptedLink, IsNode}
use Rattle.cqf_lists.specs.Results.{and_then}
use Rattle.cqf_topology.specs.declared.keys.Key.{Key}
use Rattle.cqf_topology.specs.declared.keys.Key.TheVariants as key
use Rattle.cqf_topology.specs.declared.toml_faults.TomlFault.TheVariants.{BadValue}
use Rattle.cqf_topology.specs.Fields.{and_first, are_tables, first_absent, first_absent_within, first_missing, name_from, names_at, names_from}
use Rattle.cqf_topology.specs.Fields.{number_from, number_if, number_if_by, read_at, tables_from, tables_of_key, value_at}
use Rattle.cqf_topology.specs.LinkTimes.{delays_from, rate_from, times_of, times_read}
use Rattle.cqf_topology.specs.declared.times.LinkTimes.{LinkTimes}
use Rattle.cqf_topology.specs.DomainText.{DomainText, IsDomain, domain_from, domain_keys, if_some, link_keys, link_read, overhead_from, sync_from}
use Rattle.cqf_network_text.specs.DomainMembers.{delays_data, domain_members, link_members, links_data, megabits_of, members_counting, members_of_link}
use Rattle.cqf_network_text.specs.DomainMembers.{overhead_written, some_then, sync_written, texts_data}
use Rattle.cqf_topology.specs.NodeNames.{name_of_node}
use Rattle.cqf_network_text.proofs.DomainChecks.{written_domain, written_links}
use Rattle.cqf_network_text.proofs.StreamValues.{number_data}

-- a number within its range
pub number_reads : (least most n : ℕ) → least ≤ n → n ≤ most → number_from least most (integer (pos n)) ≡ Some n
number_reads least most n low high = ap (λ b. cond b (Some n) None) (and_from (nat_le least n) (nat_le n most) above below)
  where
    above : nat_le least n ≡ true
    above = grind (arith, nat_tests)

    below : nat_le n most ≡ true
    below = grind (arith, nat_tests)

-- a number that may be absent
pub number_if_reads : (at : Key) (least most : ℕ) (members : Members) (some : Option ℕ) → value_at at members ≡ option_map number_data some →
    IfSome some (λ n. (least ≤ n) × (n ≤ most)) → number_if at least most members ≡ Ok some
number_if_reads at least most members None is good = ap (λ o. number_if_by o at least most members) is
number_if_reads at least most members (Some n) is good =
    let read : read_at at (number_from least most) members ≡ Ok n =
    ap (λ o. ok_or (option_and_then (number_from least most) o) (BadValue at)) is
    ∙ ap (λ o. ok_or o (BadValue at)) (number_reads least most n good.0 good.1) in
    ap (λ o. number_if_by o at least most members) is ∙ ap (λ r. and_then r (λ number. Ok (Some number))) read

-- a number that is written only if it differs from a default is read as that default if it isn't written
pub written_or : (same : Bool) (n default : ℕ) → (same ≡ true → n ≡ default) → unwrap_or (cond same None (Some n)) default ≡ n
written_or true n default is = sym (is refl)
written_or false n default is = refl

-- a name, and several names
pub name_reads : (name : List ℕ) → IsTrue (is_name name) → name_from (string name) ≡ Some name
name_reads name is = ap (λ b. cond b (Some name) None) is

pub names_read : (key : Key) (names : List (List ℕ)) → All (λ name. IsTrue (is_name name)) names → names_from key (items_of (map string names)) ≡ Ok names
names_read key [] all = refl
names_read key (name ∷ names) all =
    let here : name_from (string name) ≡ Some name = name_reads name (all 0 [] (omega arith)) in
    let rest = names_read key names (λ k e inside. all (suc k) e (omega arith)) in
    (λ i. and_first (ok_or (here i) (BadValue key)) (rest i))

-- a rate
rate_reads : (rate : LinkRate) → rate_from (integer (pos (megabits_of rate))) ≡ Some rate
rate_reads Mb10 = refl
rate_reads Mb100 = refl
rate_reads Mb1000 = refl
rate_reads Mb2500 = refl
rate_reads Mb5000 = refl
rate_reads Mb10000 = refl
rate_reads Mb25000 = refl
rate_reads Mb40000 = refl
rate_reads Mb100000 = refl

-- at least one name
some_reads : (key : Key) (names : List (List ℕ)) → 0 < length names → if_some key names ≡ Ok names
some_reads key [] some = absurd (omega arith)
some_reads key (name ∷ names) some = refl

-- a pair of numbers
abbrev pair : ℕ → ℕ → ℕ × ℕ
pair a b = (a, b)

-- two delays in order
delays_read : (same : Bool) (least most : ℕ) → (same ≡ true → least ≡ most) → least ≤ most → most ≤ 10000000
    → delays_from (cond same (integer (pos most)) (array (items_of (integer (pos least) ∷ integer (pos most) ∷ [])))) ≡ Some (pair least most)
delays_read true least most is ordered few =
    ap (option_map (λ n. pair n n)) (number_reads 0 10000000 most (omega arith) few) ∙ ap (λ n. Some (pair n most)) (sym (is refl))
delays_read false least most is ordered few =
    let low : least ≤ 10000000 = omega arith in
    ap (option_and_then (λ n. option_map (pair n) (number_from n 10000000 (integer (pos most))))) (number_reads 0 10000000 least (omega arith) low)
    ∙ ap (option_map (pair least)) (number_reads least 10000000 most ordered few)

-- if a link's guard band is in its range, so is the link's own one
own_in_range : (own : Option ℕ) (default below most : ℕ) → below < unwrap_or own default → unwrap_or own default ≤ most → IfSome own (λ n. (1 ≤ n) × (n ≤ most))
own_in_range None default below most some few = tt
own_in_range (Some n) default below most some few = let both : (1 ≤ n) × (n ≤ most) = (omega arith, few) in both

-- the values of a link's table after the members that may be absent, and at them
rate_at : (from to : List ℕ) (delays : Data) (rate : ℕ) (guard : Option ℕ) →
    value_at key.Rate (members_of_link from to delays rate guard) ≡ Some (number_data rate)
rate_at from to delays rate None = refl
rate_at from to delays rate (Some n) = refl

to_at : (from to : List ℕ) (delays : Data) (rate : ℕ) (guard : Option ℕ) → value_at key.To (members_of_link from to delays rate guard) ≡ Some (string to)
to_at from to delays rate None = refl
to_at from to delays rate (Some n) = refl

own_at : (from to : List ℕ) (delays : Data) (rate : ℕ) (guard : Option ℕ) →
    value_at key.Guard (members_of_link from to delays rate guard) ≡ option_map number_data guard
own_at from to delays rate None = refl
own_at from to delays rate (Some n) = refl

-- and the value at the end of a domain's table
sync_at : (reported : Option ℕ) → value_at key.Sync (some_then key.Sync reported no_members) ≡ option_map number_data reported
sync_at None = refl
sync_at (Some n) = refl

-- the end of a domain's table has no value at `gate-overhead`
none_after : (reported : Option ℕ) → value_at key.GateOverhead (some_then key.Sync reported no_members) ≡ None
none_after None = refl
none_after (Some n) = refl

-- the values of a domain's table at `gate-overhead` and at the keys after it
module _ (d : Domain) (streams : Data) where
  overhead_there : (reported : Option ℕ) → value_at key.GateOverhead (members_counting reported d streams) ≡ option_map number_data reported
  overhead_there None = none_after (sync_written d.sync)
  overhead_there (Some n) = refl

  guard_there : (reported : Option ℕ) → value_at key.Guard (members_counting reported d streams) ≡ Some (number_data d.guard)
  guard_there None = refl
  guard_there (Some n) = refl

  links_there : (reported : Option ℕ) → value_at key.Links (members_counting reported d streams) ≡ Some (links_data d)
  links_there None = refl
  links_there (Some n) = refl

  stations_there : (reported : Option ℕ) → value_at key.Stations (members_counting reported d streams) ≡ Some (texts_data d.stations)
  stations_there None = refl
  stations_there (Some n) = refl

  sync_there : (reported : Option ℕ) → value_at key.Sync (members_counting reported d streams) ≡ option_map number_data (sync_written d.sync)
  sync_there None = sync_at (sync_written d.sync)
  sync_there (Some n) = sync_at (sync_written d.sync)

  streams_by : (reported : Option ℕ) → value_at key.Streams (members_counting reported d streams) ≡ Some streams
  streams_by None = refl
  streams_by (Some n) = refl

  pub streams_at : value_at key.Streams (domain_members d streams) ≡ Some streams
  streams_at = streams_by (overhead_written d.overhead)

-- the links' tables are tables, and lack no key
link_lacks_nothing : (from to : List ℕ) (delays : Data) (rate : ℕ) (guard : Option ℕ) →
    first_absent link_keys (members_of_link from to delays rate guard) ≡ None
link_lacks_nothing from to delays rate None = refl
link_lacks_nothing from to delays rate (Some n) = refl

links_are_tables : (d : Domain) (links : List Link) → are_tables (items_of (map (λ link. table (link_members d link)) links)) ≡ true
links_are_tables d [] = refl
links_are_tables d (link ∷ links) = links_are_tables d links

links_lack_nothing : (d : Domain) (links : List Link) → first_absent_within link_keys (items_of (map (λ link. table (link_members d link)) links)) ≡ None
links_lack_nothing d [] = refl
links_lack_nothing d (link ∷ links) =
    let here = link_lacks_nothing (name_of_node d (Bridge link.from)) (name_of_node d link.to) (delays_data link.least link.delay) (megabits_of link.rate)
    link.guard in
    let rest = links_lack_nothing d links in
    (λ i. option_or (here i) (rest i))

-- a domain's document lacks no key
pub domain_lacks_nothing : (d : Domain) (streams : Data) → first_missing domain_keys key.Links link_keys (domain_members d streams) ≡ None
domain_lacks_nothing d streams = by (overhead_written d.overhead)
  where
    by : (reported : Option ℕ) → first_missing domain_keys key.Links link_keys (members_counting reported d streams) ≡ None
    by None = links_lack_nothing d d.links
    by (Some n) = links_lack_nothing d d.links

module _ (d : Domain) (good : IsDomain d) where
  -- a node's name has the form of a name
  is_named : (node : Node) → IsNode d node → IsTrue (is_name (name_of_node d node))
  is_named (Bridge b) inside = good.bridges_named b [] inside
  is_named (Station s) inside = good.stations_named s [] inside

  -- what is read in a link's table besides its ends
  times_are_read : (link : Link) → IsAcceptedLink d link → times_read (link_members d link) ≡ Ok (times_of link)
  times_are_read link accepted =
      let from = name_of_node d (Bridge link.from) in
      let to = name_of_node d link.to in
      let delays = delays_data link.least link.delay in
      let members = link_members d link in
      let short : unwrap_or link.guard d.guard < d.cycle_time = accepted.guard_short in
      let most : unwrap_or link.guard d.guard ≤ 10000000 = omega (arith, short, good.accepted.cycle_most) in
      let within : link.delay + d.sync < unwrap_or link.guard d.guard = accepted.delay_short in
      let delay_most : link.delay ≤ 10000000 = omega (arith, within, most) in
      let same : (link.least == link.delay) ≡ true → link.least ≡ link.delay = λ is. eqb-true link.least link.delay is in
      let rate_is : read_at key.Rate rate_from members ≡ Ok link.rate =
      ap (λ o. ok_or (option_and_then rate_from o) (BadValue key.Rate)) (rate_at from to delays (megabits_of link.rate) link.guard)
      ∙ ap (λ o. ok_or o (BadValue key.Rate)) (rate_reads link.rate) in
      let delays_are = delays_read (link.least == link.delay) link.least link.delay same accepted.least_short delay_most in
      let guard_is = number_if_reads key.Guard 1 10000000 members link.guard (own_at from to delays (megabits_of link.rate) link.guard)
      (own_in_range link.guard d.guard (link.delay + d.sync) 10000000 within most) in
      (λ i. and_then (rate_is i) (λ (rate : LinkRate).
      and_then (ok_or (delays_are i) (BadValue key.Delay)) (λ (delays : ℕ × ℕ).
      and_then (guard_is i) (λ (guard : Option ℕ).
      let times : LinkTimes = record { rate = rate; delay = delays.1; least = delays.0; guard = guard } in Ok times))))

  -- a link's table
  link_reads : (link : Link) → IsAcceptedLink d link →
      link_read (link_members d link) ≡ Ok (record { from = name_of_node d (Bridge link.from); to = name_of_node d link.to; times = times_of link })
  link_reads link accepted =
      let from_is = name_reads (name_of_node d (Bridge link.from)) (is_named (Bridge link.from) accepted.from_bridge) in
      let to_is : read_at key.To name_from (link_members d link) ≡ Ok (name_of_node d link.to) =
      ap (λ o. ok_or (option_and_then name_from o) (BadValue key.To)) (to_at (name_of_node d (Bridge link.from)) (name_of_node d link.to) (delays_data link.least link.delay) (megabits_of link.rate) link.guard)
      ∙ ap (λ o. ok_or o (BadValue key.To)) (name_reads (name_of_node d link.to) (is_named link.to accepted.to_node)) in
      let times_are = times_are_read link accepted in
      (λ i. and_then (ok_or (from_is i) (BadValue key.From)) (λ (from : List ℕ).
      and_then (to_is i) (λ (to : List ℕ).
      and_then (times_are i) (λ (times : LinkTimes).
      Ok (record { from = from; to = to; times = times })))))

  -- and each of a list of links
  links_read : (links : List Link) → ((k : ℕ) (link : Link) → slice_get links k ≡ Some link → IsAcceptedLink d link)
      → tables_from key.Links link_read (items_of (map (λ link. table (link_members d link)) links)) ≡ Ok ((written_links d links).links)
  links_read [] accepted = refl
  links_read (link ∷ links) accepted =
      let rest = links_read links (λ k other at. accepted (suc k) other at) in
      (λ i. and_first (link_reads link (accepted 0 link refl) i) (rest i))

  links_all_read : (streams : Data) → tables_of_key key.Links link_read (domain_members d streams) ≡ Ok ((written_links d d.links).links)
  links_all_read streams =
      ap (λ o. and_then (ok_or (option_and_then as_array o) (BadValue key.Links)) (λ items.
      cond (are_tables items) (tables_from key.Links link_read items) (Err (BadValue key.Links)))) (links_there d streams (overhead_written d.overhead))
      ∙ ap (λ b. cond b (tables_from key.Links link_read (items_of (map (λ link. table (link_members d link)) d.links))) (Err (BadValue key.Links)))
      (links_are_tables d d.links)
      ∙ links_read d.links good.accepted.links_good

  -- a number that is written only if it isn't 0 is in its range if it is written
  written_few : (same : Bool) (n most : ℕ) → n ≤ most → IfSome (cond same None (Some n)) (λ n. (0 ≤ n) × (n ≤ most))
  written_few true n most few = tt
  written_few false n most few = let both : (0 ≤ n) × (n ≤ most) = (omega arith, few) in both

  -- how far clocks may differ
  sync_reads : (streams : Data) → sync_from (domain_members d streams) ≡ Ok d.sync
  sync_reads streams =
      let none : (d.sync == 0) ≡ true → d.sync ≡ 0 = λ is. eqb-true d.sync 0 is in
      ap (λ r. and_then r (λ sync. Ok (unwrap_or sync 0)))
      (number_if_reads key.Sync 0 10000000 (domain_members d streams) (sync_written d.sync) (sync_there d streams (overhead_written d.overhead))
      (written_few (d.sync == 0) d.sync 10000000 good.sync_most))
      ∙ ap Ok (written_or (d.sync == 0) d.sync 0 none)

  -- how many octets gates don't count
  overhead_reads : (streams : Data) → overhead_from (domain_members d streams) ≡ Ok d.overhead
  overhead_reads streams =
      let none : (d.overhead == 0) ≡ true → d.overhead ≡ 0 = λ is. eqb-true d.overhead 0 is in
      ap (λ r. and_then r (λ overhead. Ok (unwrap_or overhead 0)))
      (number_if_reads key.GateOverhead 0 22 (domain_members d streams) (overhead_written d.overhead) (overhead_there d streams (overhead_written d.overhead))
      (written_few (d.overhead == 0) d.overhead 22 good.accepted.overhead_short))
      ∙ ap Ok (written_or (d.overhead == 0) d.overhead 0 none)

  -- what is read in a domain's table
  pub domain_reads : (streams : Data) → domain_from d.limits (domain_members d streams) ≡ Ok (written_domain d)
  domain_reads streams =
      let cycle_is = number_reads 10000 10000000 d.cycle_time good.accepted.cycle_least good.accepted.cycle_most in
      let guard_is = number_reads 1 10000000 d.guard good.accepted.guard_some (omega (arith, good.accepted.guard_short, good.accepted.cycle_most)) in
      let guard_read : read_at key.Guard (number_from 1 10000000) (domain_members d streams) ≡ Ok d.guard =
      ap (λ o. ok_or (option_and_then (number_from 1 10000000) o) (BadValue key.Guard)) (guard_there d streams (overhead_written d.overhead))
      ∙ ap (λ o. ok_or o (BadValue key.Guard)) guard_is in
      let sync_is = sync_reads streams in
      let overhead_is = overhead_reads streams in
      let bridges_are : and_then (names_from key.Bridges (items_of (map string d.bridges))) (if_some key.Bridges) ≡ Ok d.bridges =
      ap (λ r. and_then r (if_some key.Bridges)) (names_read key.Bridges d.bridges good.bridges_named)
      ∙ some_reads key.Bridges d.bridges good.accepted.some_bridge in
      let stations_are : names_at key.Stations (domain_members d streams) ≡ Ok d.stations =
      ap (λ o. and_then (ok_or (option_and_then as_array o) (BadValue key.Stations)) (names_from key.Stations)) (stations_there d streams (overhead_written d.overhead))
      ∙ names_read key.Stations d.stations good.stations_named in
      let links_are = links_all_read streams in
      (λ i. and_then (ok_or (cycle_is i) (BadValue key.Cycle)) (λ (cycle_time : ℕ).
      and_then (guard_read i) (λ (guard : ℕ).
      and_then (sync_is i) (λ (sync : ℕ).
      and_then (overhead_is i) (λ (overhead : ℕ).
      and_then (bridges_are i) (λ (bridges : List (List ℕ)).
      and_then (stations_are i) (λ (stations : List (List ℕ)).
      and_then (links_are i) (λ links.
      let text : DomainText = record {
        limits = d.limits;
        cycle_time = cycle_time;
        guard = guard;
        sync = sync;
        overhead = overhead;
        bridges = bridges;
        stations = stations;
        links = links;
      } in
      Ok text))))))))
