-- The domain that its table is read as passes the checks of a domain, and is that domain.
use Rattle.std.proofs.Common.{◌≡◌, ◌≢◌, ◌+◌, ◌<◌, ◌≤◌, ℕ, suc, List, [], ◌∷◌, ◌++◌, ◌||◌, Bool, false, Option, Some, None, Result, Ok, MatchOption}
use Rattle.std.proofs.Common.{length, map, get_or, slice_get, nat_le, nat_lt, ok_or, position, refl, ap, sym, ◌∙◌, inl, inr, arith}
use Rattle.std.proofs.lemmas.Bool.{cases_Bool, true≢false}
use Rattle.std.proofs.lemmas.Bool.Decides.{nat_tests}
use Rattle.std.proofs.lemmas.List.Quantifiers.{position-Some}
use Rattle.std.proofs.lemmas.Option.{get_or_from_slice_get, slice_get-get_or, slice_get_within}
use Rattle.cqf_units.specs.Timing.{ticks_of_octet, time_of}
use Rattle.cqf_units.specs.declared.timing.Rate.TheVariants.{Mb10}
use Rattle.cqf_model.specs.declared.topology.Link.{Link}
use Rattle.cqf_model.specs.declared.topology.Node.{Node}
use Rattle.cqf_model.specs.declared.topology.Node.TheVariants.{Bridge, Station}
use Rattle.cqf_model.specs.Domain.{Domain, IsAcceptedLink, IsNode, guard_by, node_or, same_node}
use Rattle.cqf_model.proofs.Links.{same_node_true}
use Rattle.cqf_lists.specs.Results.{and_then, refuse}
use Rattle.cqf_topology.specs.Fields.{and_first}
use Rattle.cqf_topology.specs.declared.faults.DomainFault.{DomainFault}
use Rattle.cqf_topology.specs.declared.faults.DomainFault.TheVariants as fault
use Rattle.cqf_topology.specs.DomainText.{DomainText, IsDomain, NoLinkTwice, apart, checked, first_long_delay, first_long_gap, first_twice, if_so}
use Rattle.cqf_topology.specs.DomainText.{first_long_guard, first_long_sync}
use Rattle.cqf_topology.specs.LinkTimes.{has_long_delay, has_long_gap, has_long_guard, has_long_sync, times_of}
use Rattle.cqf_model.specs.Limits.{bridges_within, links_within, stations_within}
use Rattle.cqf_topology.specs.DomainText.{index_of, is_too_many, joined, joined_link, with_links, with_these}
use Rattle.cqf_topology.specs.FirstFaults.{HasTwin, IsFirstTwin}
use Rattle.cqf_topology.proofs.Written.{twice-reported}
use Rattle.cqf_topology.specs.NodeNames.{name_of_node}
use Rattle.cqf_network_text.proofs.NamesApart.{AreApart, after_apart, apart_across, front_apart, index_is, no_index, none_taken}

-- a domain's text with given links, each by the names of its ends
abbrev pub written_links : Domain → List Link → DomainText
written_links d links = record {
  limits = d.limits;
  cycle_time = d.cycle_time;
  guard = d.guard;
  sync = d.sync;
  overhead = d.overhead;
  bridges = d.bridges;
  stations = d.stations;
  links = map (λ link. record { from = name_of_node d (Bridge link.from); to = name_of_node d link.to; times = times_of link }) links;
}

abbrev pub written_domain : Domain → DomainText
written_domain d = written_links d d.links

-- if no link occurs twice, none is reported as occurring twice
none_twice : (links : List Link) → NoLinkTwice links → first_twice [] links ≡ None
none_twice links once = by (first_twice [] links) (twice-reported links)
  where
    -- a link that is reported would have a twin
    by : (o : Option ℕ) → MatchOption o ((number : ℕ) → ¬ HasTwin links number) (λ number. IsFirstTwin links number) → o ≡ None
    by None none = refl
    by (Some number) first =
        let twin = first.repeats in
        let one = get_or_from_slice_get links twin.before twin.twin twin.link twin.stood in
        let other = get_or_from_slice_get links number twin.link twin.link twin.stands in
        absurd (once twin.before number twin.link twin.earlier (slice_get_within links number twin.link twin.stands) (
          ap (λ (x : Link). x.from) one ∙ sym twin.same_from ∙ ap (λ (x : Link). x.from) (sym other),
          ap (λ (x : Link). x.to) one ∙ sym twin.same_to ∙ ap (λ (x : Link). x.to) (sym other),
        ))

-- a test that no link passes finds none
finds_none : (p : Link → Bool) (links : List Link) → ((k : ℕ) (link : Link) → slice_get links k ≡ Some link → p link ≡ false) → position p links ≡ None
finds_none p links none = by (position p links) refl
  where
    -- any link
    some_link : Link
    some_link = record { from = 0; to = Bridge 0; rate = Mb10; delay = 0; least = 0; guard = None }

    -- a link at a position that is found would pass
    by : (o : Option ℕ) → position p links ≡ o → o ≡ None
    by None is = refl
    by (Some i) found =
        let at = position-Some p links i some_link found in
        absurd (true≢false (sym at.1 ∙ none i (get_or links i some_link) (slice_get-get_or links i some_link at.0)))

-- numbers below a limit, or not above it, fail these tests
pub unreached : (most n : ℕ) → n < most → nat_le most n ≡ false
unreached most n below = grind (arith, nat_tests)

within : (most n : ℕ) → n ≤ most → nat_lt most n ≡ false
within most n few = grind (arith, nat_tests)

module _ (d : Domain) (good : IsDomain d) where
  -- the bridges' names differ, and so do the stations'
  bridges_apart : AreApart d.bridges
  bridges_apart = front_apart d.bridges d.stations good.distinct

  stations_apart : AreApart d.stations
  stations_apart = after_apart d.bridges d.stations good.distinct

  -- a node is found by its name
  node_is : (node : Node) → IsNode d node → node_or (index_of (name_of_node d node) d.bridges) (index_of (name_of_node d node) d.stations) ≡ Some node
  node_is (Bridge b) inside = ap (λ o. node_or o (index_of (name_of_node d (Bridge b)) d.stations)) (index_is d.bridges bridges_apart b inside)
  node_is (Station s) inside =
      let no_bridge : index_of (name_of_node d (Station s)) d.bridges ≡ None =
      no_index (name_of_node d (Station s)) d.bridges (λ i there. apart_across d.bridges d.stations good.distinct i s there inside) in
      (λ i. node_or (no_bridge i) (index_is d.stations stations_apart s inside i))

  -- a node that isn't a bridge is distinguished from it
  is_other : (node : Node) (b : ℕ) → node ≢ Bridge b → same_node node (Bridge b) ≡ false
  is_other node b other = elim (cases_Bool (same_node node (Bridge b))) [
    | inl same ↦ absurd (other (same_node_true node (Bridge b) same))
    | inr not_same ↦ not_same
  ]

  -- a link is found by the names of its ends
  link_is : (link : Link) → IsAcceptedLink d link →
      joined_link d.bridges d.stations (record { from = name_of_node d (Bridge link.from); to = name_of_node d link.to; times = times_of link }) ≡ Ok link
  link_is link accepted =
      let from_is = index_is d.bridges bridges_apart link.from accepted.from_bridge in
      let to_is = node_is link.to accepted.to_node in
      let write : ℕ → Node → Result Link DomainFault =
      λ from to. apart (name_of_node d link.to)
      (record { from = name_of_node d (Bridge link.from); to = name_of_node d link.to; times = times_of link }) from to in
      let unknown_from : DomainFault = fault.UnknownName (name_of_node d (Bridge link.from)) in
      let unknown_to : DomainFault = fault.UnknownName (name_of_node d link.to) in
      (λ i. and_then (ok_or (from_is i) unknown_from) (λ from. and_then (ok_or (to_is i) unknown_to) (λ to. write from to)))
      ∙ rw (is_other link.to link.from accepted.not_to_itself) refl

  -- and so is each link of a list
  links_are : (links : List Link) → ((k : ℕ) (link : Link) → slice_get links k ≡ Some link → IsAcceptedLink d link)
      → joined d.bridges d.stations (written_links d links).links ≡ Ok links
  links_are [] accepted = refl
  links_are (link ∷ links) accepted =
      let rest = links_are links (λ k other at. accepted (suc k) other at) in
      (λ i. and_first (link_is link (accepted 0 link refl) i) (rest i))

  -- no guard band, delay or gap is too long, and no two clocks are too far apart
  short_guards : first_long_guard d.cycle_time d.guard d.links ≡ None
  short_guards =
      finds_none (λ (link : Link). has_long_guard d.cycle_time d.guard (times_of link)) d.links
      (λ k link at. unreached d.cycle_time (guard_by d.guard link) (good.accepted.links_good k link at).guard_short)

  short_delays : first_long_delay d.sync d.guard d.links ≡ None
  short_delays =
      finds_none (λ (link : Link). has_long_delay d.sync d.guard (times_of link)) d.links
      (λ k link at. unreached (guard_by d.guard link) (link.delay + d.sync) (good.accepted.links_good k link at).delay_short)

  short_gaps : first_long_gap d.guard d.links ≡ None
  short_gaps =
      finds_none (λ (link : Link). has_long_gap d.guard (times_of link)) d.links
      (λ k link at. within (guard_by d.guard link) (time_of 12 (ticks_of_octet link.rate)) (good.accepted.links_good k link at).gap_short)

  short_syncs : first_long_sync d.sync d.links ≡ None
  short_syncs =
      finds_none (λ (link : Link). has_long_sync d.sync (times_of link)) d.links
      (λ k link at. within (time_of 72 (ticks_of_octet link.rate) + link.least) d.sync (good.accepted.links_good k link at).sync_short)

  -- the guard band is shorter than the cycle, and no limit is exceeded
  guard_is_short : nat_le d.cycle_time d.guard ≡ false
  guard_is_short = unreached d.cycle_time d.guard good.accepted.guard_short

  are_few : is_too_many d.limits d.bridges d.stations d.links ≡ false
  are_few =
      let one = within (bridges_within d.limits) (length d.bridges) good.accepted.few_bridges in
      let two = within (stations_within d.limits) (length d.stations) good.accepted.few_stations in
      let three = within (links_within d.limits) (length d.links) good.accepted.few_links in
      (λ i. one i || two i || three i)

  -- the links pass
  links_pass : with_links (written_domain d) d.links ≡ Ok d
  links_pass =
      (λ i. refuse (none_twice d.links good.no_link_twice i) fault.LinkTwice (
      refuse (if_so (guard_is_short i)) (λ _. fault.GuardTooLong) (
      refuse (short_guards i) fault.LinkGuardTooLong (
      refuse (short_delays i) fault.DelayTooLong (
      refuse (short_gaps i) fault.GapTooLong (
      refuse (if_so (are_few i)) (λ _. fault.TooMany) (
      refuse (short_syncs i) fault.SyncTooLong (
      Ok (with_these (written_domain d) d.links)))))))))

  -- the domain that its table is read as is the domain
  pub domain_passes : checked (written_domain d) ≡ Ok d
  domain_passes =
      (λ i. refuse (none_taken (d.bridges ++ d.stations) good.distinct i) fault.NameTaken (
      and_then (links_are d.links good.accepted.links_good i) (with_links (written_domain d))))
      ∙ links_pass
