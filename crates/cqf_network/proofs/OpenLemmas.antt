-- A network file that passed its checks has an accepted plan with each open cycle time, and talkers' links of its own.
use Rattle.std.proofs.Common.{◌≡◌, ◌≢◌, ◌≤◌, ◌<◌, ◌+◌, ◌∙◌, ℕ, zero, suc, All, AllPairs, Bool, true, false, ◌&&◌, ◌||◌, Contains, List, [], ◌∷◌, ◌++◌, Option, Some, None}
use Rattle.std.proofs.Common.{cond, get_or, length, map, max, nat_le, nat_lt, ap, inl, inr, refl, subst, sym, arith}
use Rattle.std.specs.Prelude.{find, not, slice_get, unwrap_or}
use Rattle.std.specs.List.{list_all, list_any}
use Rattle.std.specs.Option.{option_or}
use Rattle.std.proofs.lemmas.Bool.{cases_lt, true≢false}
use Rattle.std.proofs.lemmas.Bool.Decides.{nat_tests}
use Rattle.std.proofs.lemmas.List.{length-map}
use Rattle.std.proofs.lemmas.List.Kept.{AllPairs-filter}
use Rattle.std.proofs.lemmas.List.Sums.{length-filter}
use Rattle.std.proofs.lemmas.Option.{slice_get-get_or}
use Rattle.cqf_lists.proofs.Members.{all_from_members, any_member, contains_at, contains_from_filter, contains_from_map, find_member, find_some}
use Rattle.cqf_lists.proofs.Pairs.{pairs_from_map, pairs_map, pairs_weaker}
use Rattle.std.proofs.Math.Nat.{le-max_left, le-max_right, max-eq_left, max-eq_right}
use Rattle.cqf_units.specs.Timing.{ticks_of_octet, time_of}
use Rattle.cqf_model.specs.declared.limits.Limits.{Limits}
use Rattle.cqf_model.specs.declared.topology.Link.{Link}
use Rattle.cqf_model.specs.declared.topology.Node.{Node}
use Rattle.cqf_model.specs.declared.topology.Node.TheVariants.{Bridge, Station}
use Rattle.cqf_model.specs.Domain.{Domain, IsAcceptedLink, IsNode, guard_by}
use Rattle.cqf_model.proofs.Links.{same_node_itself}
use Rattle.cqf_topology.specs.DomainText.{IsDomain, NoLinkTwice, first_taken}
use Rattle.cqf_topology.specs.LinkTimes.{guard_within, has_long_delay as is_delay_long, has_long_gap as is_gap_long, has_long_sync as is_sync_long}
use Rattle.cqf_topology.proofs.Accepted.{first_taken-append, not_above, not_reached}
use Rattle.cqf_topology.proofs.Distinct.{first_taken-None}
use Rattle.cqf_topology.proofs.Repeats.{first_repeat-None}
use Rattle.cqf_topology.proofs.Repeats.{first_repeat as first_of_repeats}
use Rattle.cqf_network.specs.declared.domain.TalkerLink.{TalkerLink}
use Rattle.cqf_network.specs.Edges.{Edge, ends_of, first_repeat, has_long_delay, has_long_gap, has_long_guard, has_long_sync, is_station}
use Rattle.cqf_network.specs.Edges.{is_talkers, may_lead, bridge_edge_count, reaches_each, same_pair}
use Rattle.cqf_network.specs.Edges.{talkers_of}
use Rattle.cqf_network.specs.NetworkDomain.{HasTalkerLinks, IsCycleTime, IsOpenCycle, IsReadableNetwork, IsNetwork, IsTalkerLink}
use Rattle.cqf_network.specs.NetworkDomain.{NodeInside, NetworkDomain, domain_at}
use Rattle.cqf_network.specs.NetworkDomain.{link_of, longest_guard, longest_of, number_of, open_cycle, bridge_edges, network_with, talker_of}
use Rattle.cqf_network.specs.NetworkText.{NetworkText}
use Rattle.cqf_network.proofs.CheckedLemmas.{PassesNetwork}
use Rattle.cqf_network.proofs.InsideLemmas.{IsJoinedEdge}

-- what holds for each element of a list holds for a member
of_member : {X : Type 0} (P : X → Type 0) (xs : List X) (x : X) → All P xs → Contains xs x → P x
of_member P xs x all c = subst P c.2 (all c.0 x c.1)

-- what isn't found doesn't pass
none_found : {X : Type 0} (test : X → Bool) (xs : List X) (x : X) → find test xs ≡ None → Contains xs x → test x ≡ false
none_found test xs x none there = by (test x) refl
  where
    by : (b : Bool) → test x ≡ b → test x ≡ false
    by true e = let (y, is) = find_some test xs x there e in absurd cc
    by false e = e

-- if the guard band isn't at least as long as some candidate, that candidate is above it
pub some_above : (guard : ℕ) (cycles : List ℕ) → list_all (λ cycle. nat_le cycle guard) cycles ≡ false → list_any (nat_lt guard) cycles ≡ true
some_above guard [] h = absurd cc
some_above guard (cycle ∷ cycles) h = by (nat_le cycle guard) (nat_lt guard cycle) refl refl (some_above guard cycles) h
  where
    by : (reached above : Bool) → nat_le cycle guard ≡ reached → nat_lt guard cycle ≡ above →
        (list_all (λ cycle. nat_le cycle guard) cycles ≡ false → list_any (nat_lt guard) cycles ≡ true) →
        (reached && list_all (λ cycle. nat_le cycle guard) cycles) ≡ false → (above || list_any (nat_lt guard) cycles) ≡ true
    by reached true r a rest h = refl
    by true false r a rest h = rest h
    by false false r a rest h = absurd (unreached r a)
      where
        unreached : nat_le cycle guard ≡ false → nat_lt guard cycle ≡ false → ⊥
        unreached r a = grind (arith, nat_tests)

-- some candidate is above each guard band
pub one_above : (network : NetworkDomain) → IsNetwork network → find (nat_lt (longest_guard network)) network.candidates ≡ None → ⊥
one_above network is none =
    let (cycle, there, above) = any_member (nat_lt (longest_guard network)) network.candidates is.some_open in
    true≢false (sym above ∙ none_found (nat_lt (longest_guard network)) network.candidates cycle none there)

-- a number above another, by the test
is_above : (guard cycle : ℕ) → nat_lt guard cycle ≡ true → guard < cycle
is_above guard cycle above = grind (arith, nat_tests)

-- the first of them is open
pub open_is_open : (network : NetworkDomain) → IsNetwork network → IsOpenCycle network (open_cycle network)
open_is_open network is = by (find (nat_lt (longest_guard network)) network.candidates) refl
  where
    by : (o : Option ℕ) → find (nat_lt (longest_guard network)) network.candidates ≡ o → IsOpenCycle network (unwrap_or o 0)
    by (Some cycle) found =
        let (there, passes) = find_member (nat_lt (longest_guard network)) network.candidates cycle found in
        record {
          in_range = of_member IsCycleTime network.candidates cycle is.are_candidates.cycle_times there;
          above_guards = is_above (longest_guard network) cycle passes;
        }
    by None none = absurd (one_above network is none)

-- the first pair that repeats, by the definition of the lemmas
repeat_is : (earlier pairs : List (Node × Node)) → first_of_repeats same_pair earlier pairs ≡ first_repeat earlier pairs
repeat_is earlier [] = refl
repeat_is earlier (pair ∷ pairs) = ap (λ rest. cond (list_any (same_pair pair) earlier) (Some (length earlier)) rest) (repeat_is (earlier ++ pair ∷ []) pairs)

-- a pair is the same as itself
same_pair_itself : (a b : Node × Node) → a ≡ b → same_pair b a ≡ true
same_pair_itself a b same = ap (same_pair b) same ∙ (λ i. same_node_itself b.0 i && same_node_itself b.1 i)

-- if no pair repeats, each two differ
pub pairs_apart : (pairs : List (Node × Node)) → first_repeat [] pairs ≡ None → AllPairs (λ a b. a ≢ b) pairs
pairs_apart pairs none i j d before inside same =
    first_repeat-None same_pair [] pairs (repeat_is [] pairs ∙ none) j (omega arith) (record {
      twin = i;
      earlier = before;
      a = get_or pairs i d;
      b = get_or pairs j d;
      at_twin = slice_get-get_or pairs i d (omega (arith, before, inside));
      at_index = slice_get-get_or pairs j d inside;
      equal = same_pair_itself (get_or pairs i d) (get_or pairs j d) same;
    })

-- nodes of one kind are distinguished by their numbers
same_bridge : (a b : Node) → is_station a ≡ false → is_station b ≡ false → number_of a ≡ number_of b → a ≡ b
same_bridge (Bridge a) (Bridge b) p q same = ap Bridge same
same_bridge (Bridge a) (Station b) p q same = absurd cc
same_bridge (Station a) b p q same = absurd cc

same_station : (a b : Node) → is_station a ≡ true → is_station b ≡ true → number_of a ≡ number_of b → a ≡ b
same_station (Station a) (Station b) p q same = ap Station same
same_station (Station a) (Bridge b) p q same = absurd cc
same_station (Bridge a) b p q same = absurd cc

-- a bridge in its range, a node in its range, and a node to which a bridge may lead
bridge_there : (bridges stations : ℕ) (from : Node) → is_station from ≡ false → NodeInside bridges stations from → number_of from < bridges
bridge_there bridges stations (Bridge b) is inside = inside
bridge_there bridges stations (Station s) is inside = absurd cc

node_there : (d : Domain) (node : Node) → NodeInside (length d.bridges) (length d.stations) node → IsNode d node
node_there d (Bridge b) inside = inside
node_there d (Station s) inside = inside

other_end : (from to : Node) → is_station from ≡ false → may_lead from to ≡ true → to ≢ Bridge (number_of from)
other_end (Bridge a) (Bridge b) is may same = let equal : b ≡ a = cc in numbers a b equal may
  where
    numbers : (a b : ℕ) → b ≡ a → may_lead (Bridge a) (Bridge b) ≡ true → ⊥
    numbers a b equal may = grind (arith, nat_tests)
other_end (Bridge a) (Station s) is may same = cc
other_end (Station s) to is may same = absurd cc

-- and the node to which a station may lead
talker_there : (bridges stations : ℕ) (from to : Node) → is_station from ≡ true → may_lead from to ≡ true → NodeInside bridges stations from →
    NodeInside bridges stations to → (number_of from < stations) × (number_of to < bridges)
talker_there bridges stations (Station s) (Bridge b) is may from_in to_in = (from_in, to_in)
talker_there bridges stations (Station s) (Station t) is may from_in to_in = absurd cc
talker_there bridges stations (Bridge a) to is may from_in to_in = absurd cc

-- which is no station
to_bridge : (from to : Node) → is_station from ≡ true → may_lead from to ≡ true → is_station to ≡ false
to_bridge (Station s) (Bridge b) is may = refl
to_bridge (Station s) (Station t) is may = absurd cc
to_bridge (Bridge a) to is may = absurd cc

-- if a link of the plan doesn't fail a check, it hasn't the property that the check refuses
not_such : (talkers such : Bool) → talkers ≡ false → (not talkers && such) ≡ false → such ≡ false
not_such true such is e = absurd (true≢false is)
not_such false such is e = e

-- the longest guard band is that of a link, or the general one
longest_unreached : (cycles : List ℕ) (guard : ℕ) (links : List Link) → reaches_each cycles guard ≡ false →
    ((k : ℕ) (link : Link) → slice_get links k ≡ Some link → (others : ℕ) → reaches_each cycles others ≡ false →
    reaches_each cycles (guard_by others link) ≡ false) → reaches_each cycles (longest_of guard links) ≡ false
longest_unreached cycles guard [] is each = is
longest_unreached cycles guard (link ∷ links) is each =
    longest_unreached cycles (max guard (guard_by guard link)) links (either guard (guard_by guard link) is (each 0 link refl guard is))
    (λ k other at. each (suc k) other at)
  where
    -- the greater of two is one of them
    either : (a b : ℕ) → reaches_each cycles a ≡ false → reaches_each cycles b ≡ false → reaches_each cycles (max a b) ≡ false
    either a b one other = elim (cases_lt a b) [
      | inl less ↦ subst (λ n. reaches_each cycles n ≡ false) (sym (max-eq_right (omega (arith, less)))) other
      | inr more ↦ subst (λ n. reaches_each cycles n ≡ false) (sym (max-eq_left (omega (arith, more)))) one
    ]

-- no guard band is above the longest
longest_others : (guard : ℕ) (links : List Link) → guard ≤ longest_of guard links
longest_others guard [] = omega arith
longest_others guard (link ∷ links) =
    let here : guard ≤ max guard (guard_by guard link) = le-max_left guard (guard_by guard link) in
    let more : max guard (guard_by guard link) ≤ longest_of guard (link ∷ links) = longest_others (max guard (guard_by guard link)) links in
    omega (arith, here, more)

longest_own : (guard others : ℕ) (links : List Link) → guard ≤ others → (k : ℕ) (link : Link) → slice_get links k ≡ Some link →
    guard_by guard link ≤ longest_of others links
longest_own guard others [] few k link at = absurd cc
longest_own guard others (first ∷ links) few zero link at =
    let same : first ≡ link = cc in
    let own : guard_by guard first ≤ guard_by others first = by first.guard in
    let here : guard_by others first ≤ max others (guard_by others first) = le-max_right others (guard_by others first) in
    let more : max others (guard_by others first) ≤ longest_of others (first ∷ links) = longest_others (max others (guard_by others first)) links in
    let all : guard_by guard first ≤ longest_of others (first ∷ links) = omega (arith, own, here, more) in
    subst (λ (l : Link). guard_by guard l ≤ longest_of others (first ∷ links)) same all
  where
    -- by its own, or by the general one
    by : (own : Option ℕ) → unwrap_or own guard ≤ unwrap_or own others
    by None = few
    by (Some n) = omega arith
longest_own guard others (first ∷ links) few (suc k) link at =
    let more : others ≤ max others (guard_by others first) = le-max_left others (guard_by others first) in
    longest_own guard (max others (guard_by others first)) links (omega (arith, few, more)) k link at

-- if a test's negation holds, the test doesn't
not_denied : (b : Bool) → not b ≡ true → b ≡ false
not_denied true e = absurd cc
not_denied false e = refl

module _ (text : NetworkText) (edges : List Edge) (readable : IsReadableNetwork text) (passed : PassesNetwork text edges)
    (all : All (IsJoinedEdge (length text.bridges) (length text.stations)) edges) where
  -- the edges of the plan leave bridges
  of_bridges : (edge : Edge) → Contains (bridge_edges edges) edge → Contains edges edge × (is_talkers edge ≡ false)
  of_bridges edge c =
      let (there, not_talkers) = contains_from_filter (λ (e : Edge). not (is_talkers e)) edges edge c in (there, not_denied (is_talkers edge) not_talkers)

  -- a link of the plan is accepted if its guard band is below the cycle time
  edge_accepted : (cycle_time : ℕ) (edge : Edge) → Contains (bridge_edges edges) edge → guard_by text.guard (link_of edge) < cycle_time →
      IsAcceptedLink (domain_at (network_with text edges) cycle_time) (link_of edge)
  edge_accepted cycle_time edge c below =
      let (there, not_talkers) = of_bridges edge c in
      let is = of_member (IsJoinedEdge (length text.bridges) (length text.stations)) edges edge all there in
      record {
        from_bridge = bridge_there (length text.bridges) (length text.stations) edge.from not_talkers is.inside.from_inside;
        to_node = node_there (domain_at (network_with text edges) cycle_time) edge.to is.inside.to_inside;
        not_to_itself = other_end edge.from edge.to not_talkers is.may;
        least_short = is.times_are_read.ordered;
        delay_short = not_reached (guard_within text.guard edge.times) (edge.times.delay + text.sync)
            (not_such (is_talkers edge) (is_delay_long text.sync text.guard edge.times) not_talkers
            (none_found (has_long_delay text.sync text.guard) edges edge passed.no_delay there));
        sync_short = not_above (time_of 72 (ticks_of_octet edge.times.rate) + edge.times.least) text.sync
            (not_such (is_talkers edge) (is_sync_long text.sync edge.times) not_talkers (none_found (has_long_sync text.sync) edges edge passed.no_sync there));
        gap_short = not_above (guard_within text.guard edge.times) (time_of 12 (ticks_of_octet edge.times.rate))
            (not_such (is_talkers edge) (is_gap_long text.guard edge.times) not_talkers (none_found (has_long_gap text.guard) edges edge passed.no_gap there));
        guard_short = below;
      }

  link_accepted : (cycle_time : ℕ) → longest_guard (network_with text edges) < cycle_time → (l : ℕ) (link : Link) →
      slice_get (map link_of (bridge_edges edges)) l ≡ Some link → IsAcceptedLink (domain_at (network_with text edges) cycle_time) link
  link_accepted cycle_time above l link at =
      let links = map link_of (bridge_edges edges) in
      let (edge, there, is) = contains_from_map link_of (bridge_edges edges) link (contains_at links l link at) in
      let below : guard_by text.guard link < cycle_time = omega (arith, above, longest_own text.guard text.guard links (omega arith) l link at) in
      subst (IsAcceptedLink (domain_at (network_with text edges) cycle_time)) is
      (edge_accepted cycle_time edge there (subst (λ (x : Link). guard_by text.guard x < cycle_time) (sym is) below))

  -- no guard band is at least as long as each candidate
  guards_unreached : reaches_each text.candidates (longest_guard (network_with text edges)) ≡ false
  guards_unreached =
      longest_unreached text.candidates text.guard (map link_of (bridge_edges edges)) passed.some_open (λ k link at others is.
      let (edge, there, same) = contains_from_map link_of (bridge_edges edges) link (contains_at (map link_of (bridge_edges edges)) k link at) in
      let (inside, not_talkers) = of_bridges edge there in
      let own = not_such (is_talkers edge) (reaches_each text.candidates (guard_within text.guard edge.times)) not_talkers
      (none_found (has_long_guard text.candidates text.guard) edges edge passed.no_guard inside) in
      subst (λ (x : Link). reaches_each text.candidates (guard_by others x) ≡ false) same (by edge.times.guard own others is))
    where
      -- by its own, or by the general one
      by : (own : Option ℕ) → reaches_each text.candidates (unwrap_or own text.guard) ≡ false → (others : ℕ) → reaches_each text.candidates others ≡ false →
          reaches_each text.candidates (unwrap_or own others) ≡ false
      by None own others is = is
      by (Some n) own others is = own

  -- no link of the plan occurs twice
  pub plan_once : NoLinkTwice (map link_of (bridge_edges edges))
  plan_once =
      pairs_map (λ (a b : Link). ¬ ((a.from ≡ b.from) × (a.to ≡ b.to))) link_of (bridge_edges edges)
      (pairs_weaker (λ (x z : Edge). ends_of x ≢ ends_of z) (λ (x z : Edge). ¬ ((number_of x.from ≡ number_of z.from) × (x.to ≡ z.to))) (bridge_edges edges)
      (λ x z x_in z_in apart ends.
      let from = same_bridge x.from z.from (of_bridges x x_in).1 (of_bridges z z_in).1 ends.0 in apart (λ i. (from i, ends.1 i)))
      (AllPairs-filter (λ (x z : Edge). ends_of x ≢ ends_of z) (λ (e : Edge). not (is_talkers e)) edges
      (pairs_from_map (λ a b. a ≢ b) ends_of edges (pairs_apart (map ends_of edges) passed.no_twice))))

  -- the plan's links are counted
  bridge_links : length (map link_of (bridge_edges edges)) ≡ bridge_edge_count edges
  bridge_links = length-map (bridge_edges edges) link_of ∙ length-filter (λ (e : Edge). not (is_talkers e)) edges

  -- the plan's domain with an open cycle time is accepted
  plan_accepted : first_taken [] text.bridges ≡ None → first_taken text.bridges text.stations ≡ None → (cycle_time : ℕ) →
      IsOpenCycle (network_with text edges) cycle_time → IsDomain (domain_at (network_with text edges) cycle_time)
  plan_accepted bridges_apart stations_apart cycle_time open_to = record {
    accepted = record {
      cycle_least = open_to.in_range.least;
      cycle_most = open_to.in_range.most;
      guard_some = readable.guard_some;
      guard_short = omega (arith, open_to.above_guards, longest_others text.guard (map link_of (bridge_edges edges)));
      overhead_short = readable.overhead_most;
      some_bridge = readable.some_bridge;
      few_bridges = passed.few_bridges;
      few_stations = passed.few_stations;
      few_links = omega (arith, bridge_links, passed.few_links);
      links_good = link_accepted cycle_time open_to.above_guards;
    };
    sync_most = readable.sync_most;
    bridges_named = readable.bridges_named;
    stations_named = readable.stations_named;
    distinct = (first_taken-None [] (text.bridges ++ text.stations)
        (first_taken-append [] text.bridges text.stations ∙ ap (λ o. option_or o (first_taken text.bridges text.stations)) bridges_apart ∙ stations_apart)).1;
    no_link_twice = plan_once;
  }

  -- a talker's edge, of those that were joined
  of_talker : (edge : Edge) → Contains (talkers_of edges) edge → IsJoinedEdge (length text.bridges) (length text.stations) edge × (is_talkers edge ≡ true)
  of_talker edge c =
      let (there, talks) = contains_from_filter is_talkers edges edge c in
      (of_member (IsJoinedEdge (length text.bridges) (length text.stations)) edges edge all there, talks)

  -- a talker's link leaves a station and ends in a bridge
  talker_good : (link : TalkerLink) → Contains (map talker_of (talkers_of edges)) link → IsTalkerLink (network_with text edges) link
  talker_good link c =
      let (edge, kept, same) = contains_from_map talker_of (talkers_of edges) link c in
      let (is, talks) = of_talker edge kept in
      let ends = talker_there (length text.bridges) (length text.stations) edge.from edge.to talks is.may is.inside.from_inside is.inside.to_inside in
      subst (IsTalkerLink (network_with text edges)) same (record {
        station_there = ends.0;
        bridge_there = ends.1;
        delay_most = is.times_are_read.delay_most;
        ordered = is.times_are_read.ordered;
        other_is_size = is.other_is_read;
      })

  -- two talkers' edges with the same numbers have the same ends
  same_numbers : (x z : Edge) → Contains (talkers_of edges) x → Contains (talkers_of edges) z →
      (number_of x.from ≡ number_of z.from) × (number_of x.to ≡ number_of z.to) → ends_of x ≡ ends_of z
  same_numbers x z x_in z_in same =
      let (x_is, x_talks) = of_talker x x_in in
      let (z_is, z_talks) = of_talker z z_in in
      let from = same_station x.from z.from x_talks z_talks same.0 in
      let to = same_bridge x.to z.to (to_bridge x.from x.to x_talks x_is.may) (to_bridge z.from z.to z_talks z_is.may) same.1 in
      λ i. (from i, to i)

  -- no two have the same ends, and there are few
  talkers_good : HasTalkerLinks (network_with text edges)
  talkers_good = record {
    each_there = all_from_members (IsTalkerLink (network_with text edges)) (map talker_of (talkers_of edges)) talker_good;
    ends_once = pairs_map (λ (a b : TalkerLink). ¬ ((a.station ≡ b.station) × (a.bridge ≡ b.bridge))) talker_of (talkers_of edges)
        (pairs_weaker (λ (x z : Edge). ends_of x ≢ ends_of z)
        (λ (x z : Edge). ¬ ((number_of x.from ≡ number_of z.from) × (number_of x.to ≡ number_of z.to))) (talkers_of edges)
        (λ x z x_in z_in apart same. apart (same_numbers x z x_in z_in same))
        (AllPairs-filter (λ (x z : Edge). ends_of x ≢ ends_of z) is_talkers edges
        (pairs_from_map (λ a b. a ≢ b) ends_of edges (pairs_apart (map ends_of edges) passed.no_twice))));
    few = omega (arith, length-map (talkers_of edges) talker_of, passed.few_access);
  }

  -- so it is a network file's domain
  pub passed_is_network : first_taken [] text.bridges ≡ None → first_taken text.bridges text.stations ≡ None → IsNetwork (network_with text edges)
  passed_is_network bridges_apart stations_apart = record {
    domains = plan_accepted bridges_apart stations_apart;
    are_candidates = readable.are_candidates;
    some_open = some_above (longest_guard (network_with text edges)) text.candidates guards_unreached;
    has_talkers = talkers_good;
  }

-- domains of equal parts are equal
pub same_domain : (limits limits' : Limits) (candidates candidates' : List ℕ) (guard guard' sync sync' overhead overhead' : ℕ) (bridges bridges' stations stations' : List (List ℕ)) (links links' : List Link)
    (talkers talkers' : List TalkerLink) → limits ≡ limits' → candidates ≡ candidates' → guard ≡ guard' → sync ≡ sync' → overhead ≡ overhead' → bridges ≡ bridges' → stations ≡ stations' → links ≡ links' →
    talkers ≡ talkers'
    → ◌≡◌ {A = NetworkDomain}
    (record { limits = limits; candidates = candidates; guard = guard; sync = sync; overhead = overhead; bridges = bridges; stations = stations; links = links; talkers = talkers })
    (record { limits = limits'; candidates = candidates'; guard = guard'; sync = sync'; overhead = overhead'; bridges = bridges'; stations = stations'; links = links'; talkers = talkers' })
same_domain limits limits' candidates candidates' guard guard' sync sync' overhead overhead' bridges bridges' stations stations' links links' talkers talkers' m c g a o b s l t =
    λ i. record { limits = m i; candidates = c i; guard = g i; sync = a i; overhead = o i; bridges = b i; stations = s i; links = l i; talkers = t i }
