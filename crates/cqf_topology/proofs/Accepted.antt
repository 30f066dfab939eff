-- A domain that passed its checks is accepted.
use Rattle.std.proofs.Common.{◌≡◌, ◌≢◌, ℕ, ◌≤◌, ◌<◌, ◌+◌, ◌*◌, List, [], ◌∷◌, ◌++◌, Bool, true, false, nat_le, nat_lt, cond, Option, Some, None, Result, Ok}
use Rattle.std.proofs.Common.{Err, length, slice_get, get_or, position, All, IsTrue, ok_or, refl, ap, sym, subst, ◌∙◌, append_assoc, arith, zero, suc}
use Rattle.std.specs.List.{position_from}
use Rattle.std.specs.Option.{option_or}
use Rattle.std.proofs.lemmas.Bool.Decides.{nat_tests}
use Rattle.std.proofs.lemmas.Iterator.Adapters.{position_from-zero}
use Rattle.std.proofs.lemmas.List.{append-nil}
use Rattle.std.proofs.lemmas.List.Quantifiers.{position-Some}
use Rattle.std.proofs.lemmas.Option.{get_or_from_slice_get, slice_get-get_or, slice_get_within}
use Rattle.cqf_units.specs.Name.{is_name}
use Rattle.cqf_units.specs.Timing.{ticks_of_octet, time_of}
use Rattle.cqf_model.specs.declared.limits.Limits.{Limits}
use Rattle.cqf_model.specs.declared.topology.Link.{Link}
use Rattle.cqf_model.specs.declared.topology.Node.{Node}
use Rattle.cqf_model.specs.declared.topology.Node.TheVariants.{Bridge, Station}
use Rattle.cqf_model.specs.Domain.{Domain, IsNode, guard_by, node_or, same_node}
use Rattle.cqf_topology.specs.declared.draft.DraftLink.{DraftLink}
use Rattle.cqf_topology.specs.declared.keys.Key.TheVariants.{Cycle, Guard, Bridges, Stations, Links}
use Rattle.cqf_topology.specs.declared.faults.DomainFault.{DomainFault}
use Rattle.cqf_topology.specs.declared.faults.DomainFault.TheVariants as fault
use Rattle.cqf_lists.specs.Results.{and_then, refuse}
use Rattle.cqf_topology.specs.Fields.{and_first, read_at, whole_document, tables_of_key, number_from, names_at}
use Rattle.cqf_topology.specs.LinkTimes.{AreReadTimes, has_long_delay, has_long_gap, has_long_guard, has_long_sync, times_of}
use Rattle.cqf_topology.specs.DomainText.{DomainText, IsReadable, HasNames, IsNumberedDomain, IsDomain, NoLinkTwice, is_among, first_taken, index_of, apart}
use Rattle.cqf_topology.specs.DomainText.{joined, if_some, link_read, link_keys, link_with, domain_keys, domain_from, read_text, checked}
use Rattle.cqf_topology.specs.DomainText.{joined_link, overhead_from, sync_from, with_links, with_these}
use Rattle.cqf_topology.specs.JoinedLink.{HasSmallEnds, IsSmallNode}
use Rattle.cqf_topology.proofs.Distinct.{first_taken-None}
use Rattle.cqf_topology.proofs.Ordered.{links-read, overhead-range, sync-range}
use Rattle.cqf_topology.proofs.Passed.{Passes}
use Rattle.cqf_topology.proofs.Refusals.{and_then-Ok, refuse-Ok, ok_or-Ok, number-range, names-named, if_some-Ok}

-- what a text says is in its ranges and forms
pub domain_from-readable : (limits : Limits) (table : _) (d : DomainText) → domain_from limits table ≡ Ok d → IsReadable d
domain_from-readable limits table d h =
    let (cycle_time, at_cycle, h1) = and_then-Ok (read_at Cycle (number_from 10000 10000000) table) _ d h in
    let (guard, at_guard, h2) = and_then-Ok (read_at Guard (number_from 1 10000000) table) _ d h1 in
    let (sync, at_sync, h3) = and_then-Ok (sync_from table) _ d h2 in
    let (overhead, at_overhead, h4) = and_then-Ok (overhead_from table) _ d h3 in
    let (bridges, at_bridges, h5) = and_then-Ok (and_then (names_at Bridges table) (if_some Bridges)) _ d h4 in
    let (stations, at_stations, h6) = and_then-Ok (names_at Stations table) _ d h5 in
    let (links, at_links, h7) = and_then-Ok (tables_of_key Links link_read table) _ d h6 in
    let (names, named, some) = and_then-Ok (names_at Bridges table) (if_some Bridges) bridges at_bridges in
    let some_is = if_some-Ok Bridges names bridges some in
    let cycle_range = number-range Cycle 10000 10000000 table cycle_time at_cycle in
    let guard_range = number-range Guard 1 10000000 table guard at_guard in
    let d' : DomainText =
    record { limits = limits; cycle_time = cycle_time; guard = guard; sync = sync; overhead = overhead; bridges = bridges; stations = stations; links = links } in
    let is : d' ≡ d = cc in
    subst IsReadable is (record {
      cycle_least = cycle_range.0;
      cycle_most = cycle_range.1;
      guard_some = guard_range.0;
      sync_most = sync-range table sync at_sync;
      overhead_most = overhead-range table overhead at_overhead;
      some_bridge = some_is.1;
      bridges_named = subst (All (λ name. IsTrue (is_name name))) some_is.0 (names-named Bridges table names named);
      stations_named = names-named Stations table stations at_stations;
      times_are_read = links-read table links at_links;
    })

-- what is read of a text is readable
pub read_text-readable : (limits : Limits) (text : List ℕ) (d : DomainText) → read_text limits text ≡ Ok d → IsReadable d
read_text-readable limits text d h =
    let (table, whole, from) = and_then-Ok (whole_document domain_keys Links link_keys text) (domain_from limits) d h in
    domain_from-readable limits table d from

-- the first taken name of two lists, one after the other
pub first_taken-append : (e xs ys : List (List ℕ)) → first_taken e (xs ++ ys) ≡ option_or (first_taken e xs) (first_taken (e ++ xs) ys)
first_taken-append e [] ys = ap (λ front. first_taken front ys) (sym (append-nil e))
first_taken-append e (x ∷ xs) ys =
    by (is_among x e)
    (first_taken-append (e ++ x ∷ []) xs ys
    ∙ ap (λ front. option_or (first_taken (e ++ x ∷ []) xs) (first_taken front ys)) (append_assoc e (x ∷ []) xs))
  where
    -- one more name first, taken or not, leaves the first taken name in the first list, or else in the second
    by : (b : Bool) → first_taken (e ++ x ∷ []) (xs ++ ys) ≡ option_or (first_taken (e ++ x ∷ []) xs) (first_taken (e ++ (x ∷ xs)) ys)
        → cond b (Some x) (first_taken (e ++ x ∷ []) (xs ++ ys)) ≡ option_or (cond b (Some x) (first_taken (e ++ x ∷ []) xs)) (first_taken (e ++ (x ∷ xs)) ys)
    by true rest = refl
    by false rest = rest

-- the same of equal names
pub taken-at : (earlier earlier' names names' : List (List ℕ)) → earlier ≡ earlier' → names ≡ names' → (r : Result (List (List ℕ)) DomainFault)
    → refuse (first_taken earlier names) fault.NameTaken (Ok names) ≡ r → refuse (first_taken earlier' names') fault.NameTaken (Ok names') ≡ r
taken-at earlier earlier' names names' p q r h = (λ i. refuse (first_taken (sym p i) (sym q i)) fault.NameTaken (Ok (sym q i))) ∙ h

module _ (d : DomainText) where
  -- the names are what was numbered, and none of them is taken
  pub distinct-names : (bridges stations : List (List ℕ)) → first_taken [] d.bridges ≡ None → first_taken d.bridges d.stations ≡ None →
      first_taken [] (d.bridges ++ d.stations) ≡ None
  distinct-names bridges stations one two = first_taken-append [] d.bridges d.stations ∙ ap (λ o. option_or o (first_taken d.bridges d.stations)) one ∙ two

  -- a text whose names and links are numbered
  pub numbered : (bridges stations : List (List ℕ)) (links : List Link) → HasNames d bridges stations → joined bridges stations d.links ≡ Ok links
      → IsNumberedDomain d bridges stations links
  numbered bridges stations links names h =
      let (free, is) = refuse-Ok (first_taken [] d.bridges) fault.NameTaken (Ok d.bridges) bridges names.has_bridges.bridges_are in
      let same : bridges ≡ d.bridges = cc in
      let (free_too, is_too) = refuse-Ok (first_taken bridges d.stations) fault.NameTaken (Ok d.stations) stations names.stations_are in
      let same_too : stations ≡ d.stations = cc in
      let free_there : first_taken d.bridges d.stations ≡ None = cc in
      record {
        readable = names.has_bridges.readable;
        bridges_are = same;
        stations_are = same_too;
        distinct = distinct-names bridges stations free free_there;
        joined_are = (λ i. joined (sym same i) (sym same_too i) d.links) ∙ h;
      }

  -- a bridge's name is taken
  pub checked-bridge_taken : (e : DomainFault) → refuse (first_taken [] d.bridges) fault.NameTaken (Ok d.bridges) ≡ Err e → checked d ≡ Err e
  checked-bridge_taken e h = by (first_taken [] d.bridges) refl h
    where
      by : (o : Option (List ℕ)) → first_taken [] d.bridges ≡ o → refuse o fault.NameTaken (Ok d.bridges) ≡ Err e → checked d ≡ Err e
      by None at h = absurd (cc)
      by (Some name) at h =
          let taken : first_taken [] (d.bridges ++ d.stations) ≡ Some name = first_taken-append [] d.bridges d.stations
          ∙ ap (λ o. option_or o (first_taken d.bridges d.stations)) at in
          let same : fault.NameTaken name ≡ e = cc in
          rw taken (ap Err same)

  -- a station's name is taken
  pub checked-station_taken : (bridges : List (List ℕ)) (e : DomainFault) → refuse (first_taken [] d.bridges) fault.NameTaken (Ok d.bridges) ≡ Ok bridges
      → refuse (first_taken bridges d.stations) fault.NameTaken (Ok d.stations) ≡ Err e → checked d ≡ Err e
  checked-station_taken bridges e h1 h2 =
      let (free, is) = refuse-Ok (first_taken [] d.bridges) fault.NameTaken (Ok d.bridges) bridges h1 in
      let same : bridges ≡ d.bridges = cc in
      by (first_taken d.bridges d.stations) refl free ((λ i. refuse (first_taken (sym same i) d.stations) fault.NameTaken (Ok d.stations)) ∙ h2)
    where
      by : (o : Option (List ℕ)) → first_taken d.bridges d.stations ≡ o → first_taken [] d.bridges ≡ None → refuse o fault.NameTaken (Ok d.stations) ≡ Err e →
          checked d ≡ Err e
      by None at free h = absurd (cc)
      by (Some name) at free h =
          let taken : first_taken [] (d.bridges ++ d.stations) ≡ Some name =
          first_taken-append [] d.bridges d.stations ∙ ap (λ o. option_or o (first_taken d.bridges d.stations)) free ∙ at in
          let same : fault.NameTaken name ≡ e = cc in
          rw taken (ap Err same)

  -- an end of a link is unknown
  pub checked-unknown : (bridges stations : List (List ℕ)) (e : DomainFault) → refuse (first_taken [] d.bridges) fault.NameTaken (Ok d.bridges) ≡ Ok bridges
      → refuse (first_taken bridges d.stations) fault.NameTaken (Ok d.stations) ≡ Ok stations
      → joined bridges stations d.links ≡ Err e → checked d ≡ Err e
  checked-unknown bridges stations e h1 h2 h3 =
      let (free, is) = refuse-Ok (first_taken [] d.bridges) fault.NameTaken (Ok d.bridges) bridges h1 in
      let same : bridges ≡ d.bridges = cc in
      let (free_too, is_too) = refuse-Ok (first_taken bridges d.stations) fault.NameTaken (Ok d.stations) stations h2 in
      let same_too : stations ≡ d.stations = cc in
      let free_there : first_taken d.bridges d.stations ≡ None = cc in
      let unknown : joined d.bridges d.stations d.links ≡ Err e = (λ i. joined (sym same i) (sym same_too i) d.links) ∙ h3 in
      rw (distinct-names bridges stations free free_there, unknown) refl

  -- the names and the links are good
  pub checked-numbered : (bridges stations : List (List ℕ)) (links : List Link) → IsNumberedDomain d bridges stations links → checked d ≡ with_links d links
  checked-numbered bridges stations links n = rw (n.distinct, n.joined_are) refl

-- if no index passes, no element does
none-passes : {A : Type 0} (p : A → Bool) (i : ℕ) (xs : List A) → position_from p i xs ≡ None → (k : ℕ) (x : A) → slice_get xs k ≡ Some x → p x ≡ false
none-passes p i [] h k x at = absurd (cc)
none-passes {A} p i (y ∷ ys) h k x at = by (p y) refl (λ none j there. none-passes p (i + 1) ys none j x there) h k at
  where
    -- the same with one more element first
    by : (b : Bool) → p y ≡ b → (position_from p (i + 1) ys ≡ None → (j : ℕ) → slice_get ys j ≡ Some x → p x ≡ false)
        → cond b (Some i) (position_from p (i + 1) ys) ≡ None → (k : ℕ) → slice_get (y ∷ ys) k ≡ Some x → p x ≡ false
    by true e rest h k at = absurd (cc)
    by false e rest h zero at = let same : y ≡ x = cc in subst (λ z. p z ≡ false) same e
    by false e rest h (suc k) at = rest h k at

-- if no index passes, no element does
pub position-None : {A : Type 0} (p : A → Bool) (xs : List A) → position p xs ≡ None → (k : ℕ) (x : A) → slice_get xs k ≡ Some x → p x ≡ false
position-None p xs h = none-passes p 0 xs (sym (position_from-zero p xs) ∙ h)

-- numbers that a test found to be below, or not above
pub not_reached : (most n : ℕ) → nat_le most n ≡ false → n < most
not_reached most n e = grind (arith, nat_tests)

pub not_above : (most n : ℕ) → nat_lt most n ≡ false → n ≤ most
not_above most n e = grind (arith, nat_tests)

-- the ends of a link are the domain's
pub record HasEnds (d : Domain) (link : Link) : Type 0 where
  pub from_bridge : link.from < length d.bridges
  pub to_node : IsNode d link.to
  pub not_to_itself : link.to ≢ Bridge link.from

-- the index of a name is below the number of names
pub index-within : (name : List ℕ) (names : List (List ℕ)) (i : ℕ) → index_of name names ≡ Some i → i < length names
index-within name names i h = (position-Some _ names i [] h).0

-- the node of a name is one of the domain's
node-within : (d : Domain) (name : List ℕ) (n : Node) → node_or (index_of name d.bridges) (index_of name d.stations) ≡ Some n → IsNode d n
node-within d name n h = by (index_of name d.bridges) (index_of name d.stations) refl refl h
  where
    -- the node is one of the domain's, whether it is a bridge or a station
    by : (b s : Option ℕ) → index_of name d.bridges ≡ b → index_of name d.stations ≡ s → node_or b s ≡ Some n → IsNode d n
    by (Some b) s at_b at_s h = let e : Bridge b ≡ n = cc in subst (IsNode d) e (index-within name d.bridges b at_b)
    by None (Some s) at_b at_s h = let e : Station s ≡ n = cc in subst (IsNode d) e (index-within name d.stations s at_s)
    by None None at_b at_s h = absurd (cc)

-- a link between nodes that are apart has its ends
apart-ends : (d : Domain) (name : List ℕ) (l : DraftLink) (from : ℕ) (to : Node) (link : Link) → from < length d.bridges → IsNode d to →
    apart name l from to ≡ Ok link → HasEnds d link
apart-ends d name l from to link from_there to_there h = by (same_node to (Bridge from)) refl h
  where
    -- the link between the two nodes
    joint : Link
    joint = link_with from to l.times

    -- a node that the test distinguishes from the bridge isn't the bridge
    differs : same_node to (Bridge from) ≡ false → to ≢ Bridge from
    differs e same = let at_itself : same_node (Bridge from) (Bridge from) ≡ false = subst (λ n. same_node n (Bridge from) ≡ false) same e in
        grind (arith, nat_tests)

    -- the link that is made has its ends, for they are apart
    by : (b : Bool) → same_node to (Bridge from) ≡ b → cond b (Err (fault.UnknownName name)) (Ok joint) ≡ Ok link → HasEnds d link
    by true e h = absurd (cc)
    by false e h =
        let same : joint ≡ link = cc in
        subst (HasEnds d) same (record { from_bridge = from_there; to_node = to_there; not_to_itself = differs e })

-- a link that is joined has its ends
joined_link-ends : (d : Domain) (l : DraftLink) (link : Link) → joined_link d.bridges d.stations l ≡ Ok link → HasEnds d link
joined_link-ends d l link h =
    let (from, at_from, h1) = and_then-Ok (ok_or (index_of l.from d.bridges) (fault.UnknownName l.from)) _ link h in
    let (to, at_to, h2) = and_then-Ok (ok_or (node_or (index_of l.to d.bridges) (index_of l.to d.stations)) (fault.UnknownName l.to)) _ link h1 in
    apart-ends d l.to l from to link
    (index-within l.from d.bridges from (ok_or-Ok _ (fault.UnknownName l.from) from at_from))
    (node-within d l.to to (ok_or-Ok _ (fault.UnknownName l.to) to at_to)) h2

-- and its delays are those of the text, which are in order
apart-ordered : (name : List ℕ) (l : DraftLink) (from : ℕ) (to : Node) (link : Link) → AreReadTimes l.times → apart name l from to ≡ Ok link →
    link.least ≤ link.delay
apart-ordered name l from to link read h = by (same_node to (Bridge from)) h
  where
    -- the link that is made has them, if its ends differ
    by : (b : Bool) → cond b (Err (fault.UnknownName name)) (Ok (link_with from to l.times)) ≡ Ok link → link.least ≤ link.delay
    by true h = absurd (cc)
    by false h = let same : link_with from to l.times ≡ link = cc in subst (λ (x : Link). x.least ≤ x.delay) same read.ordered

joined_link-ordered : (bridges stations : List (List ℕ)) (l : DraftLink) (link : Link) → AreReadTimes l.times →
    joined_link bridges stations l ≡ Ok link → link.least ≤ link.delay
joined_link-ordered bridges stations l link read h =
    let (from, at_from, h1) = and_then-Ok (ok_or (index_of l.from bridges) (fault.UnknownName l.from)) _ link h in
    let (to, at_to, h2) = and_then-Ok (ok_or (node_or (index_of l.to bridges) (index_of l.to stations)) (fault.UnknownName l.to)) _ link h1 in
    apart-ordered l.to l from to link read h2

module _ (bridges stations : List (List ℕ)) (P : Link → Type 0) where
  -- what holds of each link that is joined holds of all
  joined-each : (ls : List DraftLink) → ((k : ℕ) (l : DraftLink) → slice_get ls k ≡ Some l → (link : Link) → joined_link bridges stations l ≡ Ok link → P link)
      → (links : List Link) → joined bridges stations ls ≡ Ok links → (k : ℕ) (link : Link) → slice_get links k ≡ Some link → P link
  joined-each [] each links h k link at = let none : links ≡ [] = cc in absurd (by (subst (λ xs. slice_get xs k ≡ Some link) none at))
    where
      -- an empty list has no link
      by : slice_get [] k ≡ Some link → ⊥
      by e = cc
  joined-each (l ∷ ls) each links h k link at =
      by (joined_link bridges stations l) (joined bridges stations ls) refl refl
      (λ xs more j there. joined-each ls (λ n m inside. each (suc n) m inside) xs more j link there) h k at
    where
      -- if the property holds of each link of the rest, it holds with this link before them
      there : (x : Link) (xs : List Link) → joined_link bridges stations l ≡ Ok x → ((j : ℕ) → slice_get xs j ≡ Some link → P link)
          → (k : ℕ) → slice_get (x ∷ xs) k ≡ Some link → P link
      there x xs here rest zero at = let same : x ≡ link = cc in subst P same (each 0 l refl x here)
      there x xs here rest (suc k) at = rest k at

      -- the property holds of each link, if the first link and the rest are joined
      by : (r : Result Link DomainFault) (rest : Result (List Link) DomainFault) → joined_link bridges stations l ≡ r → joined bridges stations ls ≡ rest
          → ((xs : List Link) → joined bridges stations ls ≡ Ok xs → (j : ℕ) → slice_get xs j ≡ Some link → P link)
          → and_first r rest ≡ Ok links → (k : ℕ) → slice_get links k ≡ Some link → P link
      by (Err e) rest here more all h k at = absurd (cc)
      by (Ok x) (Err e) here more all h k at = absurd (cc)
      by (Ok x) (Ok xs) here more all h k at = let same : links ≡ x ∷ xs = cc in
          there x xs here (all xs more) k (subst (λ ys. slice_get ys k ≡ Some link) same at)

-- each link that is joined has its ends
pub joined-ends : (d : Domain) (ls : List DraftLink) (links : List Link) → joined d.bridges d.stations ls ≡ Ok links → (k : ℕ) (link : Link) →
    slice_get links k ≡ Some link → HasEnds d link
joined-ends d ls = joined-each d.bridges d.stations (HasEnds d) ls (λ k l inside. joined_link-ends d l)

-- what holds of all elements holds of the element at an index
of_index : {A : Type 0} (P : A → Type 0) (xs : List A) → All P xs → (k : ℕ) (x : A) → slice_get xs k ≡ Some x → P x
of_index P xs all k x at = subst P (get_or_from_slice_get xs k x x at) (all k x (slice_get_within xs k x at))

-- and its delays in order
joined-ordered : (bridges stations : List (List ℕ)) (ls : List DraftLink) → All (λ (l : DraftLink). AreReadTimes l.times) ls →
    (links : List Link) → joined bridges stations ls ≡ Ok links → (k : ℕ) (link : Link) → slice_get links k ≡ Some link → link.least ≤ link.delay
joined-ordered bridges stations ls read =
    joined-each bridges stations (λ link. link.least ≤ link.delay) ls (λ k l inside link.
    joined_link-ordered bridges stations l link (of_index (λ (l : DraftLink). AreReadTimes l.times) ls read k l inside))

-- the number of a node fits two octets
small-node : (d : Domain) (n : Node) → length d.bridges ≤ 1024 → length d.stations ≤ 4096 → IsNode d n → IsSmallNode n
small-node d (Bridge b) few few_too h = omega arith
small-node d (Station s) few few_too h = omega arith

-- the links of a small domain have small ends
pub joined-small : (t : DomainText) (bridges stations : List (List ℕ)) (links : List Link) → IsNumberedDomain t bridges stations links
    → length bridges ≤ 1024 → length stations ≤ 4096 → All HasSmallEnds links
joined-small t bridges stations links n few few_too k link inside =
    let ends = joined-ends d t.links links there k (get_or links k link) (slice_get-get_or links k link inside) in
    record { from_small = omega (arith, ends.from_bridge); to_small = small-node d _ few few_too ends.to_node }
  where
    -- a domain of these names and links
    d : Domain
    d = record { limits = t.limits; cycle_time = 0; guard = 0; sync = 0; overhead = 0; bridges = bridges; stations = stations; links = links }

    -- its links are those of the text, joined
    there : joined bridges stations t.links ≡ Ok links
    there = (λ i. joined (n.bridges_are i) (n.stations_are i) t.links) ∙ n.joined_are

-- the domain of a text that passed its checks is accepted, and its names are names, each once
pub checked-accepted : (t : DomainText) (bridges stations : List (List ℕ)) (links : List Link) → IsNumberedDomain t bridges stations links → NoLinkTwice links
    → Passes t links → IsDomain (with_these t links)
checked-accepted t bridges stations links n once p =
    record {
      accepted = record {
        cycle_least = n.readable.cycle_least;
        cycle_most = n.readable.cycle_most;
        guard_some = n.readable.guard_some;
        guard_short = p.short;
        overhead_short = n.readable.overhead_most;
        some_bridge = n.readable.some_bridge;
        few_bridges = p.few_bridges;
        few_stations = p.few_stations;
        few_links = p.few_links;
        links_good = λ l link at.
            let ends = joined-ends (with_these t links) t.links links n.joined_are l link at in
            record {
              from_bridge = ends.from_bridge;
              to_node = ends.to_node;
              not_to_itself = ends.not_to_itself;
              least_short = joined-ordered t.bridges t.stations t.links n.readable.times_are_read links n.joined_are l link at;
              delay_short = short_delay link (position-None (λ (x : Link). has_long_delay t.sync t.guard (times_of x)) links p.no_delay l link at);
              sync_short = short_sync link (position-None (λ (x : Link). has_long_sync t.sync (times_of x)) links p.no_sync l link at);
              gap_short = short_gap link (position-None (λ (x : Link). has_long_gap t.guard (times_of x)) links p.no_gap l link at);
              guard_short = short_guard link (position-None (λ (x : Link). has_long_guard t.cycle_time t.guard (times_of x)) links p.no_guard l link at);
            };
      };
      sync_most = n.readable.sync_most;
      bridges_named = n.readable.bridges_named;
      stations_named = n.readable.stations_named;
      distinct = (first_taken-None [] (t.bridges ++ t.stations) n.distinct).1;
      no_link_twice = once;
    }
  where
    -- a delay that isn't found too long, with the clocks' difference, is below the guard band
    short_delay : (link : Link) → has_long_delay t.sync t.guard (times_of link) ≡ false → link.delay + t.sync < guard_by t.guard link
    short_delay link e = not_reached (guard_by t.guard link) (link.delay + t.sync) e

    -- clocks that aren't found too far apart are no further apart than a shortest frame and the least delay take
    short_sync : (link : Link) → has_long_sync t.sync (times_of link) ≡ false → t.sync ≤ time_of 72 (ticks_of_octet link.rate) + link.least
    short_sync link e = not_above (time_of 72 (ticks_of_octet link.rate) + link.least) t.sync e

    -- a gap that isn't found too long is at most the guard band
    short_gap : (link : Link) → has_long_gap t.guard (times_of link) ≡ false → time_of 12 (ticks_of_octet link.rate) ≤ guard_by t.guard link
    short_gap link e = not_above (guard_by t.guard link) (time_of 12 (ticks_of_octet link.rate)) e

    -- a guard band that isn't found too long is below the cycle time
    short_guard : (link : Link) → has_long_guard t.cycle_time t.guard (times_of link) ≡ false → guard_by t.guard link < t.cycle_time
    short_guard link e = not_reached t.cycle_time (guard_by t.guard link) e
