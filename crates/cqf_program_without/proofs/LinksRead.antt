-- Each link of a network that is read, and each access link, is a direction of an element of its text's array of links.
use Rattle.std.proofs.Common.{◌≡◌, ◌∙◌, ◌&&◌, ◌||◌, ◌++◌, ℕ, suc, All, Bool, true, false, not, cond, Contains, List, [], ◌∷◌, Option, Some, None, Result, Ok, Err}
use Rattle.std.proofs.Common.{ap, codes, map, ok_or, refl, subst, sym}
use Rattle.std.specs.Prelude.{option_and_then, unwrap_or}
use Rattle.std.specs.Option.{option_map_or}
use Rattle.std.proofs.lemmas.Bool.{and_from}
use Rattle.std.proofs.lemmas.List.Elements.{All-append, All-cons, All-nil}
use Rattle.std.proofs.lemmas.Option.{same_Some}
use Rattle.toml.specs.Data.{Data, Items, no_items, item, Members, as_array, as_bool, as_str, as_table, get_member}
use Rattle.cqf_units.specs.Name.{is_name}
use Rattle.cqf_lists.specs.Results.{and_then}
use Rattle.cqf_lists.proofs.Members.{contains_from_filter, contains_from_map}
use Rattle.cqf_model.specs.declared.limits.Limits.{Limits}
use Rattle.cqf_model.specs.declared.topology.Link.{Link}
use Rattle.cqf_model.specs.declared.topology.Node.{Node}
use Rattle.cqf_model.specs.declared.topology.Node.TheVariants.{Bridge, Station}
use Rattle.cqf_model.specs.Domain.{is_text}
use Rattle.cqf_model.proofs.Texts.{is_text_itself}
use Rattle.cqf_topology.specs.declared.faults.DomainFault.TheVariants as domain
use Rattle.cqf_topology.specs.declared.keys.Key.{Key}
use Rattle.cqf_topology.specs.declared.keys.Key.TheVariants as key
use Rattle.cqf_topology.specs.declared.toml_faults.TomlFault.{TomlFault}
use Rattle.cqf_topology.specs.declared.toml_faults.TomlFault.TheVariants.{BadValue}
use Rattle.cqf_topology.specs.DomainText.{first_taken, if_some, link_keys, overhead_from, sync_from, with_front}
use Rattle.cqf_topology.specs.Fields.{are_tables, if_name, key_text, name_from, names_at, number_from, read_at, value_at, whole_document}
use Rattle.cqf_topology.specs.LinkTimes.{times_read}
use Rattle.cqf_topology.proofs.Refusals.{and_then-Ok, and_then-Some, ok_or-Ok, refuse-Ok}
use Rattle.cqf_network.specs.declared.domain.TalkerLink.{TalkerLink}
use Rattle.cqf_network.specs.declared.draft.NetworkLink.{NetworkLink}
use Rattle.cqf_network.specs.declared.draft.OneDirection.{OneDirection}
use Rattle.cqf_network.specs.declared.faults.NetworkFault.{NetworkFault}
use Rattle.cqf_network.specs.declared.faults.NetworkFault.TheVariants as fault
use Rattle.cqf_network.specs.Edges.{Edge, back_of as back_edge, edges_of, end_named, is_station, is_talkers, joined, joined_edge, may_lead, talkers_of}
use Rattle.cqf_network.specs.Edges.{without_other as unsaid_edge}
use Rattle.cqf_network.specs.Faults.{network_fault, or_network}
use Rattle.cqf_network.specs.NetworkDomain.{NetworkDomain, bridge_edges, checked, link_of, name_taken, network_with, number_of, open_network_of_text, talker_of}
use Rattle.cqf_network.specs.NetworkDomain.{with_edges, with_names}
use Rattle.cqf_network.specs.NetworkText.{NetworkText, candidates_read, draft_from, draft_of_text, duplex_at, duplex_by, link_read, links_from, links_of_array, links_read, network_keys}
use Rattle.cqf_network.specs.NetworkText.{network_with_cycles, one_direction_read, other_at}
use Rattle.cqf_network.proofs.StreamParts.{and_first-Ok, map_both-Ok}
use Rattle.cqf_network_text.specs.Networks.{array_at, array_or_none, table_of}
use Rattle.cqf_network_text.proofs.TablesRead.{table_is, whole_parts}
use Rattle.cqf_program_planning.proofs.ReadNetworks.{with_these_edges}
use Rattle.cqf_program_words.specs.declared.links.LinkName.{LinkName}
use Rattle.cqf_program_without.specs.Links.{back_of, has_name, is_along, is_among, is_direction, is_direction_of, is_duplex}

-- ---- an element of the array of links that is read

if_name_is : (text name : List ℕ) → if_name text ≡ Some name → text ≡ name
if_name_is text name e = by (is_name text) e
  where
    by : (b : Bool) → cond b (Some text) None ≡ Some name → text ≡ name
    by true e = same_Some text name e
    by false e = absurd cc

-- a name that is read is at its key
name_there : (at : Key) (element : Members) (name : List ℕ) → read_at at name_from element ≡ Ok name → has_name at name element ≡ true
name_there at element name read =
    let (d, found, from) = and_then-Some name_from (value_at at element) name (ok_or-Ok (option_and_then name_from (value_at at element)) (BadValue at) name read) in
    let (text, is, named) = and_then-Some if_name (as_str d) name from in
    ap (λ o. option_map_or (is_text name) (option_and_then as_str o) false) found
    ∙ ap (λ o. option_map_or (is_text name) o false) is
    ∙ ap (is_text name) (if_name_is text name named)
    ∙ is_text_itself name

-- whether it has both directions
duplex_is : (element : Members) (b : Bool) → duplex_at element ≡ Ok b → is_duplex element ≡ b
duplex_is element b read = by (get_member (codes "duplex") element) refl read
  where
    by : (o : Option Data) → get_member (codes "duplex") element ≡ o → duplex_by o ≡ Ok b → is_duplex element ≡ b
    by None at e = let same : false ≡ b = cc in ap (λ o. unwrap_or (option_and_then as_bool o) false) at ∙ same
    by (Some d) at e =
        ap (λ o. unwrap_or (option_and_then as_bool o) false) at ∙ ap (λ o. unwrap_or o false) (ok_or-Ok (as_bool d) fault.BadDuplex b e)

-- its names, and whether it has both directions, as they are read
pub record IsReadAs (element : Members) (one : NetworkLink) : Type 0 where
  pub along : (link : LinkName) → link.from ≡ one.there.from → link.to ≡ one.there.to → is_along link element ≡ true
  pub duplex : is_duplex element ≡ one.duplex

both_named : (element : Members) (from to : List ℕ) → has_name key.From from element ≡ true → has_name key.To to element ≡ true → (link : LinkName) →
    link.from ≡ from → link.to ≡ to → is_along link element ≡ true
both_named element from to at_from at_to link f t =
    (λ i. has_name key.From (f i) element && has_name key.To (t i) element)
    ∙ and_from (has_name key.From from element) (has_name key.To to element) at_from at_to

path_named : (element : Members) (there : OneDirection) → one_direction_read element ≡ Ok there → (link : LinkName) → link.from ≡ there.from → link.to ≡ there.to →
    is_along link element ≡ true
path_named element there read link f t =
    let (from, is_from, more) = and_then-Ok (read_at key.From name_from element) _ there read in
    let (to, is_to, last) = and_then-Ok (read_at key.To name_from element) _ there more in
    let (times, is_times, made) = and_then-Ok (times_read element) _ there last in
    let from_is : there.from ≡ from = cc in
    let to_is : there.to ≡ to = cc in
    both_named element from to (name_there key.From element from is_from) (name_there key.To element to is_to) link (f ∙ from_is) (t ∙ to_is)

or_network-Ok : {A : Type 0} (r : Result A TomlFault) (x : A) → or_network r ≡ Ok x → r ≡ Ok x
or_network-Ok r x e = map_both-Ok network_fault r x e

link_is_read : (element : Members) (one : NetworkLink) → link_read element ≡ Ok one → IsReadAs element one
link_is_read element one read =
    let (there, is_there, more) = and_then-Ok (or_network (one_direction_read element)) _ one read in
    let (duplex, is_duplex, last) = and_then-Ok (duplex_at element) _ one more in
    let (other, is_other, made) = and_then-Ok (other_at element) _ one last in
    let path : there ≡ one.there = cc in
    let both : duplex ≡ one.duplex = cc in
    record {
      along = λ link f t. path_named element there (or_network-Ok (one_direction_read element) there is_there) link (f ∙ ap (λ (w : OneDirection). w.from) (sym path))
          (t ∙ ap (λ (w : OneDirection). w.to) (sym path));
      duplex = duplex_is element duplex is_duplex ∙ both;
    }

-- ---- its edges

module _ (bridges stations : List (List ℕ)) where
  -- an edge joins the nodes that a link names, which aren't both stations, and the link passes a test
  pub record IsLedBy (test : LinkName → Bool) (edge : Edge) : Type 0 where
    pub link : LinkName
    pub passes_test : test link ≡ true
    pub from_is : end_named bridges stations link.from ≡ Some edge.from
    pub to_is : end_named bridges stations link.to ≡ Some edge.to
    pub one_station : (is_station edge.from && is_station edge.to) ≡ false

  weaker : (test other : LinkName → Bool) → ((link : LinkName) → test link ≡ true → other link ≡ true) → (edges : List Edge) → All (IsLedBy test) edges →
      All (IsLedBy other) edges
  weaker test other more edges all k d inside =
      let led = all k d inside in
      record { link = led.link; passes_test = more led.link led.passes_test; from_is = led.from_is; to_is = led.to_is; one_station = led.one_station }

  -- the ends of an edge that is joined
  record HasEnds (path : OneDirection) (edge : Edge) : Type 0 where
    from_is : end_named bridges stations path.from ≡ Some edge.from
    to_is : end_named bridges stations path.to ≡ Some edge.to
    one_station : (is_station edge.from && is_station edge.to) ≡ false

  not_both : (from to : Node) → may_lead from to ≡ true → (is_station from && is_station to) ≡ false
  not_both (Bridge a) to may = refl
  not_both (Station s) (Bridge b) may = refl
  not_both (Station s) (Station t) may = absurd cc

  ends_found : (number : ℕ) (other : Option ℕ) (path : OneDirection) (edge : Edge) → joined_edge bridges stations number other path ≡ Ok edge → HasEnds path edge
  ends_found number other path edge e =
      let (from, from_is, rest) = and_then-Ok (ok_or (end_named bridges stations path.from) (fault.Domain (domain.UnknownName path.from))) _ edge e in
      let (to, to_is, last) = and_then-Ok (ok_or (end_named bridges stations path.to) (fault.Domain (domain.UnknownName path.to))) _ edge rest in
      by from to (may_lead from to) refl (ok_or-Ok _ (fault.Domain (domain.UnknownName path.from)) from from_is)
      (ok_or-Ok _ (fault.Domain (domain.UnknownName path.to)) to to_is) last
    where
      by : (from to : Node) (may : Bool) → may_lead from to ≡ may → end_named bridges stations path.from ≡ Some from → end_named bridges stations path.to ≡ Some to →
          cond may (Ok (record { from = from; to = to; times = path.times; other = other; element = number })) (Err (fault.Domain (domain.UnknownName path.to))) ≡ Ok edge →
          HasEnds path edge
      by from to true is a b found =
          let made : Edge = record { from = from; to = to; times = path.times; other = other; element = number } in
          let same : made ≡ edge = cc in
          subst (HasEnds path) same (record { from_is = a; to_is = b; one_station = not_both from to is })
      by from to false is a b found = absurd cc

  -- both directions of an edge
  paths_led : (test : LinkName → Bool) (duplex : Bool) (edge : Edge) → IsLedBy test edge → (duplex ≡ true → IsLedBy test (back_edge edge)) →
      All (IsLedBy test) (edges_of duplex edge)
  paths_led test false edge there back = All-cons (IsLedBy test) edge [] there (All-nil (IsLedBy test))
  paths_led test true edge there back = by (is_talkers (back_edge edge)) (back refl)
    where
      two : (a b : Edge) → IsLedBy test a → IsLedBy test b → All (IsLedBy test) (a ∷ b ∷ [])
      two a b first second = All-cons (IsLedBy test) a (b ∷ []) first (All-cons (IsLedBy test) b [] second (All-nil (IsLedBy test)))

      unsaid : (e : Edge) → IsLedBy test e → IsLedBy test (unsaid_edge e)
      unsaid e led = record { link = led.link; passes_test = led.passes_test; from_is = led.from_is; to_is = led.to_is; one_station = led.one_station }

      by : (talkers : Bool) → IsLedBy test (back_edge edge) →
          All (IsLedBy test) (cond talkers (unsaid_edge edge ∷ back_edge edge ∷ []) (edge ∷ unsaid_edge (back_edge edge) ∷ []))
      by true led = two (unsaid_edge edge) (back_edge edge) (unsaid edge there) led
      by false led = two edge (unsaid_edge (back_edge edge)) there (unsaid (back_edge edge) led)

  -- are directions of the element
  element_led : (element : Members) (one : NetworkLink) (number : ℕ) (edge : Edge) → IsReadAs element one →
      joined_edge bridges stations number one.other one.there ≡ Ok edge → All (IsLedBy (λ link. is_direction link element)) (edges_of one.duplex edge)
  element_led element one number edge is e =
      let ends = ends_found number one.other one.there edge e in
      let there : LinkName = record { from = one.there.from; to = one.there.to } in
      let back : LinkName = record { from = one.there.to; to = one.there.from } in
      let along : is_along there element ≡ true = is.along there refl refl in
      paths_led (λ link. is_direction link element) one.duplex edge
      (record {
        link = there;
        passes_test = ap (λ b. b || (is_duplex element && is_along (back_of there) element)) along;
        from_is = ends.from_is;
        to_is = ends.to_is;
        one_station = ends.one_station;
      })
      (λ both. record {
        link = back;
        passes_test = either (is_along back element) (is_duplex element) (is_along (back_of back) element) (is.duplex ∙ both) (is.along (back_of back) refl refl);
        from_is = ends.to_is;
        to_is = ends.from_is;
        one_station = in_order (is_station edge.to) (is_station edge.from) ∙ ends.one_station;
      })
    where
      either : (a b c : Bool) → b ≡ true → c ≡ true → (a || (b && c)) ≡ true
      either true b c p q = refl
      either false b c p q = and_from b c p q

      in_order : (a b : Bool) → (a && b) ≡ (b && a)
      in_order true true = refl
      in_order true false = refl
      in_order false true = refl
      in_order false false = refl

  -- so the edges of an array are among its elements' directions
  items_led : (items : Items) (number : ℕ) (links : List NetworkLink) (edges : List Edge) → links_from items ≡ Ok links →
      joined bridges stations number links ≡ Ok edges → All (IsLedBy (λ link. is_among link items)) edges
  items_led no_items number links edges read join =
      let none : [] ≡ links = cc in
      let made : ◌≡◌ {A = Result (List Edge) NetworkFault} (Ok []) (Ok edges) = ap (joined bridges stations number) none ∙ join in
      let same : [] ≡ edges = cc in
      subst (All (IsLedBy (λ link. is_among link no_items))) same (All-nil (IsLedBy (λ link. is_among link no_items)))
  items_led (item d ds) number links edges read join =
      let both = and_first-Ok (and_then (ok_or (as_table d) (network_fault (BadValue key.Links))) link_read) (links_from ds) links read in
      let (element, at, one_is) = and_then-Ok (ok_or (as_table d) (network_fault (BadValue key.Links))) link_read both.one both.first_is in
      let joins : joined bridges stations number (both.one ∷ both.more) ≡ Ok edges = ap (joined bridges stations number) (sym both.all) ∙ join in
      let (edge, edge_is, more) = and_then-Ok (joined_edge bridges stations number both.one.other both.one.there) _ edges joins in
      by element (ok_or-Ok (as_table d) (network_fault (BadValue key.Links)) element at) both.one both.more edge (link_is_read element both.one one_is) edge_is
      (λ rest is. items_led ds (suc number) both.more rest both.others_are is) (joined bridges stations (suc number) both.more) refl more
    where
      here : (element : Members) → as_table d ≡ Some element → (link : LinkName) → is_direction link element ≡ true → is_among link (item d ds) ≡ true
      here element at link is = ap (λ o. option_map_or (is_direction link) o false || is_among link ds) at ∙ ap (λ b. b || is_among link ds) is

      later : (link : LinkName) → is_among link ds ≡ true → is_among link (item d ds) ≡ true
      later link is = either (is_direction_of link d) (is_among link ds) is
        where
          either : (a b : Bool) → b ≡ true → (a || b) ≡ true
          either true b p = refl
          either false b p = p

      by : (element : Members) → as_table d ≡ Some element → (one : NetworkLink) (more : List NetworkLink) (edge : Edge) → IsReadAs element one →
          joined_edge bridges stations number one.other one.there ≡ Ok edge →
          ((rest : List Edge) → joined bridges stations (suc number) more ≡ Ok rest → All (IsLedBy (λ link. is_among link ds)) rest) →
          (r : Result (List Edge) NetworkFault) → joined bridges stations (suc number) more ≡ r → with_front (edges_of one.duplex edge) r ≡ Ok edges →
          All (IsLedBy (λ link. is_among link (item d ds))) edges
      by element at one more edge is edge_is rest_led (Err found) other whole = absurd cc
      by element at one more edge is edge_is rest_led (Ok rest) these whole =
          let same : edges_of one.duplex edge ++ rest ≡ edges = cc in
          subst (All (IsLedBy (λ link. is_among link (item d ds)))) same
          (All-append (IsLedBy (λ link. is_among link (item d ds))) (edges_of one.duplex edge) rest
          (weaker (λ link. is_direction link element) (λ link. is_among link (item d ds)) (here element at) (edges_of one.duplex edge)
          (element_led element one number edge is edge_is))
          (weaker (λ link. is_among link ds) (λ link. is_among link (item d ds)) later rest (rest_led rest these)))

-- ---- the links of the network

-- nodes that a link names; the link passes a test
pub record AreNamedBy (bridges stations : List (List ℕ)) (test : LinkName → Bool) (from to : Node) : Type 0 where
  pub name : LinkName
  pub passes_test : test name ≡ true
  pub from_is : end_named bridges stations name.from ≡ Some from
  pub to_is : end_named bridges stations name.to ≡ Some to

-- so are the ends of each link and of each access link
pub record HasNamedLinks (test : LinkName → Bool) (network : NetworkDomain) : Type 0 where
  pub links : (link : Link) → Contains network.links link → AreNamedBy network.bridges network.stations test (Bridge link.from) link.to
  pub access : (link : TalkerLink) → Contains network.talkers link →
      AreNamedBy network.bridges network.stations test (Station link.station) (Bridge link.bridge)

is_bridge : (node : Node) → is_station node ≡ false → node ≡ Bridge (number_of node)
is_bridge (Bridge b) e = refl
is_bridge (Station s) e = absurd cc

is_station_there : (node : Node) → is_station node ≡ true → node ≡ Station (number_of node)
is_station_there (Bridge b) e = absurd cc
is_station_there (Station s) e = refl

is_not : (b : Bool) → not b ≡ true → b ≡ false
is_not true e = absurd cc
is_not false e = refl

module _ (text : NetworkText) (test : LinkName → Bool) (edges : List Edge) (all : All (IsLedBy text.bridges text.stations test) edges) where
  member_led : (edge : Edge) → Contains edges edge → IsLedBy text.bridges text.stations test edge
  member_led edge there = subst (IsLedBy text.bridges text.stations test) there.2 (all there.0 edge there.1)

  ends_named : (edge : Edge) (from to : Node) → IsLedBy text.bridges text.stations test edge → edge.from ≡ from → edge.to ≡ to →
      AreNamedBy text.bridges text.stations test from to
  ends_named edge from to led from_is to_is = record {
    name = led.link;
    passes_test = led.passes_test;
    from_is = led.from_is ∙ ap (λ (n : Node). Some n) from_is;
    to_is = led.to_is ∙ ap (λ (n : Node). Some n) to_is;
  }

  links_named : (link : Link) → Contains (map link_of (bridge_edges edges)) link → AreNamedBy text.bridges text.stations test (Bridge link.from) link.to
  links_named link c =
      let (edge, kept, same) = contains_from_map link_of (bridge_edges edges) link c in
      let (there, leaves_bridge) = contains_from_filter (λ edge. not (is_talkers edge)) edges edge kept in
      subst (λ (l : Link). AreNamedBy text.bridges text.stations test (Bridge l.from) l.to) same
      (ends_named edge (Bridge (number_of edge.from)) edge.to (member_led edge there)
      (is_bridge edge.from (is_not (is_talkers edge) leaves_bridge)) refl)

  access_named : (link : TalkerLink) → Contains (map talker_of (talkers_of edges)) link →
      AreNamedBy text.bridges text.stations test (Station link.station) (Bridge link.bridge)
  access_named link c =
      let (edge, kept, same) = contains_from_map talker_of (talkers_of edges) link c in
      let (there, leaves_station) = contains_from_filter is_talkers edges edge kept in
      let led = member_led edge there in
      let no_other : is_station edge.to ≡ false = ap (λ b. b && is_station edge.to) (sym leaves_station) ∙ led.one_station in
      subst (λ (l : TalkerLink). AreNamedBy text.bridges text.stations test (Station l.station) (Bridge l.bridge)) same
      (ends_named edge (Station (number_of edge.from)) (Bridge (number_of edge.to)) led (is_station_there edge.from leaves_station) (is_bridge edge.to no_other))

  named_links : HasNamedLinks test (network_with text edges)
  named_links = record { links = links_named; access = access_named }

-- ---- what is read

-- the links that a table's text gives
links_are_read : (members : Members) (links : List NetworkLink) → links_read members ≡ Ok links → links_from (array_at (key_text key.Links) members) ≡ Ok links
links_are_read members links read =
    let (items, at, from) = and_then-Ok (or_network (read_at key.Links as_array members)) links_of_array links read in
    let is : option_and_then as_array (value_at key.Links members) ≡ Some items =
    ok_or-Ok (option_and_then as_array (value_at key.Links members)) (BadValue key.Links) items (or_network-Ok (read_at key.Links as_array members) items at) in
    ap (λ o. links_from (array_or_none o)) is ∙ by items (are_tables items) from
  where
    by : (items : Items) (b : Bool) → cond b (links_from items) (Err (network_fault (BadValue key.Links))) ≡ Ok links → links_from items ≡ Ok links
    by items true e = e
    by items false e = absurd cc

ok_links : (made draft : NetworkText) → ◌≡◌ {A = Result NetworkText NetworkFault} (Ok made) (Ok draft) → made.links ≡ draft.links
ok_links made draft e = cc

links_drafted : (limits : Limits) (given : Option (List ℕ)) (text : List ℕ) (members : Members) (draft : NetworkText) → table_of text ≡ Some members →
    draft_of_text limits given text ≡ Ok draft → links_from (array_at (key_text key.Links) members) ≡ Ok draft.links
links_drafted limits given text members draft is e =
    let (table, whole, from) = and_then-Ok (or_network (whole_document (network_keys given) key.Links link_keys text)) (draft_from limits given) draft e in
    let parts = whole_parts (network_keys given) key.Links link_keys text table
    (or_network-Ok (whole_document (network_keys given) key.Links link_keys text) table whole) in
    let same : table ≡ members = same_Some table members (sym (table_is text table parts.document) ∙ is) in
    let (candidates, a, h0) = and_then-Ok (or_network (candidates_read given table)) (network_with_cycles limits table) draft from in
    let (guard, b, h1) = and_then-Ok (or_network (read_at key.Guard (number_from 1 10000000) table)) _ draft h0 in
    let (sync, c, h2) = and_then-Ok (or_network (sync_from table)) _ draft h1 in
    let (overhead, o, following) = and_then-Ok (or_network (overhead_from table)) _ draft h2 in
    let (bridges, f, h3) = and_then-Ok (or_network (and_then (names_at key.Bridges table) (if_some key.Bridges))) _ draft following in
    let (stations, g, h4) = and_then-Ok (or_network (names_at key.Stations table)) _ draft h3 in
    let (links, read, made) = and_then-Ok (links_read table) _ draft h4 in
    ap (λ t. links_from (array_at (key_text key.Links) t)) (sym same) ∙ links_are_read table links read ∙ ap (λ ls. Ok ls) (ok_links _ draft made)

-- each link of a network is a direction of an element of its text's links
pub network_led : (limits : Limits) (given : Option (List ℕ)) (text : List ℕ) (members : Members) (network : NetworkDomain) → table_of text ≡ Some members →
    open_network_of_text limits given text ≡ Ok network → HasNamedLinks (λ name. is_among name (array_at (key_text key.Links) members)) network
network_led limits given text members network is read =
    let items = array_at (key_text key.Links) members in
    let test = λ (name : LinkName). is_among name items in
    let (draft, drafted, passed) = and_then-Ok (draft_of_text limits given text) checked network read in
    let (bridges, rest) = refuse-Ok (first_taken [] draft.bridges) name_taken _ network passed in
    let (stations, numbered) = refuse-Ok (first_taken draft.bridges draft.stations) name_taken (with_names draft) network rest in
    let (edges, joins, checks) = and_then-Ok (joined draft.bridges draft.stations 0 draft.links) (with_edges draft) network numbered in
    subst (HasNamedLinks test) (with_these_edges draft edges network checks)
    (named_links draft test edges
    (items_led draft.bridges draft.stations items 0 draft.links edges (links_drafted limits given text members draft is drafted) joins))
