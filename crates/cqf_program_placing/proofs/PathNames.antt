-- The names along a path lead back to its nodes and links.
use Rattle.std.proofs.Common.{◌≡◌, ◌∙◌, ◌+◌, ◌-◌, ◌<◌, ◌≤◌, ℕ, zero, suc, Bool, true, false, ◌==◌, ◌&&◌, ◌||◌, List, [], ◌∷◌, Option, Some, None, Contains}
use Rattle.std.proofs.Common.{cond, length, map, not, refl, ap, subst, sym, inl, inr, arith, take}
use Rattle.std.specs.Prelude.{is_none, nat_le, nat_lt, option_and_then, slice_get}
use Rattle.std.specs.Option.{option_map_or}
use Rattle.std.proofs.lemmas.Bool.{and_left, and_parts, and_right, cases_eq, cases_lt, eqb-true, false_from_ne_true, le-ltb, ltb-true}
use Rattle.std.proofs.lemmas.List.{length-map, length-take-le}
use Rattle.std.proofs.lemmas.Option.{same_Some, slice_get-get_or, slice_get_within}
use Rattle.cqf_lists.proofs.Members.{any_member, contains_at, contains_cases, contains_here, contains_later, contains_none, index_of_member}
use Rattle.cqf_lists.proofs.Indices.{slice_get-take}
use Rattle.cqf_laws_history.proofs.Branches.{node_of_name}
use Rattle.cqf_model.specs.declared.topology.Link.{Link}
use Rattle.cqf_model.specs.declared.topology.Node.{Node}
use Rattle.cqf_model.specs.declared.topology.Node.TheVariants.{Bridge, Station}
use Rattle.cqf_model.specs.Domain.{Domain, IsNode, node_named, node_or, same_node}
use Rattle.cqf_model.specs.History.{Branch, begins_elsewhere, ends_at_bridge, is_beyond_most, is_bridge, is_broken_at, is_loop_at, is_same, lacks_link}
use Rattle.cqf_model.specs.History.{link_at, link_from, node_at}
use Rattle.cqf_model.specs.Limits.{nodes_within}
use Rattle.cqf_model.proofs.Links.{same_node_true}
use Rattle.cqf_topology.specs.DomainText.{IsDomain, index_of}
use Rattle.cqf_topology.proofs.Refusals.{and_then-Some}
use Rattle.cqf_topology.proofs.Written.{only-link}
use Rattle.cqf_network_text.proofs.NamesApart.{after_apart, apart_across, front_apart, index_is, no_index}
use Rattle.cqf_topology.specs.NodeNames.{name_of_bridge, name_of_node}
use Rattle.cqf_network.specs.Steps.{led_along}
use Rattle.cqf_network.specs.PathLaws.{EndsOnce, ends_along}
use Rattle.cqf_network.specs.Paths.{led_by, led_to, most_links}
use Rattle.cqf_program_placing.specs.Room.{MayBePaths}
use Rattle.cqf_program_plans.specs.EndNames.{name_of_end}
use Rattle.cqf_program_placing.proofs.RouteLemmas.{name_at_end, to_node}

-- a link leads from a bridge to a node
pub record LeadsOn (d : Domain) (node end : Node) (l : ℕ) : Type 0 where
  pub link : Link
  pub stands : slice_get d.links l ≡ Some link
  pub from_is : node ≡ Bridge link.from
  pub to_is : link.to ≡ end

pub leads_by : (d : Domain) (node end : Node) (l : ℕ) → led_to d.links node l ≡ Some end → LeadsOn d node end l
leads_by d node end l e =
    let (link, stands, leads) = and_then-Some (led_by node) (slice_get d.links l) end e in by link stands (same_node node (Bridge link.from)) refl leads
  where
    by : (link : Link) → slice_get d.links l ≡ Some link → (b : Bool) → same_node node (Bridge link.from) ≡ b → cond b (Some link.to) None ≡ Some end →
        LeadsOn d node end l
    by link stands true same h = record { link = link; stands = stands; from_is = same_node_true node (Bridge link.from) same; to_is = cc }
    by link stands false same h = absurd cc

-- a path leads by its first link to a node, and on from there
pub record FirstStep (d : Domain) (node to : Node) (l : ℕ) (path : List ℕ) : Type 0 where
  pub end : Node
  pub step : led_to d.links node l ≡ Some end
  pub more : led_along (led_to d.links) end path ≡ Some to

pub first_step : (d : Domain) (node to : Node) (l : ℕ) (path : List ℕ) → led_along (led_to d.links) node (l ∷ path) ≡ Some to → FirstStep d node to l path
first_step d node to l path e =
    let (end, step, more) = and_then-Some (λ n. led_along (led_to d.links) n path) (led_to d.links node l) to e in
    record { end = end; step = step; more = more }

-- the nodes of a path: the one from which it leads, and those in which its links end
abbrev pub nodes_along : Domain → Node → List ℕ → List Node
nodes_along d node path = node ∷ ends_along d.links node path

-- their names
abbrev pub branch_from : Domain → Node → List ℕ → Branch
branch_from d node path = name_of_node d node ∷ map (name_of_end d) path

pub ends_more : (d : Domain) (node end : Node) (l : ℕ) (path : List ℕ) → led_to d.links node l ≡ Some end →
    ends_along d.links node (l ∷ path) ≡ end ∷ ends_along d.links end path
ends_more d node end l path step = ap (λ (o : Option Node). option_map_or (λ n. n ∷ ends_along d.links n path) o []) step

-- the last of them is that to which it leads
pub last_node : (d : Domain) (node to : Node) (path : List ℕ) → led_along (led_to d.links) node path ≡ Some to →
    slice_get (nodes_along d node path) (length path) ≡ Some to
last_node d node to [] e = e
last_node d node to (l ∷ path) e =
    let s = first_step d node to l path e in
    ap (λ (ns : List Node). slice_get ns (length path)) (ends_more d node s.end l path s.step) ∙ last_node d s.end to path s.more

-- no link follows the last node
no_link : (d : Domain) (o : Option Node) → link_from d o None ≡ None
no_link d None = refl
no_link d (Some (Bridge b)) = refl
no_link d (Some (Station s)) = refl

-- if no node occurs twice on a path, none does after its first link
pub later_once : (d : Domain) (node end : Node) (l : ℕ) (path : List ℕ) → EndsOnce d.links node (l ∷ path) → led_to d.links node l ≡ Some end →
    EndsOnce d.links end path
later_once d node end l path once step = record {
  not_again = once.once [] l path node end refl refl step;
  once = λ front m rest from there is to_node by.
      once.once (l ∷ front) m rest from there (ap (λ ws. l ∷ ws) is)
      (ap (λ (o : Option Node). option_and_then (λ n. led_along (led_to d.links) n front) o) step ∙ to_node) by;
}

-- so no node is at two indexes
pub nodes_once : (d : Domain) (node to : Node) (path : List ℕ) (i j : ℕ) (n : Node) → EndsOnce d.links node path → led_along (led_to d.links) node path ≡ Some to →
    i < j → slice_get (nodes_along d node path) i ≡ Some n → slice_get (nodes_along d node path) j ≡ Some n → ⊥
nodes_once d node to path i zero n once e below one two = omega (arith, below)
nodes_once d node to path zero (suc j) n once e below one two =
    once.not_again (subst (λ (m : Node). Contains (ends_along d.links node path) m) (sym (same_Some node n one))
    (contains_at (ends_along d.links node path) j n two))
nodes_once d node to [] (suc i) (suc j) n once e below one two = absurd cc
nodes_once d node to (l ∷ path) (suc i) (suc j) n once e below one two =
    let s = first_step d node to l path e in
    let ends = ends_more d node s.end l path s.step in
    nodes_once d s.end to path i j n (later_once d node s.end l path once s.step) s.more (omega (arith, below))
    (sym (ap (λ (ns : List Node). slice_get ns i) ends) ∙ one) (sym (ap (λ (ns : List Node). slice_get ns j) ends) ∙ two)

-- both nodes are there
pub both_there : (a b : Option Node) → is_same a b ≡ true → (n : Node) × (a ≡ Some n) × (b ≡ Some n)
both_there None b h = absurd cc
both_there (Some a) None h = absurd cc
both_there (Some a) (Some b) h = (a, refl, ap (λ (n : Node). Some n) (sym (same_node_true a b h)))

module _ (d : Domain) (good : IsDomain d) where
  -- a name leads back to its node
  pub name_leads_back : (node : Node) → IsNode d node → node_named d (name_of_node d node) ≡ Some node
  name_leads_back (Bridge b) inside =
      ap (λ o. node_or o (index_of (name_of_bridge d b) d.stations)) (index_is d.bridges (front_apart d.bridges d.stations good.distinct) b inside)
  name_leads_back (Station s) inside =
      let no_bridge : index_of (name_of_node d (Station s)) d.bridges ≡ None =
      no_index (name_of_node d (Station s)) d.bridges (λ i there. apart_across d.bridges d.stations good.distinct i s there inside) in
      (λ i. node_or (no_bridge i) (index_is d.stations (after_apart d.bridges d.stations good.distinct) s inside i))

  -- a link ends in a node of the domain, and has its name
  pub end_inside : (node end : Node) (l : ℕ) → led_to d.links node l ≡ Some end → IsNode d end
  end_inside node end l e =
      let leads = leads_by d node end l e in subst (IsNode d) leads.to_is (to_node d l leads.link good.accepted leads.stands)

  pub end_name : (node end : Node) (l : ℕ) → led_to d.links node l ≡ Some end → name_of_end d l ≡ name_of_node d end
  end_name node end l e = let leads = leads_by d node end l e in name_at_end d l leads.link end leads.stands leads.to_is

  -- the nodes of a path's names are its nodes
  pub node_there : (node to : Node) (path : List ℕ) (k : ℕ) → IsNode d node → led_along (led_to d.links) node path ≡ Some to →
      node_at d (branch_from d node path) k ≡ slice_get (nodes_along d node path) k
  node_there node to path zero inside e = name_leads_back node inside
  node_there node to [] (suc k) inside e = refl
  node_there node to (l ∷ path) (suc k) inside e =
      let s = first_step d node to l path e in
      ap (λ (name : List ℕ). node_at d (name ∷ map (name_of_end d) path) k) (end_name node s.end l s.step)
      ∙ node_there s.end to path k (end_inside node s.end l s.step) s.more
      ∙ sym (ap (λ (ns : List Node). slice_get ns k) (ends_more d node s.end l path s.step))

  -- the links between its nodes are its links
  link_by_nodes : (node to : Node) (path : List ℕ) (k : ℕ) → led_along (led_to d.links) node path ≡ Some to →
      link_from d (slice_get (nodes_along d node path) k) (slice_get (nodes_along d node path) (suc k)) ≡ slice_get path k
  link_by_nodes node to [] k e = no_link d (slice_get (node ∷ []) k)
  link_by_nodes node to (l ∷ path) zero e =
      let s = first_step d node to l path e in
      let leads = leads_by d node s.end l s.step in
      ap (λ (ns : List Node). link_from d (Some node) (slice_get ns zero)) (ends_more d node s.end l path s.step)
      ∙ ap (λ (n : Node). link_from d (Some n) (Some s.end)) leads.from_is
      ∙ only-link d good.no_link_twice leads.link.from s.end l leads.link leads.stands refl leads.to_is
  link_by_nodes node to (l ∷ path) (suc k) e =
      let s = first_step d node to l path e in
      ap (λ (ns : List Node). link_from d (slice_get ns k) (slice_get ns (suc k))) (ends_more d node s.end l path s.step)
      ∙ link_by_nodes s.end to path k s.more

  -- and so are those between the nodes of its names
  pub link_there : (node to : Node) (path : List ℕ) (k : ℕ) → IsNode d node → led_along (led_to d.links) node path ≡ Some to →
      link_at d (branch_from d node path) k ≡ slice_get path k
  link_there node to path k inside e =
      let next : k + 1 ≡ suc k = omega arith in
      ap (λ (j : ℕ). link_from d (node_at d (branch_from d node path) k) (node_at d (branch_from d node path) j)) next
      ∙ (λ i. link_from d (node_there node to path k inside e i) (node_there node to path (suc k) inside e i))
      ∙ link_by_nodes node to path k e

  -- each name after the first is that of a node in which a link ends
  pub named_end : (node to : Node) (path : List ℕ) (name : List ℕ) → led_along (led_to d.links) node path ≡ Some to → Contains (map (name_of_end d) path) name →
      (end : Node) × Contains (ends_along d.links node path) end × (node_named d name ≡ Some end)
  named_end node to [] name e c = absurd (contains_none name c)
  named_end node to (l ∷ path) name e c =
      let s = first_step d node to l path e in
      let ends = ends_more d node s.end l path s.step in
      elim (contains_cases (name_of_end d l) (map (name_of_end d) path) name c) [
        | inl here ↦ (
          s.end,
          subst (λ (ns : List Node). Contains ns s.end) (sym ends) (contains_here s.end (ends_along d.links s.end path)),
          ap (node_named d) (sym here ∙ end_name node s.end l s.step) ∙ name_leads_back s.end (end_inside node s.end l s.step),
        )
        | inr later ↦ let r = named_end s.end to path name s.more later in (
          r.0,
          subst (λ (ns : List Node). Contains ns r.0) (sym ends) (contains_later s.end (ends_along d.links s.end path) r.0 r.1),
          r.2,
        )
      ]

  module _ (bridge : ℕ) (inside : bridge < length d.bridges) (path : List ℕ) where
    -- the branch of a path that leads from a bridge
    abbrev branch : Branch
    branch = branch_from d (Bridge bridge) path

    long : length branch ≡ suc (length path)
    long = ap (λ (n : ℕ). suc n) (length-map path (name_of_end d))

    -- each name of it is a node's
    pub known_there : (to : Node) (name : List ℕ) → led_along (led_to d.links) (Bridge bridge) path ≡ Some to →
        Contains (branch_from d (Bridge bridge) path) name → is_none (node_named d name) ≡ false
    known_there to name e c = elim (contains_cases (name_of_node d (Bridge bridge)) (map (name_of_end d) path) name c) [
      | inl here ↦ ap (λ (n : List ℕ). is_none (node_named d n)) (sym here) ∙ ap is_none (name_leads_back (Bridge bridge) inside)
      | inr later ↦ ap is_none (named_end (Bridge bridge) to path name e later).2
    ]

    -- it begins at a bridge
    begins_there : (to : Node) (k : ℕ) → led_along (led_to d.links) (Bridge bridge) path ≡ Some to → begins_elsewhere d branch k ≡ false
    begins_there to k e = and_right (k == 0) (not (is_bridge (node_at d branch 0)))
        (ap (λ (o : Option Node). not (is_bridge o)) (node_there (Bridge bridge) to path zero inside e))

    -- a link leads to each node after the first
    linked_there : (to : Node) (k : ℕ) → led_along (led_to d.links) (Bridge bridge) path ≡ Some to → lacks_link d branch k ≡ false
    linked_there to zero e = refl
    linked_there to (suc j) e =
        let back : suc j - 1 ≡ j = omega arith in
        elim (cases_lt j (length path)) [
          | inl low ↦ and_right (nat_le 1 (suc j) && nat_lt (suc j) (length branch)) (is_none (link_at d branch (suc j - 1)))
              (ap (λ (m : ℕ). is_none (link_at d branch m)) back
              ∙ ap is_none (link_there (Bridge bridge) to path j inside e ∙ slice_get-get_or path j 0 low))
          | inr high ↦ and_left (nat_le 1 (suc j) && nat_lt (suc j) (length branch)) (is_none (link_at d branch (suc j - 1)))
              (and_right (nat_le 1 (suc j)) (nat_lt (suc j) (length branch)) (le-ltb (suc j) (length branch) (omega (arith, high, long))))
        ]

    -- it ends in a station
    ends_there : (station k : ℕ) → led_along (led_to d.links) (Bridge bridge) path ≡ Some (Station station) → ends_at_bridge d branch k ≡ false
    ends_there station k e = elim (cases_eq k (length path)) [
      | inl last ↦ and_right (k + 1 == length branch) (is_bridge (node_at d branch k))
          (ap is_bridge (node_there (Bridge bridge) (Station station) path k inside e
          ∙ ap (λ (j : ℕ). slice_get (nodes_along d (Bridge bridge) path) j) last ∙ last_node d (Bridge bridge) (Station station) path e))
      | inr other ↦ and_left (k + 1 == length branch) (is_bridge (node_at d branch k))
          (false_from_ne_true (k + 1 == length branch) (λ t. other (omega (arith, eqb-true (k + 1) (length branch) t, long))))
    ]

    -- it has no more nodes than are allowed
    few_there : (k : ℕ) → length path ≤ most_links → MayBePaths d.limits → is_beyond_most d branch k ≡ false
    few_there k few most = false_from_ne_true (is_beyond_most d branch k) (λ t.
        let parts = and_parts (k == nodes_within d.limits) (nat_lt k (length branch)) t in
        omega (arith, eqb-true k (nodes_within d.limits) parts.0, ltb-true k (length branch) parts.1, long, few, most))

    -- so it is broken nowhere
    pub whole_there : (station k : ℕ) → led_along (led_to d.links) (Bridge bridge) path ≡ Some (Station station) → length path ≤ most_links →
        MayBePaths d.limits → is_broken_at d (branch_from d (Bridge bridge) path) k ≡ false
    whole_there station k e few most =
        (λ i. begins_there (Station station) k e i || linked_there (Station station) k e i || ends_there station k e i || few_there k few most i)

    -- and if no node occurs twice on the path, none does in the branch
    pub simple_there : (to : Node) (k : ℕ) → led_along (led_to d.links) (Bridge bridge) path ≡ Some to → EndsOnce d.links (Bridge bridge) path →
        k ≤ length (branch_from d (Bridge bridge) path) → is_loop_at d (branch_from d (Bridge bridge) path) k ≡ false
    simple_there to k e once within = false_from_ne_true (is_loop_at d branch k) (λ t.
        let found = any_member (λ name. is_same (node_named d name) (node_at d branch k)) (take k branch) t in
        let index = index_of_member (take k branch) found.0 found.1 in
        let below : index.0 < k = omega (arith, slice_get_within (take k branch) index.0 found.0 index.1, length-take-le k branch within) in
        let stands : slice_get branch index.0 ≡ Some found.0 = sym (slice_get-take branch k index.0 below) ∙ index.1 in
        let (n, named, here) = both_there (node_named d found.0) (node_at d branch k) found.2 in
        nodes_once d (Bridge bridge) to path index.0 k n once e below
        (sym (node_there (Bridge bridge) to path index.0 inside e) ∙ node_of_name d branch index.0 found.0 stands ∙ named)
        (sym (node_there (Bridge bridge) to path k inside e) ∙ here))
