-- With edge gates, each stream has the gate of its edge bridge and no other.
use Rattle.std.proofs.Common.{◌≡◌, ℕ, ◌+◌, ◌∙◌, ◌++◌, ◌==◌, ◌<◌, ◌≤◌, ◌∷◌, [], Bool, true, false, List, Option, Some, None, if◌then◌else◌, length, map, refl, sym, ap, append-nil, arith, subst, eqb-true, ◌||◌}
use Rattle.std.specs.Prelude.{All, AllPairs, Contains, filter, find, get_or, is_none, is_some, slice_get, take}
use Rattle.std.specs.List.{list_any}
use Rattle.std.specs.Option.{option_and_then, option_map_or}
use Rattle.std.proofs.lemmas.List.{map-append, take_more}
use Rattle.std.proofs.lemmas.List.Elements.{All-contains, filter-append}
use Rattle.std.proofs.lemmas.List.Sums.{count_by-le-length, length-filter}
use Rattle.cqf_lists.proofs.Any.{list_any-map}
use Rattle.cqf_lists.proofs.Members.{all_from_members, any_member, contains_from_filter, contains_from_map, contains_map, find_member, member_any}
use Rattle.cqf_lists.proofs.Pairs.{pairs_map}
use Rattle.cqf_admission.specs.Tables.{AreAlongLinks}
use Rattle.cqf_admission.specs.ActiveCycles.{AreOfGoodPaces, IsOfGoodPace}
use Rattle.cqf_compile.specs.BridgeGates.{first_hop, gate_at, ingress_at}
use Rattle.cqf_compile.specs.WrittenGates.{FramesComeThatWay}
use Rattle.cqf_gates.specs.ReservedSpans.{reserved_spans}
use Rattle.cqf_laws_history.specs.TreeLaws.{GatesStandWhereLinksLeave}
use Rattle.cqf_model.specs.declared.topology.Hop.{Hop}
use Rattle.cqf_model.specs.declared.topology.Link.{Link}
use Rattle.cqf_model.specs.declared.topology.Row.{Row}
use Rattle.cqf_model.specs.Domain.{Domain, bridge_of, leaves}
use Rattle.cqf_model.specs.Table.{IsTree, begins_at, bridges_of, hop_number_after, links_of, same_ingress}
use Rattle.cqf_model.proofs.Links.{leaves_its_bridge}
use Rattle.cqf_program_plans.specs.Compile.Gated.{EdgeGatesAreAtTheEdge, edge_hops, edge_row, gated_rows}

-- the value past the end of a list of hops
abbrev no_hop : Hop
no_hop = record { link = 0; hop_number = 0; from = None }

-- one more hop is kept, or isn't
one_more : (hops : List Hop) (k : ℕ) (d : Hop) → k < length hops →
    edge_hops (take (k + 1) hops) ≡ edge_hops (take k hops) ++ (if is_none (get_or hops k d).from then get_or hops k d ∷ [] else [])
one_more hops k d l =
    ap edge_hops (take_more hops k d l) ∙ filter-append (λ (hop : Hop). is_none hop.from) (take k hops) (get_or hops k d ∷ [])

pub hop_kept : (hops : List Hop) (k : ℕ) (d hop : Hop) (kept : List Hop) → k < length hops → hop ≡ get_or hops k d → is_none hop.from ≡ true →
    kept ≡ edge_hops (take k hops) → kept ++ hop ∷ [] ≡ edge_hops (take (k + 1) hops)
hop_kept hops k d hop kept l is first so_far =
    let tested : is_none (get_or hops k d).from ≡ true = ap (λ (h : Hop). is_none h.from) (sym is) ∙ first in
    ap (λ (hs : List Hop). hs ++ hop ∷ []) so_far
    ∙ ap (λ (h : Hop). edge_hops (take k hops) ++ h ∷ []) is
    ∙ ap (λ (b : Bool). edge_hops (take k hops) ++ (if b then get_or hops k d ∷ [] else [])) (sym tested)
    ∙ sym (one_more hops k d l)

pub hop_skipped : (hops : List Hop) (k : ℕ) (d hop : Hop) (kept : List Hop) → k < length hops → hop ≡ get_or hops k d → is_none hop.from ≡ false →
    kept ≡ edge_hops (take k hops) → kept ≡ edge_hops (take (k + 1) hops)
hop_skipped hops k d hop kept l is later so_far =
    let tested : is_none (get_or hops k d).from ≡ false = ap (λ (h : Hop). is_none h.from) (sym is) ∙ later in
    so_far ∙ sym (append-nil (edge_hops (take k hops)))
    ∙ ap (λ (b : Bool). edge_hops (take k hops) ++ (if b then get_or hops k d ∷ [] else [])) (sym tested)
    ∙ sym (one_more hops k d l)

-- no more hops are kept than there are
pub few_kept : (hops : List Hop) → length (edge_hops hops) ≤ length hops
few_kept hops =
    let test = λ (hop : Hop). is_none hop.from in omega (arith, length-filter test hops, count_by-le-length test hops)

-- one more row
pub row_kept : (rows : List Row) (k : ℕ) (d row : Row) (kept : List Row) → k < length rows → row ≡ get_or rows k d → kept ≡ map edge_row (take k rows) →
    kept ++ edge_row row ∷ [] ≡ map edge_row (take (k + 1) rows)
row_kept rows k d row kept l is so_far =
    ap (λ (rs : List Row). rs ++ edge_row row ∷ []) so_far
    ∙ ap (λ (r : Row). map edge_row (take k rows) ++ edge_row r ∷ []) is
    ∙ sym (map-append edge_row (take k rows) (get_or rows k d ∷ []))
    ∙ ap (map edge_row) (sym (take_more rows k d l))

-- ---- what holds of the rows

-- a hop that is kept is one of the tree, and follows no other
kept_hop : (hops : List Hop) (hop : Hop) → Contains (edge_hops hops) hop → Contains hops hop × (is_none hop.from ≡ true)
kept_hop hops hop c = contains_from_filter (λ (h : Hop). is_none h.from) hops hop c

-- the kept links are links of the tree
along_one : (d : Domain) (row : Row) → All (λ l. l < length d.links) (links_of row) → All (λ l. l < length d.links) (links_of (edge_row row))
along_one d row along =
    all_from_members (λ l. l < length d.links) (links_of (edge_row row)) (λ l c.
    let w = contains_from_map (λ (hop : Hop). hop.link) (edge_hops row.tree.items) l c in
    let there = contains_map (λ (hop : Hop). hop.link) row.tree.items w.0 (kept_hop row.tree.items w.0 w.1).0 in
    All-contains (λ k. k < length d.links) (links_of row) l along (subst (λ k. Contains (links_of row) k) w.2 there))

pub along_gated : (d : Domain) (edge_gates : Bool) (rows : List Row) → AreAlongLinks d rows → AreAlongLinks d (gated_rows edge_gates rows)
along_gated d false rows along = along
along_gated d true rows along = λ row c.
    let w = contains_from_map edge_row rows row c in
    subst (λ (r : Row). All (λ l. l < length d.links) (links_of r)) w.2 (along_one d w.0 (along w.0 w.1))

pub paced_gated : (edge_gates : Bool) (rows : List Row) → AreOfGoodPaces rows → AreOfGoodPaces (gated_rows edge_gates rows)
paced_gated false rows paced = paced
paced_gated true rows paced = λ row c.
    let w = contains_from_map edge_row rows row c in
    subst IsOfGoodPace w.2 (paced w.0 w.1)

pub numbers_gated : (edge_gates : Bool) (rows : List Row) → AllPairs (λ (a b : Row). a.no < b.no) rows →
    AllPairs (λ (a b : Row). a.no < b.no) (gated_rows edge_gates rows)
numbers_gated false rows numbers = numbers
numbers_gated true rows numbers = pairs_map (λ (a b : Row). a.no < b.no) edge_row rows numbers

-- ---- the law

-- a test finds something exactly if some element passes
found_any : {X : Type 0} (test : X → Bool) (xs : List X) → is_some (find test xs) ≡ list_any test xs
found_any test [] = refl
found_any test (x ∷ xs) = by (test x) (found_any test xs)
  where
    -- whether or not the first passes
    by : (b : Bool) → is_some (find test xs) ≡ list_any test xs → is_some (if b then Some x else find test xs) ≡ (b || list_any test xs)
    by true e = refl
    by false e = e

-- an ingress that isn't there is the edge
none_ingress : (o : Option ℕ) → is_none o ≡ same_ingress o None
none_ingress None = refl
none_ingress (Some l) = refl

none_is : (o : Option ℕ) → is_none o ≡ true → o ≡ None
none_is None e = refl
none_is (Some l) e = absurd (cc)

-- the link leaves one bridge
its_bridge : (d : Domain) (l bridge : ℕ) → leaves d l bridge ≡ true → bridge_of d l ≡ bridge
its_bridge d l bridge here = by (slice_get d.links l) here
  where
    -- that at which it begins
    by : (o : Option Link) → option_map_or (λ (link : Link). link.from == bridge) o false ≡ true → option_map_or (λ (link : Link). link.from) o 0 ≡ bridge
    by None e = absurd (cc)
    by (Some link) e = eqb-true link.from bridge e

module _ (d : Domain) (row : Row) (bridge : ℕ) where
  -- whether a hop leaves the bridge
  abbrev here : Hop → Bool
  here hop = leaves d hop.link bridge

  -- some kept hop leaves the bridge exactly if the stream begins there
  any_begins : list_any here (edge_hops row.tree.items) ≡ begins_at d row bridge
  any_begins =
      let tests : (λ (hop : Hop). is_none hop.from) ≡ (λ (hop : Hop). same_ingress hop.from None) = λ i. λ hop. none_ingress hop.from i in
      ap (λ (test : Hop → Bool). list_any here (filter test row.tree.items)) tests
      ∙ sym (list_any-map (λ l. leaves d l bridge) (λ (hop : Hop). hop.link) (filter (λ (hop : Hop). same_ingress hop.from None) row.tree.items))

  -- a first hop of kept ones follows no other
  edge_ingress : (o : Option Hop) → find here (edge_hops row.tree.items) ≡ o → option_and_then (λ (hop : Hop). hop.from) o ≡ None
  edge_ingress None e = refl
  edge_ingress (Some hop) e = none_is hop.from (kept_hop row.tree.items hop (find_member here (edge_hops row.tree.items) hop e).0).1

  -- so the gate is the same
  same_gate : FramesComeThatWay → IsTree d row.tree.items → begins_at d row bridge ≡ true → gate_at d (edge_row row) bridge ≡ gate_at d row bridge
  same_gate ingresses tree begins =
      let edge : ingress_at d bridge (edge_row row) ≡ None = edge_ingress (first_hop d bridge (edge_row row)) refl in
      let own : None ≡ ingress_at d bridge row = ingresses d row None bridge tree begins in
      ap (λ (ingress : Option ℕ). reserved_spans d.cycle_time row.octets row.pace (hop_number_after (edge_row row) ingress)) edge
      ∙ ap (λ (ingress : Option ℕ). reserved_spans d.cycle_time row.octets row.pace (hop_number_after row ingress)) own

  -- a gate is there exactly if the stream begins there
  there : GatesStandWhereLinksLeave → IsTree d row.tree.items → Contains (bridges_of d (edge_row row)) bridge → begins_at d row bridge ≡ true
  there gates tree c =
      let w = (gates d (edge_row row) bridge).0 c in
      let k = contains_from_map (λ (hop : Hop). hop.link) (edge_hops row.tree.items) w.0 w.1 in
      let inside : k.0.link < length d.links =
      All-contains (λ (hop : Hop). hop.link < length d.links) row.tree.items k.0 tree.inside (kept_hop row.tree.items k.0 k.1).0 in
      let at : bridge_of d k.0.link ≡ bridge = ap (bridge_of d) k.2 ∙ w.2 in
      let out : leaves d k.0.link bridge ≡ true = subst (λ b. leaves d k.0.link b ≡ true) at (leaves_its_bridge d k.0.link inside) in
      sym any_begins ∙ member_any here (edge_hops row.tree.items) k.0 k.1 out

  back : GatesStandWhereLinksLeave → begins_at d row bridge ≡ true → Contains (bridges_of d (edge_row row)) bridge
  back gates begins =
      let k = any_member here (edge_hops row.tree.items) (any_begins ∙ begins) in
      (gates d (edge_row row) bridge).1
      (k.0.link, contains_map (λ (hop : Hop). hop.link) (edge_hops row.tree.items) k.0 k.1, its_bridge d k.0.link bridge k.2)

-- the law
pub edge_gates : FramesComeThatWay → GatesStandWhereLinksLeave → EdgeGatesAreAtTheEdge
edge_gates ingresses gates d row bridge tree = record {
  gates = (there d row bridge gates tree, back d row bridge gates);
  leaves = found_any (λ (hop : Hop). leaves d hop.link bridge) (edge_hops row.tree.items) ∙ any_begins d row bridge;
  same = same_gate d row bridge ingresses tree;
}
