-- Where a stream goes, and what it costs.
use Rattle.std.proofs.Common.{◌≡◌, ℕ, Bool, true, false, List, Option, Some, None, refl, ap, ◌∙◌, inl, inr, subst, ◌≤◌}
use Rattle.std.specs.Prelude.{[], ◌∷◌, ◌==◌, ◌&&◌, if◌then◌else◌, filter, map, Contains}
use Rattle.std.specs.List.{flat_map, list_any}
use Rattle.std.proofs.lemmas.Bool.{and_from, and_parts, both_ways, cases_Bool, eq-eqb, eqb-false, eqb-true}
use Rattle.cqf_units.specs.Timing.{cost_of}
use Rattle.cqf_lists.proofs.EachOnce.{once_apart, once_covers, once_from}
use Rattle.cqf_lists.proofs.Members.{any_member, contains_filter, contains_from_filter, contains_from_map, contains_map, member_any}
use Rattle.cqf_model.proofs.Links.{same_ingress_true}
use Rattle.cqf_model.specs.declared.topology.Hop.{Hop}
use Rattle.cqf_model.specs.Domain.{bridge_of, leaves}
use Rattle.cqf_model.specs.Network.{queued_frame}
use Rattle.cqf_model.specs.Paces.{is_active}
use Rattle.cqf_model.specs.Table.{IsHop, bridges_of, goes_to, links_of, residence, same_ingress}
use Rattle.cqf_model.specs.Policing.{came_by}
use Rattle.cqf_model.proofs.Residence.{hop_number_within_residence, residence_met}
use Rattle.cqf_laws_history.specs.TrafficLaws.{FramesGoToNoOtherPort}
use Rattle.cqf_laws_history.specs.TreeLaws.{FramesGoOnByTheirTree, FramesGoOnWhereALinkLeaves, GatesStandWhereLinksLeave, LeadsOn, OneGateABridge}
use Rattle.cqf_laws_history.specs.TreeLaws.{ResidenceIsTheGreatestHopNumber, StreamsCostNothingElsewhere, StreamsCostOnceALink}

-- a number that isn't in a list isn't found there
not_among : (l : ℕ) (xs : List ℕ) → ¬ Contains xs l → list_any (λ k. k == l) xs ≡ false
not_among l xs none = elim (cases_Bool (list_any (λ k. k == l) xs)) [
  | inr f ↦ f
  | inl t ↦ (let w = any_member (λ k. k == l) xs t in absurd (none (subst (λ (k : ℕ). Contains xs k) (eqb-true w.0 l w.2) w.1)))
]

-- a frame goes to no port that its stream doesn't take next
pub no_other_port : FramesGoToNoOtherPort
no_other_port d received row l none =
    ap (λ (b : Bool). flat_map (λ (x : Unit {0}). if b then queued_frame d received row ∷ [] else []) (tt ∷ []))
    (not_among l (goes_to row (came_by received.ingress)) none)

-- a stream costs its reservation on a link in its active cycles there
pub costs_once : StreamsCostOnceALink
costs_once row hop_number link cycle is active_cycle =
    let hop = is.hop in
    let here : ((hop.link == link) && is_active row.pace hop.hop_number cycle) ≡ true =
    and_from (hop.link == link) (is_active row.pace hop.hop_number cycle) (eq-eqb hop.link link is.is_link) (ap (λ k. is_active row.pace k cycle) is.is_hop_number ∙ active_cycle) in
    ap (λ (b : Bool). if b then cost_of row.overhead row.octets else 0)
    (member_any (λ (h : Hop). (h.link == link) && is_active row.pace h.hop_number cycle) row.tree.items hop is.of_tree here)

-- and nothing otherwise
pub costs_nothing : StreamsCostNothingElsewhere
costs_nothing row link cycle none =
    let at : Hop → Bool = λ hop. (hop.link == link) && is_active row.pace hop.hop_number cycle in
    elim (cases_Bool (list_any at row.tree.items)) [
      | inr f ↦ ap (λ (b : Bool). if b then cost_of row.overhead row.octets else 0) f
      | inl t ↦
          let w = any_member at row.tree.items t in
          let both = and_parts (w.0.link == link) (is_active row.pace w.0.hop_number cycle) w.2 in
          let is : IsHop row w.0.hop_number link = record { hop = w.0; of_tree = w.1; is_hop_number = refl; is_link = eqb-true w.0.link link both.0 } in
          absurd (both_ways (is_active row.pace w.0.hop_number cycle) (none w.0.hop_number is) both.1)
    ]

-- equal ingresses are the same
itself : (a : Option ℕ) → same_ingress a a ≡ true
itself None = refl
itself (Some l) = eq-eqb l l refl

-- a frame goes on by the links of its tree
pub goes_on_by_tree : FramesGoOnByTheirTree
goes_on_by_tree row ingress link = (
  λ c.
      let w = contains_from_map (λ (hop : Hop). hop.link) (filter (λ (hop : Hop). same_ingress hop.from ingress) row.tree.items) link c in
      let k = contains_from_filter (λ (hop : Hop). same_ingress hop.from ingress) row.tree.items w.0 w.1 in
      record { hop = w.0; of_tree = k.0; comes_by = same_ingress_true w.0.from ingress k.1; is_link = w.2 },
  λ (leads : LeadsOn row ingress link).
      let same : same_ingress leads.hop.from ingress ≡ true = ap (λ (o : Option ℕ). same_ingress o ingress) leads.comes_by ∙ itself ingress in
      let kept = contains_filter (λ (hop : Hop). same_ingress hop.from ingress) row.tree.items leads.hop leads.of_tree same in
      subst (λ (l : ℕ). Contains (goes_to row ingress) l) leads.is_link
      (contains_map (λ (hop : Hop). hop.link) (filter (λ (hop : Hop). same_ingress hop.from ingress) row.tree.items) leads.hop kept),
)

-- a frame goes on from a bridge if one of the links by which it goes on leaves that bridge
pub goes_on_where_leaves : FramesGoOnWhereALinkLeaves
goes_on_where_leaves d row ingress bridge = (
  λ t. any_member (λ l. leaves d l bridge) (goes_to row ingress) t,
  λ w. member_any (λ l. leaves d l bridge) (goes_to row ingress) w.0 w.1 w.2,
)

-- a stream has a gate at each bridge that a link of its tree leaves
pub gates_where_links_leave : GatesStandWhereLinksLeave
gates_where_links_leave d row bridge = (
  λ c. contains_from_map (bridge_of d) (links_of row) bridge (once_from (λ a b. a == b) (map (bridge_of d) (links_of row)) bridge c),
  λ w.
      let there = contains_map (bridge_of d) (links_of row) w.0 w.1 in
      let kept = once_covers (λ a b. a == b) (λ a. eq-eqb a a refl) (map (bridge_of d) (links_of row)) (bridge_of d w.0) there in
      subst (λ (b : ℕ). Contains (bridges_of d row) b) (eqb-true kept.0 (bridge_of d w.0) kept.2 ∙ w.2) kept.1,
)

-- and one gate a bridge
pub one_gate : OneGateABridge
one_gate d row i j e l m = eqb-false _ _ (once_apart (λ a b. a == b) (map (bridge_of d) (links_of row)) i j e l m)

-- the residence is the greatest hop number
pub greatest_hop_number : ResidenceIsTheGreatestHopNumber
greatest_hop_number row = record {
  none_greater = λ hop_number link (hop : IsHop row hop_number link).
      subst (λ (k : ℕ). k ≤ residence row) hop.is_hop_number (hop_number_within_residence row hop.hop hop.of_tree);
  some_so_great = residence_met row;
}
