-- Where the listeners of a stream are.
use Rattle.std.proofs.Common.{◌≡◌, ℕ, suc, ◌+◌, ◌-◌, ◌<◌, List, false, Some, None, refl, sym, ap, ◌∙◌, subst, arith}
use Rattle.std.proofs.Common.{Contains, length}
use Rattle.std.proofs.lemmas.Option.{same_Some}
use Rattle.cqf_lists.proofs.Members.{contains_at}
use Rattle.cqf_model.specs.declared.topology.Node.{Node}
use Rattle.cqf_model.specs.declared.topology.Node.TheVariants.{Bridge, Station}
use Rattle.cqf_model.specs.declared.topology.Row.{Row}
use Rattle.cqf_model.specs.Domain.{Domain}
use Rattle.cqf_model.specs.History.{Asked, Branch, hops_along, is_bridge, link_before, node_at}
use Rattle.cqf_model.specs.History.{refusal_of, tree_of}
use Rattle.cqf_model.specs.Table.{IsHop, IsTree}
use Rattle.cqf_laws_history.specs.HistoryLaws.{GrantedIsATree, TreeIsItsBranches}
use Rattle.cqf_laws_history.specs.StateLaws.{granted_row}
use Rattle.cqf_laws_history.proofs.Branches.{IsBranch, hop_made, hop_there, link_is, stands, two_at_least}
use Rattle.cqf_laws_history.proofs.Granted.{branches as branch_of, granted}
use Rattle.cqf_laws_shift.proofs.Trees.{one_hop_number, same_hop}
use Rattle.cqf_laws_timing.specs.Listeners.{BranchesEnd, HasListener, HopNumbersAreBridges}

-- a node that is no bridge is a station
station_of : (node : Node) → is_bridge (Some node) ≡ false → (station : ℕ) × (node ≡ Station station)
station_of (Bridge b) e = absurd cc
station_of (Station s) e = (s, refl)

-- the hop of a branch at an index is in the tree
hop_in_tree : TreeIsItsBranches → (d : Domain) (rows : List Row) (asked : Asked) (branch : Branch) (k : ℕ) → refusal_of d rows asked ≡ None →
    Contains asked.paths branch → IsBranch d branch → k + 1 < length branch → Contains (tree_of d asked.paths) (hop_made d branch k)
hop_in_tree branches d rows asked branch k free c good inside =
    (branches d rows asked (hop_made d branch k) free).1 (
      branch,
      c,
      contains_at (hops_along d branch) k (hop_made d branch k)
          (hop_there d branch good k inside),
    )

-- each branch ends in its listener's station
pub branches_end : TreeIsItsBranches → BranchesEnd
branches_end branches d rows asked branch free c =
    let g = granted d rows asked free in
    let good = branch_of d rows asked g branch c in
    let two = two_at_least d branch good in
    by_index (length branch - 2) good (omega (arith, two))
  where
    by_index : (k : ℕ) → IsBranch d branch → length branch ≡ suc k + 1 → HasListener d asked branch
    by_index k good long =
        let inside : k + 1 < length branch = omega (arith, long) in
        let next : k + 1 ≡ suc k = omega arith in
        let made = hop_made d branch k in
        let between = stands d branch good k inside in
        let no_bridge : is_bridge (node_at d branch (k + 1)) ≡ false = (good.whole (k + 1) (omega (arith, long))).last (omega (arith, long)) in
        let station = station_of between.node (ap is_bridge (sym between.to_is) ∙ no_bridge) in
        record {
          bridges = suc k;
          link = made.link;
          station = station.0;
          ends_at = record {
            nodes = long;
            listener = ap (node_at d branch) (sym next) ∙ between.to_is ∙ ap (λ (n : Node). Some n) station.1;
            last = link_is d branch good k inside;
            ends = between.goes.end_is ∙ ap (λ (n : Node). Some n) station.1;
          };
          is_hop = record { hop = made; of_tree = hop_in_tree branches d rows asked branch k free c good inside; is_hop_number = next; is_link = refl };
        }

-- it has no other hop number
pub hop_numbers_are_bridges : GrantedIsATree → TreeIsItsBranches → HopNumbersAreBridges
hop_numbers_are_bridges trees branches d rows asked branch row bridges hop_number link station free c ends tree at =
    let has = branches_end branches d rows asked branch free c in
    let same : has.bridges ≡ bridges = omega (arith, has.ends_at.nodes, ends.nodes) in
    let last : has.link ≡ link =
    same_Some has.link link (sym has.ends_at.last ∙ ap (link_before d branch) same ∙ ends.last) in
    let there : IsHop row has.bridges has.link = same_hop (granted_row d 0 0 asked) row has.bridges has.link (sym tree) has.is_hop in
    let good : IsTree d row.tree.items = subst (IsTree d) (sym tree) (trees d rows asked free) in
    one_hop_number d row good hop_number has.bridges link at (subst (λ (l : ℕ). IsHop row has.bridges l) last there) ∙ same
