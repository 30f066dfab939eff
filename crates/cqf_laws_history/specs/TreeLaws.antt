-- Laws about where a stream goes and what it costs, in a planner's words.
use Rattle.std.specs.Prelude.{ℕ, true, false, ◌≡◌, ◌≢◌, ◌≤◌, ◌<◌, ◌↔◌, length, Option, AllPairs, Contains}
use Rattle.cqf_units.specs.Timing.{cost_of}
use Rattle.cqf_model.specs.declared.topology.Hop.{Hop}
use Rattle.cqf_model.specs.declared.topology.Row.{Row}
use Rattle.cqf_model.specs.Domain.{Domain, bridge_of, leaves}
use Rattle.cqf_model.specs.Paces.{is_active}
use Rattle.cqf_model.specs.Table.{IsHop, bridges_of, cost_on, goes_on, goes_to, links_of, residence}

-- the row's tree has a hop by `link` that follows `ingress`: the link before it, or none at the edge
pub record LeadsOn (row : Row) (ingress : Option ℕ) (link : ℕ) : Type 0 where
  pub hop : Hop
  pub of_tree : Contains row.tree.items hop
  pub comes_by : hop.from ≡ ingress
  pub is_link : hop.link ≡ link

-- a frame goes on by exactly the links that follow, in its tree, the link by which it came
abbrev pub FramesGoOnByTheirTree : Type 0
FramesGoOnByTheirTree = (row : Row) (ingress : Option ℕ) (link : ℕ) → Contains (goes_to row ingress) link ↔ LeadsOn row ingress link

-- a frame goes on from exactly the bridges that one of these links leaves; a hop that leaves another bridge doesn't count
abbrev pub FramesGoOnWhereALinkLeaves : Type 0
FramesGoOnWhereALinkLeaves =
    (d : Domain) (row : Row) (ingress : Option ℕ) (bridge : ℕ) →
    goes_on d row ingress bridge ≡ true ↔ ((link : ℕ) × Contains (goes_to row ingress) link × (leaves d link bridge ≡ true))

-- a stream has a gate at exactly the bridges that its links leave
abbrev pub GatesStandWhereLinksLeave : Type 0
GatesStandWhereLinksLeave =
    (d : Domain) (row : Row) (bridge : ℕ) → Contains (bridges_of d row) bridge ↔ ((link : ℕ) × Contains (links_of row) link × (bridge_of d link ≡ bridge))

-- a stream has one gate at each bridge that its links leave
abbrev pub OneGateABridge : Type 0
OneGateABridge = (d : Domain) (row : Row) → AllPairs (λ (a b : ℕ). a ≢ b) (bridges_of d row)

-- `most` is the greatest hop number of the stream's links: no link has a greater one, and if the tree has a link, some link has this one
pub record IsGreatestHopNumber (row : Row) (most : ℕ) : Type 0 where
  pub none_greater : (hop_number link : ℕ) → IsHop row hop_number link → hop_number ≤ most
  pub some_so_great : 0 < length row.tree.items → (link : ℕ) × IsHop row most link

-- a stream's residence is the greatest hop number of its links
abbrev pub ResidenceIsTheGreatestHopNumber : Type 0
ResidenceIsTheGreatestHopNumber = (row : Row) → IsGreatestHopNumber row (residence row)

-- on each of its links, a stream costs the cost of its reservation in the cycles in which its frames are at the link's hop number;
-- in another cycle, or on another link, it costs nothing
abbrev pub StreamsCostOnceALink : Type 0
StreamsCostOnceALink = (row : Row) (hop_number link cycle : ℕ) → IsHop row hop_number link → is_active row.pace hop_number cycle ≡ true → cost_on row link cycle ≡ cost_of row.overhead row.octets

abbrev pub StreamsCostNothingElsewhere : Type 0
StreamsCostNothingElsewhere = (row : Row) (link cycle : ℕ) → ((hop_number : ℕ) → IsHop row hop_number link → is_active row.pace hop_number cycle ≡ false) →
    cost_on row link cycle ≡ 0
