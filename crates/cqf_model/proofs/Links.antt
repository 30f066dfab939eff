-- Properties of a domain's links; equal nodes, and links that are found.
use Rattle.std.proofs.Common.{◌≡◌, ℕ, ◌+◌, ◌-◌, ◌/◌, ◌*◌, ◌<◌, ◌≤◌, true, length, sym, refl, ap, ◌∙◌, inl, inr, arith, subst, eqb-true, eq-eqb}
use Rattle.std.specs.Prelude.{Option, Some, None, false, ◌==◌, ◌&&◌}
use Rattle.std.specs.Option.{option_map_or}
use Rattle.std.proofs.lemmas.List.Quantifiers.{position-Some}
use Rattle.std.proofs.lemmas.Option.{slice_get_cases, slice_get_past}
use Rattle.cqf_units.specs.declared.timing.Rate.{Rate}
use Rattle.cqf_units.specs.declared.timing.Rate.TheVariants.{Mb10, Mb100, Mb1000, Mb2500, Mb5000, Mb10000, Mb25000, Mb40000, Mb100000}
use Rattle.cqf_units.specs.Timing.{shortest_of, ticks_of_octet, time_of}
use Rattle.cqf_units.proofs.Times.{budget_small}
use Rattle.cqf_model.specs.declared.topology.Link.{Link}
use Rattle.cqf_model.specs.declared.topology.Node.{Node}
use Rattle.cqf_model.specs.declared.topology.Node.TheVariants.{Bridge, Station}
use Rattle.cqf_model.specs.Domain.{Domain, IsAccepted, bridge_of, budget, delay_of, guard_by, guard_of, leaves, least_delay_of, octet_time_of, same_node}
use Rattle.cqf_model.specs.Loose.{IsAcceptedWith, slack_of}
use Rattle.cqf_model.specs.History.{link_from}
use Rattle.cqf_model.specs.Table.{same_ingress}

-- an octet takes time at each rate
pub rate_positive : (rate : Rate) → 0 < ticks_of_octet rate
rate_positive Mb10 = omega arith
rate_positive Mb100 = omega arith
rate_positive Mb1000 = omega arith
rate_positive Mb2500 = omega arith
rate_positive Mb5000 = omega arith
rate_positive Mb10000 = omega arith
rate_positive Mb25000 = omega arith
rate_positive Mb40000 = omega arith
rate_positive Mb100000 = omega arith

-- so it does on each link that the domain has
pub octet_positive : (d : Domain) (l : ℕ) → l < length d.links → 0 < octet_time_of d l
octet_positive d l h =
    elim (slice_get_cases d.links l).1 [
      | inl w ↦ subst (λ (o : Option Link). 0 < option_map_or (λ (link : Link). ticks_of_octet link.rate) o 0) (sym w.2) (rate_positive w.0.rate)
      | inr w ↦ absurd (omega (arith, h, w.0))
    ]

-- in an accepted domain each guard band is shorter than the cycle
pub guard_within : (d : Domain) (m : ℕ) → IsAccepted d → guard_of d m < d.cycle_time
guard_within d m accepted =
    elim (slice_get_cases d.links m).1 [
      | inl w ↦ subst (λ (o : Option Link). option_map_or (guard_by d.guard) o d.guard < d.cycle_time) (sym w.2) (accepted.links_good m w.0 w.2).guard_short
      | inr w ↦ subst (λ (o : Option Link). option_map_or (guard_by d.guard) o d.guard < d.cycle_time) (sym (slice_get_past d.links m w.0)) accepted.guard_short
    ]

-- and a link's greatest delay and the clocks' difference together are within its guard band
pub sync_within : (d : Domain) (m : ℕ) → IsAccepted d → m < length d.links → delay_of d m + d.sync < guard_of d m
sync_within d m accepted h =
    elim (slice_get_cases d.links m).1 [
      | inl w ↦
          subst (λ (o : Option Link). option_map_or (λ (link : Link). link.delay) o 0 + d.sync < option_map_or (guard_by d.guard) o d.guard) (sym w.2)
          (accepted.links_good m w.0 w.2).delay_short
      | inr w ↦ absurd (omega (arith, h, w.0))
    ]

-- so the delay alone is within it too
pub delay_within : (d : Domain) (m : ℕ) → IsAccepted d → m < length d.links → delay_of d m < guard_of d m
delay_within d m accepted h = omega (arith, sync_within d m accepted h)

-- a link's least delay is no more than its greatest
pub least_within : (d : Domain) (m : ℕ) → IsAccepted d → least_delay_of d m ≤ delay_of d m
least_within d m accepted =
    elim (slice_get_cases d.links m).1 [
      | inl w ↦
          subst (λ (o : Option Link). option_map_or (λ (link : Link). link.least) o 0 ≤ option_map_or (λ (link : Link). link.delay) o 0) (sym w.2)
          (accepted.links_good m w.0 w.2).least_short
      | inr w ↦
          subst (λ (o : Option Link). option_map_or (λ (link : Link). link.least) o 0 ≤ option_map_or (λ (link : Link). link.delay) o 0)
          (sym (slice_get_past d.links m w.0)) (omega arith)
    ]

-- the least delay and the time of a frame of the shortest size are together at least the clocks' difference
pub least_long : (d : Domain) (m : ℕ) → IsAccepted d → m < length d.links → d.sync ≤ time_of 72 (octet_time_of d m) + least_delay_of d m
least_long d m accepted h =
    elim (slice_get_cases d.links m).1 [
      | inl w ↦
          subst
          (λ (o : Option Link).
          d.sync ≤ time_of 72 (option_map_or (λ (link : Link). ticks_of_octet link.rate) o 0) + option_map_or (λ (link : Link). link.least) o 0)
          (sym w.2) (accepted.links_good m w.0 w.2).sync_short
      | inr w ↦ absurd (omega (arith, h, w.0))
    ]

-- so an accepted domain is accepted with the slack that it states
pub accepted_with : (d : Domain) → IsAccepted d → IsAcceptedWith d (slack_of d)
accepted_with d accepted = record { accepted = accepted; most_short = λ l h. sync_within d l accepted h; least_long = λ l h. least_long d l accepted h }

-- and the minimum gap after a frame is within the guard band
pub gap_within : (d : Domain) (m : ℕ) → IsAccepted d → m < length d.links → time_of 12 (octet_time_of d m) ≤ guard_of d m
gap_within d m accepted h =
    elim (slice_get_cases d.links m).1 [
      | inl w ↦
          subst (λ (o : Option Link). time_of 12 (option_map_or (λ (link : Link). ticks_of_octet link.rate) o 0) ≤ option_map_or (guard_by d.guard) o d.guard)
          (sym w.2) (accepted.links_good m w.0 w.2).gap_short
      | inr w ↦ absurd (omega (arith, h, w.0))
    ]

-- a link of the domain leaves its bridge
pub leaves_its_bridge : (d : Domain) (l : ℕ) → l < length d.links → leaves d l (bridge_of d l) ≡ true
leaves_its_bridge d l h =
    elim (slice_get_cases d.links l).1 [
      | inl w ↦
          ap (λ (o : Option Link). option_map_or (λ (link : Link). link.from == option_map_or (λ (other : Link). other.from) o 0) o false) w.2
          ∙ eq-eqb w.0.from w.0.from refl
      | inr w ↦ absurd (omega (arith, h, w.0))
    ]

-- in an accepted domain that is one of its bridges
pub bridge_within : (d : Domain) (l : ℕ) → IsAccepted d → l < length d.links → bridge_of d l < length d.bridges
bridge_within d l accepted h =
    elim (slice_get_cases d.links l).1 [
      | inl w ↦ subst (λ (o : Option Link). option_map_or (λ (link : Link). link.from) o 0 < length d.bridges) (sym w.2)
          (accepted.links_good l w.0 w.2).from_bridge
      | inr w ↦ absurd (omega (arith, h, w.0))
    ]

-- two nodes that the test calls the same are equal
pub same_node_true : (a b : Node) → same_node a b ≡ true → a ≡ b
same_node_true (Bridge a) (Bridge b) e = ap (λ (k : ℕ). Bridge k) (eqb-true a b e)
same_node_true (Bridge a) (Station b) e = absurd cc
same_node_true (Station a) (Bridge b) e = absurd cc
same_node_true (Station a) (Station b) e = ap (λ (k : ℕ). Station k) (eqb-true a b e)

-- and each node is the same as itself
pub same_node_itself : (a : Node) → same_node a a ≡ true
same_node_itself (Bridge a) = eq-eqb a a refl
same_node_itself (Station a) = eq-eqb a a refl

-- two ingresses that the test calls the same are equal
pub same_ingress_true : (a b : Option ℕ) → same_ingress a b ≡ true → a ≡ b
same_ingress_true None None e = refl
same_ingress_true None (Some m) e = absurd cc
same_ingress_true (Some l) None e = absurd cc
same_ingress_true (Some l) (Some m) e = ap (λ (k : ℕ). Some k) (eqb-true l m e)

-- a link between two nodes is one of the domain's
pub link_inside : (d : Domain) (from to : Option Node) (l : ℕ) → link_from d from to ≡ Some l → l < length d.links
link_inside d None to l e = absurd cc
link_inside d (Some (Bridge b)) None l e = absurd cc
link_inside d (Some (Station s)) None l e = absurd cc
link_inside d (Some (Station s)) (Some to) l e = absurd cc
link_inside d (Some (Bridge b)) (Some to) l e =
    (position-Some (λ (link : Link). (link.from == b) && same_node link.to to) d.links l (record { from = 0; to = to; rate = Mb10; delay = 0; least = 0; guard = None }) e).0

-- the bound of a shortest frame's time is at least 192 ticks at each rate
pub shortest_least : (rate : Rate) → 192 ≤ shortest_of (ticks_of_octet rate)
shortest_least Mb10 = omega arith
shortest_least Mb100 = omega arith
shortest_least Mb1000 = omega arith
shortest_least Mb2500 = omega arith
shortest_least Mb5000 = omega arith
shortest_least Mb10000 = omega arith
shortest_least Mb25000 = omega arith
shortest_least Mb40000 = omega arith
shortest_least Mb100000 = omega arith

-- so a link's budget is at most 11 octets for each nanosecond
pub budget_within : (d : Domain) (l : ℕ) → budget d l ≤ 11 * (d.cycle_time - guard_of d l)
budget_within d l = over (d.cycle_time - guard_of d l)
  where
    -- a link that the domain doesn't have has no budget
    none : (x : ℕ) → x * 2100 / 0 ≤ 11 * x
    none x = omega arith

    over : (x : ℕ) → x * 2100 / shortest_of (octet_time_of d l) ≤ 11 * x
    over x =
        elim (slice_get_cases d.links l).1 [
          | inl w ↦
              subst (λ (o : Option Link). x * 2100 / shortest_of (option_map_or (λ (link : Link). ticks_of_octet link.rate) o 0) ≤ 11 * x)
              (sym w.2) (budget_small x (shortest_of (ticks_of_octet w.0.rate)) (shortest_least w.0.rate))
          | inr w ↦
              subst (λ (o : Option Link). x * 2100 / shortest_of (option_map_or (λ (link : Link). ticks_of_octet link.rate) o 0) ≤ 11 * x)
              (sym (slice_get_past d.links l w.0)) (none x)
        ]
