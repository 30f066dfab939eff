-- What the streams of a table cost of each link, as sums by link and cycle.
use Rattle.std.proofs.Common.{◌≡◌, ◌≢◌, ◌+◌, ◌<◌, ◌≤◌, ◌^◌, ◌∙◌, ℕ, true, List, All, AllPairs, Contains, ap, arith, get_or, length, subst, take}
use Rattle.std.proofs.lemmas.List.Elements.{All-map}
use Rattle.std.proofs.lemmas.List.Sums.{sum_by_more, sum_by_more_le}
use Rattle.cqf_lists.proofs.Pairs.{pairs_map}
use Rattle.cqf_units.specs.Timing.{cost_of}
use Rattle.cqf_model.specs.declared.topology.Hop.{Hop}
use Rattle.cqf_model.specs.declared.topology.Pace.{Pace}
use Rattle.cqf_model.specs.declared.topology.Row.{Row}
use Rattle.cqf_model.specs.Domain.{Domain, IsAccepted, end_of}
use Rattle.cqf_model.proofs.Links.{budget_within}
use Rattle.cqf_model.specs.History.{most_beside}
use Rattle.cqf_model.specs.Table.{IsTree, cost_on, link_cost, links_in}
use Rattle.cqf_laws_history.specs.StateLaws.{AreHeld}
use Rattle.cqf_admission.specs.Costs.{most_cost}
use Rattle.cqf_admission.proofs.ActiveCycleLemmas.{low_at}
use Rattle.cqf_admission.specs.ActiveCycles.{AreMoreIn, AreNone, HasRoomFor, SumsByCycle}
use Rattle.cqf_program_plans.proofs.Fits.{most_taken, most_within}
use Rattle.cqf_program_plans.specs.Latency.Output.{AreCostsOf, AreCountable, CostLittle}

-- no two hops of a tree have the same link, and each has one of the domain's links
tree_apart : (d : Domain) (tree : List Hop) → IsTree d tree → AllPairs (λ (a b : ℕ). a ≢ b) (links_in tree)
tree_apart d tree good =
    pairs_map (λ (a b : ℕ). a ≢ b) (λ (hop : Hop). hop.link) tree (λ i j e l m same. good.reached_once i j e l m (ap (end_of d) same))

-- so what held streams cost can be added to sums
pub held_countable : (d : Domain) (rows : List Row) (next effect : ℕ) → IsAccepted d → AreHeld d rows next effect → AreCountable (length d.links) rows
held_countable d rows next effect accepted held row among = record {
  octets = held.most_octets row among;
  overhead = omega (arith, held.overheads row among, accepted.overhead_short);
  inside = All-map (λ (l : ℕ). l < length d.links) (λ (hop : Hop). hop.link) row.tree.items (held.trees row among).inside;
  apart = tree_apart d row.tree.items (held.trees row among);
}

-- a hop of a tree has one of this number of links
pub low_hop : (tree : List Hop) (hop : Hop) (n : ℕ) → Contains tree hop → All (λ (l : ℕ). l < n) (links_in tree) → hop.link < n
low_hop tree hop n there all = subst (λ (h : Hop). h.link < n) there.2 (low_at tree there.0 hop n there.1 all)

-- and they cost little of each link in a cycle
pub held_little : (d : Domain) (rows : List Row) (next effect : ℕ) → IsAccepted d → AreHeld d rows next effect → CostLittle rows
held_little d rows next effect accepted held l cycle =
    omega (arith, held.loads l cycle, budget_within d l, accepted.cycle_most)

-- so sums of these costs fit in 32 bits
pub most_little : (rows : List Row) (l : ℕ) → CostLittle rows → most_cost rows l ≤ 110000000
most_little rows l little = most_taken (λ active_cycle. true) (link_cost rows l) 110000000 (λ active_cycle on. little l active_cycle) 80

pub beside_little : (rows : List Row) (tree : List Hop) (pace : Pace) (l : ℕ) → CostLittle rows → most_beside rows tree pace l ≤ 110000000
beside_little rows tree pace l little = most_within rows tree pace l 110000000 (λ active_cycle on. little l active_cycle)

-- a value that equals a bounded one is bounded
pub none_more : (taken most greatest : ℕ) → taken ≡ greatest → greatest ≤ most → most < taken → ⊥
none_more taken most greatest is within over = omega (arith, is, within, over)

-- before the first row
pub costs_none : (links : ℕ) (rows : List Row) (costs : SumsByCycle) → AreNone costs links → AreCostsOf links (take 0 rows) costs
costs_none links rows costs none = record { as_many = none.of_links; each = λ l cycle low. none.none l cycle }

module _ (links : ℕ) (rows : List Row) (k : ℕ) (row : Row) (inside : k < length rows) (there : row ≡ get_or rows k row) (costs : SumsByCycle)
    (so_far : AreCostsOf links (take k rows) costs) where
  -- there is room for the next
  pub costs_room : (most : ℕ) → most < 2 ^ 32 → ((l cycle : ℕ) → link_cost rows l cycle ≤ most) → HasRoomFor costs row.tree.items row.pace (cost_of row.overhead row.octets)
  costs_room most small each l cycle low =
      let within = sum_by_more_le (λ (r : Row). cost_on r l cycle) rows k row inside in
      let here : cost_on row l cycle ≡ cost_on (get_or rows k row) l cycle = ap (λ (r : Row). cost_on r l cycle) there in
      omega (arith, within, here, each l cycle, so_far.each l cycle (omega (arith, low, so_far.as_many)), small)

  -- and with it
  pub costs_more : (after : SumsByCycle) → AreMoreIn costs row.tree.items row.pace (cost_of row.overhead row.octets) after → AreCostsOf links (take (k + 1) rows) after
  costs_more after more = record {
    as_many = more.links ∙ so_far.as_many;
    each = λ l cycle low.
        let grown = sum_by_more (λ (r : Row). cost_on r l cycle) rows k row inside in
        let here : cost_on row l cycle ≡ cost_on (get_or rows k row) l cycle = ap (λ (r : Row). cost_on r l cycle) there in
        omega (arith, more.each l cycle (omega (arith, low, so_far.as_many)), so_far.each l cycle low, grown, here);
  }
