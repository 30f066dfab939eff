-- In which cycles a stream is offered on a cycle time, and how full links are in these.
use Rattle.std.specs.Prelude.{ℕ, ◌≡◌, ◌+◌, ◌-◌, ◌*◌, ◌/◌, ◌%◌, ◌<◌, ◌≤◌, ◌==◌, ◌&&◌, ◌||◌, ⊤, Bool, true, false, Contains, List, [], ◌∷◌, Option, Some, None, fold}
use Rattle.std.specs.Prelude.{if◌then◌else◌, length, max, nat_le, nat_lt, not}
use Rattle.std.specs.Option.{option_map_or}
use Rattle.cqf_lists.specs.Lists.{each_below}
use Rattle.cqf_model.specs.declared.history.Refused.{Refused}
use Rattle.cqf_model.specs.declared.topology.Hop.{Hop}
use Rattle.cqf_model.specs.declared.topology.Pace.{Pace}
use Rattle.cqf_model.specs.declared.topology.Row.{Row}
use Rattle.cqf_model.specs.Domain.{Domain, budget}
use Rattle.cqf_model.specs.History.{Branch, is_pace, tree_of}
use Rattle.cqf_model.specs.Limits.{most_every}
use Rattle.cqf_traffic.specs.TrafficText.{TrafficText}
use Rattle.cqf_network.specs.declared.pacing.Pacing.{Pacing}
use Rattle.cqf_network.specs.declared.pacing.Pacing.TheVariants as pacing
use Rattle.cqf_admission.specs.Costs.{left_in_active_cycles}
use Rattle.cqf_admission.specs.Branches.{tree_refusal}
use Rattle.cqf_program_placing.specs.declared.phases.BudgetShare.{BudgetShare}
use Rattle.cqf_program_placing.specs.declared.active_cycles.ActiveCycles.{ActiveCycles}
use Rattle.cqf_program_placing.specs.declared.active_cycles.ActiveCycles.TheVariants.{Given, Chosen}

-- all frames of an interval arrive within one cycle. The interval is a whole number of cycles. The earliest instant of the first frame, and
-- the latest one, later by the jitter, are in the same cycle
abbrev pub keeps_step : ℕ → TrafficText → Bool
keeps_step cycle_time t = (t.interval % cycle_time == 0) && nat_lt (t.offset % cycle_time + t.jitter) cycle_time

-- the same for a stream whose cycles are to be chosen, as its talker is to be in step; false if its cycles are given
abbrev pub is_in_step : ℕ → Pacing → TrafficText → Bool
is_in_step cycle_time (pacing.Given every phase) t = false
is_in_step cycle_time pacing.InStep t = keeps_step cycle_time t

-- all frames of an interval arrive within one cycle by the edge bridge's clock too, at any difference to the talker's clock up to `sync`:
-- no frame arrives before the cycle begins, or when it is over
abbrev pub stays_in_step : ℕ → ℕ → TrafficText → Bool
stays_in_step cycle_time sync t =
    keeps_step cycle_time t && (nat_le sync (t.offset % cycle_time) && nat_lt (t.offset % cycle_time + t.jitter + sync) cycle_time)

-- whether a stream can be offered on a cycle time if clocks differ by `sync` at most: always if its cycles are given, and if its talker has
-- to be in step, only if its traffic stays in step. Without traffic it can't be in step
abbrev pub can_step : ℕ → ℕ → Pacing → Option TrafficText → Bool
can_step cycle_time sync (pacing.Given every phase) traffic = true
can_step cycle_time sync pacing.InStep traffic = option_map_or (stays_in_step cycle_time sync) traffic false

-- the greatest common divisor of a number of cycles and `most_every`, after which all paces repeat
abbrev pub every_of : ℕ → ℕ
every_of cycles =
    fold max 0 (each_below (λ k. if (most_every % (k + 1) == 0) && (cycles % (k + 1) == 0) then (k + 1) ∷ [] else []) most_every)

-- in which cycles a stream of a talker in step is offered: in one of gcd(`most_every`, interval in cycles) cycles, and the first
-- is to be chosen; without traffic in each cycle
abbrev pub active_cycles_in_step : ℕ → Option TrafficText → ActiveCycles
active_cycles_in_step cycle_time None = Given 1 0
active_cycles_in_step cycle_time (Some t) = Chosen (every_of (t.interval / cycle_time))

abbrev pub active_cycles_by : ℕ → Pacing → Option TrafficText → ActiveCycles
active_cycles_by cycle_time (pacing.Given every phase) traffic = Given every phase
active_cycles_by cycle_time pacing.InStep traffic = active_cycles_in_step cycle_time traffic

-- n if the stream is offered in one of n cycles
abbrev pub every_in : ActiveCycles → ℕ
every_in (Given every phase) = every
every_in (Chosen every) = every

-- which cycle may be the first
abbrev pub MayBeFirst : ActiveCycles → ℕ → Type 0
MayBeFirst (Given every phase) first = first ≡ phase
MayBeFirst (Chosen every) first = first < every

-- the pace of a stream that is offered in one of `every` cycles from `phase` on
abbrev pub pace_by : ℕ → ℕ → Pace
pace_by every phase = record { pause = every - 1; phase = phase }

-- ---- what links have left

-- a link as a hop with hop number 0. At a greater hop number the cycles of a pace are the same ones, rotated
abbrev pub hop_at : ℕ → Hop
hop_at l = record { link = l; hop_number = 0; from = None }

-- what a link has left in its emptiest phase of `every` while these rows are held: the most that it has left in the cycles of any phase
abbrev pub left_emptiest : Domain → List Row → ℕ → ℕ → ℕ
left_emptiest d rows every l = fold max 0 (each_below (λ phase. left_in_active_cycles d rows (pace_by every phase) (hop_at l) ∷ []) every)

-- the same for all links, by number
abbrev pub lefts_on : Domain → List Row → ℕ → List ℕ
lefts_on d rows every = each_below (λ l. left_emptiest d rows every l ∷ []) (length d.links)

-- ---- how full they are

-- the share of the budget of a hop's link that is held in the cycles of a pace, with what a stream costs in addition
abbrev pub share_at : Domain → List Row → ℕ → Pace → Hop → BudgetShare
share_at d rows cost pace hop = record { held = budget d hop.link - left_in_active_cycles d rows pace hop + cost; budget = budget d hop.link }

-- whether one share is less than another
abbrev pub is_less_full : BudgetShare → BudgetShare → Bool
is_less_full share other = nat_lt (share.held * other.budget) (other.held * share.budget)

-- puts a share among others that are in descending order, after those that are no less
abbrev pub put_down : BudgetShare → List BudgetShare → List BudgetShare
put_down share [] = share ∷ []
put_down share (first ∷ rest) = if is_less_full first share then share ∷ (first ∷ rest) else first ∷ put_down share rest

-- the loads of a tree: how full its hops' links are, in descending order
abbrev pub loads_down : (Hop → BudgetShare) → List Hop → List BudgetShare
loads_down shares tree = fold (λ loads hop. put_down (shares hop) loads) [] tree

-- loads are less than others if the first two that differ are; if none differ, if they are fewer
abbrev pub are_less : List BudgetShare → List BudgetShare → Bool
are_less loads [] = false
are_less [] (other ∷ others) = true
are_less (share ∷ loads) (other ∷ others) = is_less_full share other || (not (is_less_full other share) && are_less loads others)

-- a phase below `every` is the first of those whose loads are the least
pub record IsLeastLoaded (loads : ℕ → List BudgetShare) (every phase : ℕ) : Type 0 where
  pub within : phase < every
  pub least : (other : ℕ) → other < every → are_less (loads other) (loads phase) ≡ false
  pub first : (other : ℕ) → other < phase → are_less (loads phase) (loads other) ≡ true

-- the share of a hop's link with a stream in addition to these rows
abbrev pub shares_with : Domain → List Row → ℕ → ℕ → ℕ → Hop → BudgetShare
shares_with d rows cost every phase hop = share_at d rows cost (pace_by every phase) hop

-- the loads of a tree in a phase
abbrev pub loads_with : Domain → List Row → ℕ → ℕ → List Hop → ℕ → List BudgetShare
loads_with d rows cost every tree phase = loads_down (shares_with d rows cost every phase) tree

-- the phase of a stream along the branches of a tree: the given one, or the first in which the tree's loads are the least
abbrev pub IsPhaseOnTree : Domain → List Row → ℕ → List Branch → ActiveCycles → ℕ → Type 0
IsPhaseOnTree d rows cost paths (Given every phase) first = first ≡ phase
IsPhaseOnTree d rows cost paths (Chosen every) first = IsLeastLoaded (loads_with d rows cost every (tree_of d paths)) every first

-- the same along any branches. If they make no tree, the stream is refused, and the phase is 0
abbrev pub IsChosenBy : Domain → List Row → ℕ → List Branch → ℕ → Option Refused → ℕ → Type 0
IsChosenBy d rows cost paths every None first = IsLeastLoaded (loads_with d rows cost every (tree_of d paths)) every first
IsChosenBy d rows cost paths every (Some refusal) first = first ≡ 0

abbrev pub IsPhaseAlong : Domain → List Row → ℕ → List Branch → ActiveCycles → ℕ → Type 0
IsPhaseAlong d rows cost paths (Given every phase) first = first ≡ phase
IsPhaseAlong d rows cost paths (Chosen every) first = IsChosenBy d rows cost paths every (tree_refusal d paths) first

-- ---- what inner functions need

-- a stream may be offered in one of `every` cycles
pub record IsGoodEvery (every : ℕ) : Type 0 where
  pub some : 1 ≤ every
  pub few : every ≤ most_every
  pub divides : most_every % every ≡ 0

abbrev pub AreGoodActiveCycles : ActiveCycles → Type 0
AreGoodActiveCycles (Given every phase) = is_pace every phase ≡ true
AreGoodActiveCycles (Chosen every) = IsGoodEvery every

-- a stream whose first cycle is to be chosen costs something
abbrev pub CostsSome : ActiveCycles → ℕ → Type 0
CostsSome (Given every phase) cost = ⊤
CostsSome (Chosen every) cost = 1 ≤ cost
