-- The verdicts on the offers of a cycle at a bridge.
use Rattle.std.specs.Prelude.{ℕ, ◌≡◌, ◌+◌, ◌*◌, ◌-◌, ◌≤◌, ◌<◌, ◌++◌, ◌==◌, if◌then◌else◌, not, nat_le, List, [], ◌∷◌, Bool, true, false, Option, Some, None}
use Rattle.std.specs.Prelude.{filter, map, slice_index_or, sum_by}
use Rattle.std.specs.List.Sorted.{IsNonDecreasingBy, IsPermutation}
use Rattle.cqf_units.specs.Timing.{counted_of}
use Rattle.cqf_model.specs.declared.frames.Dropped.{Dropped}
use Rattle.cqf_model.specs.declared.frames.Offered.{Offered}
use Rattle.cqf_model.specs.declared.frames.Reason.{Reason}
use Rattle.cqf_model.specs.declared.frames.Reason.TheVariants.{Withdrawn, OtherBridge, Octets}
use Rattle.cqf_model.specs.declared.topology.Row.{Row}
use Rattle.cqf_model.specs.Book.{drop_by}
use Rattle.cqf_model.specs.Domain.{Domain}
use Rattle.cqf_model.specs.Table.{begins_at, is_live, reserved_in, row_named}
use Rattle.cqf_model.specs.Policing.{DroppedFor, ExceedsGate, LacksRow, Queued, Received, Verdict, edge_verdict, offer_received}
use Rattle.cqf_relay.specs.declared.edge.Edge.{Edge}
use Rattle.cqf_relay.specs.declared.edge.Used.{Used}
use Rattle.cqf_relay.specs.declared.log.ArrivedFrame.{ArrivedFrame}

-- the offer is of the cycle
pub record IsOfCycle (d : Domain) (cycle : ℕ) (x : Offered) : Type 0 where
  pub begun : cycle * d.cycle_time ≤ x.offer.at.0
  pub early : x.offer.at.0 < (cycle + 1) * d.cycle_time

-- a frame that arrived at a bridge, with the row by which it goes on
pub record Going : Type 0 where
  pub received : Received
  pub row : Row

-- the octets of a row that the covered offers before used, as gates with this overhead count them
abbrev pub octets_of : ℕ → List Going → ℕ → ℕ
octets_of overhead earlier number = sum_by (λ (g : Going). counted_of overhead g.received.octets) (filter (λ (g : Going). g.row.no == number) earlier)

-- the verdict on an offer of a cycle, given the octets of each row used before: the first reason that applies, if any
abbrev pub verdict_with : Domain → ℕ → ℕ → List Row → (ℕ → ℕ) → Offered → Verdict
verdict_with d bridge cycle table used x = edge_verdict d bridge cycle
    (λ (row : Row). nat_le (used row.no + counted_of d.overhead x.offer.octets) (reserved_in row 0 cycle))
    (row_named table x.offer.stream)

-- the offer with the row that covers it, if one does
abbrev pub going_by : Offered → Verdict → List Going
going_by x (Queued row) = record { received = offer_received x; row = row } ∷ []
going_by x (DroppedFor reason) = []
going_by x LacksRow = []
going_by x ExceedsGate = []

-- the covered ones of a cycle's offers at a bridge, after the earlier ones
abbrev pub covered_after : Domain → ℕ → ℕ → List Row → List Going → List Offered → List Going
covered_after d bridge cycle table earlier [] = []
covered_after d bridge cycle table earlier (x ∷ xs) = let goings = going_by x (verdict_with d bridge cycle table (octets_of d.overhead earlier) x) in
    goings ++ covered_after d bridge cycle table (earlier ++ goings) xs

-- the drops of a cycle's other offers at a bridge, after the earlier ones
abbrev pub dropped_after : Domain → ℕ → ℕ → List Row → List Going → List Offered → List Dropped
dropped_after d bridge cycle table earlier [] = []
dropped_after d bridge cycle table earlier (x ∷ xs) = let verdict = verdict_with d bridge cycle table (octets_of d.overhead earlier) x in
    drop_by cycle bridge (offer_received x) verdict ++ dropped_after d bridge cycle table (earlier ++ going_by x verdict) xs

-- the arrival in a cycle of a frame that goes on by a row
abbrev pub came_of_going : Domain → ℕ → Going → ArrivedFrame
came_of_going d cycle g =
    record { cycle = cycle; at = g.received.at - cycle * d.cycle_time; frame = g.received.frame; row = g.row.no; octets = g.received.octets }

-- the arrival in a cycle of an offer, with the number of its row
abbrev pub came_offered : Domain → ℕ → Offered → ℕ → ArrivedFrame
came_offered d cycle x number =
    record { cycle = cycle; at = x.offer.at.0 - cycle * d.cycle_time; frame = x.frame; row = number; octets = x.offer.octets }

-- the octets used of a row in a cycle, by the counters
abbrev pub used_in : ℕ → Used → ℕ
used_in cycle used = if used.cycle == cycle then used.octets else 0

abbrev pub used_at : List Used → ℕ → ℕ → ℕ
used_at used cycle number = used_in cycle (slice_index_or used number (record { cycle = 0; octets = 0 }))

-- nothing is counted for cycle `next` or later ones
abbrev pub CountsUpto : ℕ → List Used → Type 0
CountsUpto next used = (number cycle : ℕ) → next ≤ cycle → used_at used cycle number ≡ 0

-- the octets added to row k if they are used of row `number`
abbrev pub more_of : ℕ → ℕ → ℕ → ℕ
more_of number octets k = if number == k then octets else 0

-- octets of a row are counted in a cycle; the other rows' counts stay, and nothing is counted for later cycles
pub record IsCounted (number cycle octets : ℕ) (before after : List Used) : Type 0 where
  pub more : (k : ℕ) → used_at after cycle k ≡ used_at before cycle k + more_of number octets k
  pub later : CountsUpto (cycle + 1) before → CountsUpto (cycle + 1) after

-- octets are counted if and only if at most `most` are used with them
pub record Counts (number cycle octets most : ℕ) (before after : List Used) (result : Bool) : Type 0 where
  pub fits : result ≡ nat_le (used_at before cycle number + octets) most
  pub counted : result ≡ true → IsCounted number cycle octets before after
  pub not_counted : result ≡ false → IsCounted number cycle 0 before after

-- the first reason against an offer of a row; the octets that are counted, none if there is a reason; and both as the result of a call
abbrev pub reason_against : Domain → ℕ → Row → ℕ → ℕ → ℕ → Option Reason
reason_against d bridge row cycle used octets =
    if not (is_live row cycle) then Some Withdrawn
    else (if not (begins_at d row bridge) then Some OtherBridge
    else (if not (nat_le (used + octets) (reserved_in row 0 cycle)) then Some Octets
    else None))

abbrev pub taken_by : Option Reason → ℕ → ℕ
taken_by None octets = octets
taken_by (Some reason) octets = 0

pub record JudgesRow (d : Domain) (bridge : ℕ) (row : Row) (cycle octets : ℕ) (before after : List Used) (result : Option Reason) : Type 0 where
  pub reason : result ≡ reason_against d bridge row cycle (used_at before cycle row.no) octets
  pub counted : IsCounted row.no cycle (taken_by result octets) before after

-- what stays at the edge while offers are judged
pub record IsSameEdge (before after : Edge) : Type 0 where
  pub number : after.number ≡ before.number
  pub drops : after.drops ≡ before.drops

-- an offer is dropped for a reason
pub record DropsOf (cycle : ℕ) (x : Offered) (reason : Reason) (before after : Edge) : Type 0 where
  pub same : IsSameEdge before after
  pub used : after.used ≡ before.used
  pub log : after.log ≡ before.log
  pub fresh : after.fresh.items ≡ before.fresh.items ++ drop_by cycle before.number (offer_received x) (DroppedFor reason)

-- an offer is kept if a row covers it, and else dropped, by the octets used before
pub record JudgesOne (d : Domain) (cycle : ℕ) (table : List Row) (x : Offered) (before after : Edge) : Type 0 where
  pub same : IsSameEdge before after
  pub verdict : Verdict
  pub is_verdict : verdict ≡ verdict_with d before.number cycle table (used_at before.used.items cycle) x
  pub kept : after.log.frames.items ≡ before.log.frames.items ++ map (came_of_going d cycle) (going_by x verdict)
  pub fresh : after.fresh.items ≡ before.fresh.items ++ drop_by cycle before.number (offer_received x) verdict
  pub used : (k : ℕ) → used_at after.used.items cycle k ≡ used_at before.used.items cycle k + octets_of d.overhead (going_by x verdict) k
  pub later : CountsUpto (cycle + 1) before.used.items → CountsUpto (cycle + 1) after.used.items

-- the offers of a cycle are judged one after the other: the covered ones are kept, and the others dropped, by frame
pub record TakesOffers (d : Domain) (cycle : ℕ) (table : List Row) (offers : List Offered) (before after : Edge) : Type 0 where
  pub number : after.number ≡ before.number
  pub kept : CountsUpto cycle before.used.items →
      after.log.frames.items ≡ before.log.frames.items ++ map (came_of_going d cycle) (covered_after d before.number cycle table [] offers)
  pub fresh : List Dropped
  pub following : after.drops.items ≡ before.drops.items ++ fresh
  pub are_drops : CountsUpto cycle before.used.items → IsPermutation (dropped_after d before.number cycle table [] offers) fresh
  pub by_frame : IsNonDecreasingBy (λ (dropped : Dropped). dropped.frame) fresh
  pub later : CountsUpto cycle before.used.items → CountsUpto (cycle + 1) after.used.items
