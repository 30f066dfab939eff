-- Laws about what happens to a frame at a bridge, in a planner's words.
use Rattle.std.specs.Prelude.{ℕ, Bool, true, false, ◌≡◌, ◌≢◌, ◌↔◌, List, [], ◌∷◌, Contains, Option, Some, None}
use Rattle.cqf_model.specs.declared.frames.Reason.TheVariants.{Unknown, Withdrawn, OtherBridge, Octets}
use Rattle.cqf_model.specs.declared.topology.Row.{Row}
use Rattle.cqf_model.specs.Domain.{Domain, cycle_of}
use Rattle.cqf_model.specs.Network.{IsLoss, queued_frame, queued_to}
use Rattle.cqf_model.specs.Run.{Run}
use Rattle.cqf_model.specs.Table.{begins_at, goes_on, goes_to, is_live, row_named, row_of, table_of}
use Rattle.cqf_model.specs.Policing.{AtEdge, Carried, DroppedFor, ExceedsGate, LacksRow, Policed, Queued, Received, Relayed, Verdict, came_by, policed_before}
use Rattle.cqf_model.specs.Policing.{verdict_by}

-- the row of a name exists and is live in the cycle
pub record HasLiveRow (named : Option Row) (cycle : ℕ) (row : Row) : Type 0 where
  pub is : named ≡ Some row
  pub live : is_live row cycle ≡ true

-- which verdict is due at the edge, by the row of the frame's name: dropped as unknown if no row has the name; as withdrawn if the
-- row's stream isn't live; as of another bridge if its tree doesn't begin at this bridge; for its octets if they don't pass. If
-- none of these holds, the frame goes on with that row. No other verdict is due
abbrev pub IsDueAtEdge : Domain → ℕ → ℕ → (Row → Bool) → Option Row → Verdict → Type 0
IsDueAtEdge d bridge cycle passes named (DroppedFor Unknown) = named ≡ None
IsDueAtEdge d bridge cycle passes named (DroppedFor Withdrawn) = (row : Row) × (named ≡ Some row) × (is_live row cycle ≡ false)
IsDueAtEdge d bridge cycle passes named (DroppedFor OtherBridge) = (row : Row) × HasLiveRow named cycle row × (begins_at d row bridge ≡ false)
IsDueAtEdge d bridge cycle passes named (DroppedFor Octets) =
    (row : Row) × HasLiveRow named cycle row × (begins_at d row bridge ≡ true) × (passes row ≡ false)
IsDueAtEdge d bridge cycle passes named (Queued row) = HasLiveRow named cycle row × (begins_at d row bridge ≡ true) × (passes row ≡ true)
IsDueAtEdge d bridge cycle passes named LacksRow = ⊥
IsDueAtEdge d bridge cycle passes named ExceedsGate = ⊥

-- an offer gets exactly the verdict that is due
abbrev pub VerdictsHaveTheirReason : Type 0
VerdictsHaveTheirReason =
    (d : Domain) (table : List Row) (bridge cycle : ℕ) (passes : Row → Bool) (name : List ℕ) (verdict : Verdict) →
    (verdict_by d table bridge cycle passes (AtEdge name) ≡ verdict ↔ IsDueAtEdge d bridge cycle passes (row_named table name) verdict)

-- which verdict is due for a frame that came by a link, by the row of its stream's number: it lacks a row if no row has the number,
-- or if the row's tree doesn't go on from this bridge after the link; it exceeds its gate if it doesn't pass; else it goes on with
-- that row. No other verdict is due
abbrev pub IsDueInside : Domain → ℕ → ℕ → (Row → Bool) → Option Row → Verdict → Type 0
IsDueInside d bridge m passes found LacksRow = (row : Row) → found ≡ Some row → goes_on d row (Some m) bridge ≡ false
IsDueInside d bridge m passes found ExceedsGate =
    (row : Row) × (found ≡ Some row) × (goes_on d row (Some m) bridge ≡ true) × (passes row ≡ false)
IsDueInside d bridge m passes found (Queued row) = (found ≡ Some row) × (goes_on d row (Some m) bridge ≡ true) × (passes row ≡ true)
IsDueInside d bridge m passes found (DroppedFor reason) = ⊥

-- a frame that came by a link gets exactly the verdict that is due
abbrev pub VerdictsInsideHaveTheirReason : Type 0
VerdictsInsideHaveTheirReason =
    (d : Domain) (table : List Row) (bridge cycle m number : ℕ) (passes : Row → Bool) (verdict : Verdict) →
    (verdict_by d table bridge cycle passes (Relayed m number) ≡ verdict ↔ IsDueInside d bridge m passes (row_of table number) verdict)

-- a frame goes on from a bridge only if its stream's tree leaves that bridge after the link by which the frame came, or at the edge
abbrev pub QueuedFramesLeaveTheirBridge : Type 0
QueuedFramesLeaveTheirBridge =
    (run : Run) (carried : Carried) (bridge end : ℕ) (p : Policed) (row : Row) → Contains (policed_before run carried bridge end) p →
    p.verdict ≡ Queued row → goes_on run.domain row (came_by p.received.ingress) bridge ≡ true

-- a frame that goes on with a row is queued, once, at each port whose link the row's stream takes next
abbrev pub FramesGoToEachPort : Type 0
FramesGoToEachPort =
    (d : Domain) (received : Received) (row : Row) (l : ℕ) → Contains (goes_to row (came_by received.ingress)) l →
    queued_to d l (record { received = received; verdict = Queued row } ∷ []) ≡ queued_frame d received row ∷ []

-- a frame that goes on with a row is queued at no port whose link the row's stream doesn't take next
abbrev pub FramesGoToNoOtherPort : Type 0
FramesGoToNoOtherPort =
    (d : Domain) (received : Received) (row : Row) (l : ℕ) → ¬ Contains (goes_to row (came_by received.ingress)) l →
    queued_to d l (record { received = received; verdict = Queued row } ∷ []) ≡ []

-- a frame that doesn't go on is queued nowhere
abbrev pub OtherFramesGoNowhere : Type 0
OtherFramesGoNowhere =
    (d : Domain) (p : Policed) (l : ℕ) → ((row : Row) → p.verdict ≢ Queued row) → queued_to d l (p ∷ []) ≡ []

-- a frame that came by a link and isn't lost goes on with the row of its stream's number in the table of the cycle
abbrev pub RelayedFramesAreQueuedOrLost : Type 0
RelayedFramesAreQueuedOrLost =
    (run : Run) (carried : Carried) (bridge end : ℕ) (p : Policed) (m number : ℕ) → Contains (policed_before run carried bridge end) p →
    p.received.ingress ≡ Relayed m number → ¬ IsLoss p.verdict →
    (row : Row) × (row_of (table_of run.tables (cycle_of run.domain p.received.at)) number ≡ Some row) × (p.verdict ≡ Queued row)
