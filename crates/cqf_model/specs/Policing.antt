-- What arrives at a bridge, and what becomes of it there: per-stream filtering and policing at the edge and inside (after IEEE Std
-- 802.1Q-2018, 8.6.5.1).
use Rattle.std.specs.Prelude.{ℕ, ◌+◌, List, [], ◌∷◌, ◌++◌, Bool, false, not, ◌==◌, ◌&&◌, if◌then◌else◌, map, filter, length, Option, Some, None}
use Rattle.std.specs.List.{enumerate_from}
use Rattle.cqf_lists.specs.Lists.{each_below}
use Rattle.cqf_units.specs.Timing.{counted_of, ending_of}
use Rattle.cqf_model.specs.declared.frames.Offer.{Offer}
use Rattle.cqf_model.specs.declared.frames.Offered.{Offered}
use Rattle.cqf_model.specs.declared.frames.Reason.{Reason}
use Rattle.cqf_model.specs.declared.frames.Reason.TheVariants.{Unknown, Withdrawn, OtherBridge, Octets}
use Rattle.cqf_model.specs.declared.frames.Sent.{Sent}
use Rattle.cqf_model.specs.declared.topology.Row.{Row}
use Rattle.cqf_model.specs.Domain.{Domain, cycle_of, octet_time_of, delay_of, enters}
use Rattle.cqf_model.specs.Run.{Run}
use Rattle.cqf_model.specs.Table.{begins_at, goes_on, hop_number_after, is_live, row_named, row_of, table_of}
use Rattle.cqf_model.specs.declared.gates.StreamEntry.{StreamEntry}
use Rattle.cqf_model.specs.StreamGate.{PassedFrame, gate_passes, stream_list}

-- how a frame arrives at a bridge: offered at the edge with the name of the stream that it claims, or relayed by a link with its stream's number
pub data Ingress : Type 0 where
  AtEdge : List ℕ → Ingress
  Relayed : ℕ → ℕ → Ingress

-- a frame that arrives at a bridge: the instant at which it is whole there, its size, its number (its offer's index among the offers, from
-- 1), and how it came
pub record Received : Type 0 where
  pub at : ℕ
  pub octets : ℕ
  pub frame : ℕ
  pub ingress : Ingress

-- the link by which the frame came, none at the edge
abbrev pub came_by : Ingress → Option ℕ
came_by (AtEdge name) = None
came_by (Relayed m number) = Some m

-- what becomes of the frame: it goes on with its stream's row, to each port of this bridge whose hop follows; or its offer is dropped at
-- the edge; or it came by a link and is lost inside, because no row leads on from here or because it exceeds its stream's gate
pub data Verdict : Type 0 where
  Queued : Row → Verdict
  DroppedFor : Reason → Verdict
  LacksRow : Verdict
  ExceedsGate : Verdict

-- a frame that arrived at a bridge, and what becomes of it
pub record Policed : Type 0 where
  pub received : Received
  pub verdict : Verdict

-- the frame goes on with the row of this number
abbrev pub is_queued_of : ℕ → Verdict → Bool
is_queued_of number (Queued row) = row.no == number
is_queued_of number (DroppedFor reason) = false
is_queued_of number LacksRow = false
is_queued_of number ExceedsGate = false

-- the earlier frames that passed a stream's gate: each once, regardless of the number of ports to which it went.
-- A call has the octets that the gate counts of the frame
abbrev pub calls_of : ℕ → ℕ → List Policed → List PassedFrame
calls_of overhead number earlier =
    map (λ (p : Policed). (p.received.at, counted_of overhead p.received.octets)) (filter (λ (p : Policed). is_queued_of number p.verdict) earlier)

-- the gate that a stream's frames meet after a link, or at the edge
abbrev pub gate_list_after : Domain → Row → Option ℕ → List StreamEntry
gate_list_after d row ingress = stream_list d.cycle_time row.octets row.pace (hop_number_after row ingress)

-- whether the stream's gate at this bridge lets a frame pass, after the earlier frames
abbrev pub within_gate : Domain → List Policed → Row → Received → Bool
within_gate d earlier row x =
    gate_passes (gate_list_after d row (came_by x.ingress)) (calls_of d.overhead row.no earlier) x.at (counted_of d.overhead x.octets)

-- the verdict on a frame at the edge, by the row of its name. It is dropped for the first of these reasons that applies: no row has the
-- name, the row isn't live, its tree begins at another bridge, or the frame has more octets than are left
abbrev pub edge_verdict : Domain → ℕ → ℕ → (Row → Bool) → Option Row → Verdict
edge_verdict d bridge cycle passes None = DroppedFor Unknown
edge_verdict d bridge cycle passes (Some row) =
    if not (is_live row cycle) then DroppedFor Withdrawn
    else (if not (begins_at d row bridge) then DroppedFor OtherBridge
    else (if not (passes row) then DroppedFor Octets
    else Queued row))

-- the verdict on a frame that came by a link, by the row of its number: it goes on if a link after that one leaves this bridge and the
-- stream's gate lets it pass
abbrev pub inside_verdict : Domain → ℕ → ℕ → (Row → Bool) → Option Row → Verdict
inside_verdict d bridge m passes None = LacksRow
inside_verdict d bridge m passes (Some row) =
    if not (goes_on d row (Some m) bridge) then LacksRow
    else (if not (passes row) then ExceedsGate
    else Queued row)

-- the verdict on a frame at a bridge, by the table of the frame's cycle there
abbrev pub verdict_by : Domain → List Row → ℕ → ℕ → (Row → Bool) → Ingress → Verdict
verdict_by d table bridge cycle passes (AtEdge name) = edge_verdict d bridge cycle passes (row_named table name)
verdict_by d table bridge cycle passes (Relayed m number) = inside_verdict d bridge m passes (row_of table number)

-- a frame with its verdict, after the earlier frames
abbrev pub police : Domain → List (List Row) → ℕ → List Policed → Received → Policed
police d tables bridge earlier x = let cycle = cycle_of d x.at in
    record { received = x; verdict = verdict_by d (table_of tables cycle) bridge cycle (λ row. within_gate d earlier row x) x.ingress }

-- the frames one after the other, each with its verdict after those before it
abbrev pub police_all : Domain → List (List Row) → ℕ → List Policed → List Received → List Policed
police_all d tables bridge earlier [] = []
police_all d tables bridge earlier (x ∷ xs) =
    police d tables bridge earlier x ∷ police_all d tables bridge (earlier ++ police d tables bridge earlier x ∷ []) xs

-- the offers in order, each with its number, from 1
abbrev pub numbered : List Offer → List Offered
numbered offers = map (λ (x : ℕ × Offer). record { frame = x.0; offer = x.1 }) (enumerate_from 1 offers)

-- an offer as a frame that arrives at its bridge
abbrev pub offer_received : Offered → Received
offer_received x = record { at = x.offer.at.0; octets = x.offer.octets; frame = x.frame; ingress = AtEdge x.offer.stream }

-- whether an offer is at the bridge and the instant
abbrev pub is_offered_at : ℕ → ℕ → Offered → Bool
is_offered_at bridge t x = (x.offer.bridge == bridge) && (x.offer.at.0 == t)

-- the frames that are offered at a bridge at an instant, in order of number
abbrev pub offered_at : List Offer → ℕ → ℕ → List Received
offered_at offers bridge t = map offer_received (filter (is_offered_at bridge t) (numbered offers))

-- the streams' frames that each link carries, in order of start. Background frames arrive at no bridge
abbrev pub Carried : Type 0
Carried = ℕ → List Sent

-- the instant at which a frame that a link sent is whole in the next node: its last octet has arrived, after the link's delay
abbrev pub whole_at : Domain → ℕ → Sent → ℕ
whole_at d m sent = ending_of sent.start.0 sent.octets (octet_time_of d m) + delay_of d m

-- a frame that a link sent, as it arrives at the next node
abbrev pub sent_received : Domain → ℕ → Sent → Received
sent_received d m sent = record { at = whole_at d m sent; octets = sent.octets; frame = sent.frame; ingress = Relayed m sent.stream }

-- the frames that come by a link and are whole in the bridge at an instant
abbrev pub relayed_at : Domain → Carried → ℕ → ℕ → ℕ → List Received
relayed_at d carried bridge t m =
    if enters d m bridge
    then map (sent_received d m) (filter (λ (sent : Sent). whole_at d m sent == t) (carried m))
    else []

-- all that arrives at a bridge at an instant: by the links in order of number, then the offers in order of number
abbrev pub received_at : Run → Carried → ℕ → ℕ → List Received
received_at run carried bridge t =
    each_below (relayed_at run.domain carried bridge t) (length run.domain.links) ++ offered_at run.offers bridge t

-- all that arrives at a bridge before an instant, in the order in which the bridge takes it
abbrev pub received_before : Run → Carried → ℕ → ℕ → List Received
received_before run carried bridge end = each_below (received_at run carried bridge) end

-- all that arrives at a bridge before an instant, with the verdicts of the bridge's stream gates
abbrev pub policed_before : Run → Carried → ℕ → ℕ → List Policed
policed_before run carried bridge end = police_all run.domain run.tables bridge [] (received_before run carried bridge end)
