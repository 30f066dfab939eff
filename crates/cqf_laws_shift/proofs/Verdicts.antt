-- What a verdict implies about the frame and its row.
use Rattle.std.proofs.Common.{◌≡◌, ℕ, List, Bool, true, false, not, Option, Some, None, sym, ap, ◌∙◌, refl, Contains, if◌then◌else◌, ◌==◌, eqb-true}
use Rattle.cqf_model.specs.declared.frames.Reason.TheVariants.{Withdrawn, OtherBridge, Octets}
use Rattle.cqf_model.specs.declared.topology.Row.{Row}
use Rattle.cqf_model.specs.Domain.{Domain, is_text}
use Rattle.cqf_model.specs.Network.{IsLoss}
use Rattle.cqf_model.specs.Table.{begins_at, goes_on, is_live, row_named, row_of}
use Rattle.cqf_model.specs.Policing.{Ingress, AtEdge, Relayed, Verdict, Queued, DroppedFor, LacksRow, ExceedsGate, came_by, edge_verdict, inside_verdict}
use Rattle.cqf_model.specs.Policing.{is_queued_of, verdict_by}
use Rattle.cqf_lists.proofs.Members.{find_member}

-- a frame that goes on from the edge: its stream's row is live, and its tree begins at this bridge
pub record QueuedAtEdge (d : Domain) (bridge cycle : ℕ) (found : Option Row) (row : Row) : Type 0 where
  pub is : found ≡ Some row
  pub live : is_live row cycle ≡ true
  pub here : begins_at d row bridge ≡ true

-- the verdict at the edge by its three tests
edge_choice : (r row : Row) (live here fits : Bool) →
    (if not live then DroppedFor Withdrawn else (if not here then DroppedFor OtherBridge else (if not fits then DroppedFor Octets else Queued r)))
    ≡ Queued row → (live ≡ true) × (here ≡ true) × (fits ≡ true) × (r ≡ row)
edge_choice r row true true true e = (refl, refl, refl, cc)
edge_choice r row true true false e = absurd (cc)
edge_choice r row true false fits e = absurd (cc)
edge_choice r row false here fits e = absurd (cc)

-- if the verdict at the edge lets the frame go on, this holds
pub edge_queued : (d : Domain) (bridge cycle : ℕ) (fits : Row → Bool) (found : Option Row) (row : Row) → edge_verdict d bridge cycle fits found ≡ Queued row →
    QueuedAtEdge d bridge cycle found row × (fits row ≡ true)
edge_queued d bridge cycle fits None row e = absurd (cc)
edge_queued d bridge cycle fits (Some r) row e =
    let c = edge_choice r row (is_live r cycle) (begins_at d r bridge) (fits r) e in (
      record { is = ap Some c.3; live = ap (λ (z : Row). is_live z cycle) (sym c.3) ∙ c.0; here = ap (λ (z : Row). begins_at d z bridge) (sym c.3) ∙ c.1 },
      ap fits (sym c.3) ∙ c.2,
    )

-- and if there is such a row, and the test lets the frame pass, the frame goes on
edge_chosen : (row : Row) (live here fits : Bool) → live ≡ true → here ≡ true → fits ≡ true →
    (if not live then DroppedFor Withdrawn else (if not here then DroppedFor OtherBridge else (if not fits then DroppedFor Octets else Queued row)))
    ≡ Queued row
edge_chosen row true true true a b c = refl
edge_chosen row true true false a b c = absurd (cc)
edge_chosen row true false fits a b c = absurd (cc)
edge_chosen row false here fits a b c = absurd (cc)

-- the same for the verdict
pub edge_passes : (d : Domain) (bridge cycle : ℕ) (fits : Row → Bool) (found : Option Row) (row : Row) → QueuedAtEdge d bridge cycle found row →
    fits row ≡ true → edge_verdict d bridge cycle fits found ≡ Queued row
edge_passes d bridge cycle fits found row q passes =
    ap (edge_verdict d bridge cycle fits) q.is ∙ edge_chosen row (is_live row cycle) (begins_at d row bridge) (fits row) q.live q.here passes

-- a frame that came by a link and goes on: its stream's row leads on from this bridge
pub record QueuedInside (d : Domain) (bridge m : ℕ) (found : Option Row) (row : Row) : Type 0 where
  pub is : found ≡ Some row
  pub here : goes_on d row (Some m) bridge ≡ true

-- the two losses, by the two tests
inside_choice : (r row : Row) (here fits : Bool) → (if not here then LacksRow else (if not fits then ExceedsGate else Queued r)) ≡ Queued row → (here ≡ true) ×
    (fits ≡ true) × (r ≡ row)
inside_choice r row true true e = (refl, refl, cc)
inside_choice r row true false e = absurd (cc)
inside_choice r row false fits e = absurd (cc)

-- if the verdict inside lets the frame go on, this holds
pub inside_queued : (d : Domain) (bridge m : ℕ) (fits : Row → Bool) (found : Option Row) (row : Row) → inside_verdict d bridge m fits found ≡ Queued row →
    QueuedInside d bridge m found row × (fits row ≡ true)
inside_queued d bridge m fits None row e = absurd (cc)
inside_queued d bridge m fits (Some r) row e =
    let c = inside_choice r row (goes_on d r (Some m) bridge) (fits r) e in (
      record { is = ap Some c.2; here = ap (λ (z : Row). goes_on d z (Some m) bridge) (sym c.2) ∙ c.0 },
      ap fits (sym c.2) ∙ c.1,
    )

-- the two tests passed
inside_chosen : (row : Row) (here fits : Bool) → here ≡ true → fits ≡ true →
    (if not here then LacksRow else (if not fits then ExceedsGate else Queued row)) ≡ Queued row
inside_chosen row true true a b = refl
inside_chosen row true false a b = absurd (cc)
inside_chosen row false fits a b = absurd (cc)

-- and if there is such a row, and the test lets the frame pass, the frame goes on
pub inside_passes : (d : Domain) (bridge m : ℕ) (fits : Row → Bool) (found : Option Row) (row : Row) → QueuedInside d bridge m found row → fits row ≡ true →
    inside_verdict d bridge m fits found ≡ Queued row
inside_passes d bridge m fits found row q passes =
    ap (inside_verdict d bridge m fits) q.is ∙ inside_chosen row (goes_on d row (Some m) bridge) (fits row) q.here passes

-- what the verdict on a frame is based on, by the frame's ingress
abbrev pub IsQueuedBy : Domain → List Row → ℕ → ℕ → Ingress → Row → Type 0
IsQueuedBy d table bridge cycle (AtEdge name) row = QueuedAtEdge d bridge cycle (row_named table name) row
IsQueuedBy d table bridge cycle (Relayed m number) row = QueuedInside d bridge m (row_of table number) row

-- this holds for each verdict that lets a frame go on
pub queued_says : (d : Domain) (table : List Row) (bridge cycle : ℕ) (fits : Row → Bool) (ingress : Ingress) (row : Row) →
    verdict_by d table bridge cycle fits ingress ≡ Queued row → IsQueuedBy d table bridge cycle ingress row × (fits row ≡ true)
queued_says d table bridge cycle fits (AtEdge name) row e = edge_queued d bridge cycle fits (row_named table name) row e
queued_says d table bridge cycle fits (Relayed m number) row e = inside_queued d bridge m fits (row_of table number) row e

-- a row that a verdict found is a row of the table
pub queued_row : (d : Domain) (table : List Row) (bridge cycle : ℕ) (ingress : Ingress) (row : Row) → IsQueuedBy d table bridge cycle ingress row → Contains table row
queued_row d table bridge cycle (AtEdge name) row q = (find_member (λ (r : Row). is_text r.name name) table row q.is).0
queued_row d table bridge cycle (Relayed m number) row q = (find_member (λ (r : Row). r.no == number) table row q.is).0

-- and if the frame came by a link, it has the number of the frame's stream
pub queued_number : (d : Domain) (table : List Row) (bridge cycle m number : ℕ) (row : Row) → IsQueuedBy d table bridge cycle (Relayed m number) row →
    row.no ≡ number
queued_number d table bridge cycle m number row q = eqb-true row.no number (find_member (λ (r : Row). r.no == number) table row q.is).1

-- the stream goes on from this bridge after the frame's ingress
pub queued_goes_on : (d : Domain) (table : List Row) (bridge cycle : ℕ) (ingress : Ingress) (row : Row) → IsQueuedBy d table bridge cycle ingress row →
    goes_on d row (came_by ingress) bridge ≡ true
queued_goes_on d table bridge cycle (AtEdge name) row q = q.here
queued_goes_on d table bridge cycle (Relayed m number) row q = q.here

-- the row by which a frame goes on
pub queued_of : (number : ℕ) (v : Verdict) → is_queued_of number v ≡ true → (row : Row) × (v ≡ Queued row) × (row.no ≡ number)
queued_of number (Queued row) e = (row, refl, eqb-true row.no number e)
queued_of number (DroppedFor reason) e = absurd (cc)
queued_of number LacksRow e = absurd (cc)
queued_of number ExceedsGate e = absurd (cc)

-- a verdict at the edge is no loss
pub edge_no_loss : (d : Domain) (bridge cycle : ℕ) (fits : Row → Bool) (found : Option Row) → IsLoss (edge_verdict d bridge cycle fits found) → ⊥
edge_no_loss d bridge cycle fits None lost = lost
edge_no_loss d bridge cycle fits (Some row) lost = choice (is_live row cycle) (begins_at d row bridge) (fits row) lost
  where
    -- no verdict of the edge by a row is a loss
    choice : (live here fits : Bool) →
        IsLoss
        (if not live then DroppedFor Withdrawn else (if not here then DroppedFor OtherBridge else (if not fits then DroppedFor Octets else Queued row))) → ⊥
    choice true true true lost = lost
    choice true true false lost = lost
    choice true false fits lost = lost
    choice false here fits lost = lost

-- nor is one by which a frame goes on
pub queued_no_loss : (v : Verdict) (row : Row) → v ≡ Queued row → IsLoss v → ⊥
queued_no_loss (Queued r) row e lost = lost
queued_no_loss (DroppedFor reason) row e lost = lost
queued_no_loss LacksRow row e lost = cc
queued_no_loss ExceedsGate row e lost = cc
