-- Each frame that arrived at a bridge has the verdict that is due after the frames before it.
use Rattle.std.proofs.Common.{◌≡◌, ℕ, true, List, refl, inl, inr, subst}
use Rattle.std.specs.Prelude.{[], ◌∷◌, ◌++◌, Contains, Some}
use Rattle.cqf_lists.proofs.Members.{contains_cases, contains_none}
use Rattle.cqf_model.specs.declared.topology.Row.{Row}
use Rattle.cqf_model.specs.Domain.{Domain, cycle_of}
use Rattle.cqf_model.specs.Network.{IsLoss}
use Rattle.cqf_model.specs.Table.{goes_on, row_of, table_of}
use Rattle.cqf_model.specs.Policing.{AtEdge, DroppedFor, ExceedsGate, Ingress, LacksRow, Policed, Queued, Received, Relayed, Verdict, came_by, police, police_all}
use Rattle.cqf_model.specs.Policing.{verdict_by, within_gate}
use Rattle.cqf_laws_history.specs.TrafficLaws.{VerdictsHaveTheirReason, VerdictsInsideHaveTheirReason}

module _ (d : Domain) (tables : List (List Row)) (bridge : ℕ) where
  -- the verdict on a frame by its way, after these policed frames
  abbrev pub verdict_on : List Policed → Received → Ingress → Verdict
  verdict_on before x ingress = verdict_by d (table_of tables (cycle_of d x.at)) bridge (cycle_of d x.at) (λ (row : Row). within_gate d before row x) ingress

  -- each frame of a list has its verdict after some others
  pub judged : (xs : List Received) (earlier : List Policed) (p : Policed) → Contains (police_all d tables bridge earlier xs) p → (before : List Policed) ×
      (p.verdict ≡ verdict_on before p.received p.received.ingress)
  judged [] earlier p h = absurd (contains_none p h)
  judged (x ∷ xs) earlier p h =
      let q = police d tables bridge earlier x in
      elim (contains_cases q (police_all d tables bridge (earlier ++ q ∷ []) xs) p h) [
        | inl e ↦ (earlier, subst (λ (y : Policed). y.verdict ≡ verdict_on earlier y.received y.received.ingress) e refl)
        | inr k ↦ judged xs (earlier ++ q ∷ []) p k
      ]

  -- a frame that goes on leaves the bridge, regardless of its way
  pub queued_leaves : VerdictsHaveTheirReason → VerdictsInsideHaveTheirReason → (before : List Policed) (x : Received) (ingress : Ingress) (row : Row) →
      verdict_on before x ingress ≡ Queued row → goes_on d row (came_by ingress) bridge ≡ true
  queued_leaves edge inside before x (AtEdge name) row e =
      ((edge d (table_of tables (cycle_of d x.at)) bridge (cycle_of d x.at) (λ (r : Row). within_gate d before r x) name (Queued row)).0 e).1
  queued_leaves edge inside before x (Relayed m number) row e =
      ((inside d (table_of tables (cycle_of d x.at)) bridge (cycle_of d x.at) m number (λ (r : Row). within_gate d before r x) (Queued row)).0 e).1

  -- a frame that came by a link goes on or is lost
  pub queued_or_lost : VerdictsInsideHaveTheirReason → (before : List Policed) (x : Received) (m number : ℕ) (verdict : Verdict) →
      verdict_on before x (Relayed m number) ≡ verdict → ¬ IsLoss verdict → (row : Row) × (row_of (table_of tables (cycle_of d x.at)) number ≡ Some row) ×
      (verdict ≡ Queued row)
  queued_or_lost inside before x m number (Queued row) e kept =
      (row, ((inside d (table_of tables (cycle_of d x.at)) bridge (cycle_of d x.at) m number (λ (r : Row). within_gate d before r x) (Queued row)).0 e).0, refl)
  queued_or_lost inside before x m number (DroppedFor reason) e kept =
      absurd ((inside d (table_of tables (cycle_of d x.at)) bridge (cycle_of d x.at) m number (λ (r : Row). within_gate d before r x) (DroppedFor reason)).0 e)
  queued_or_lost inside before x m number LacksRow e kept = absurd (kept tt)
  queued_or_lost inside before x m number ExceedsGate e kept = absurd (kept tt)
