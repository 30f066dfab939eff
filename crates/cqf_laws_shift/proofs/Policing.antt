-- What the policing of a bridge's frames ensures: their order, what each verdict is based on, and what a reservation lets through.
use Rattle.std.proofs.Common.{◌≡◌, ℕ, ◌+◌, ◌<◌, ◌≤◌, ◌∷◌, [], ◌++◌, List, true, inl, inr, sym, ap, ap₂, ◌∙◌, subst, arith, refl, Contains, map, sum_by}
use Rattle.std.proofs.Common.{eqb-true, leb-true, ◌==◌, ◌&&◌, if◌then◌else◌, append_assoc, append-nil, zero-le}
use Rattle.std.proofs.lemmas.Bool.{cases_Bool, cond-true, cond-false, and_parts}
use Rattle.std.proofs.lemmas.List.Sums.{sum_by_push}
use Rattle.cqf_units.specs.Timing.{counted_of}
use Rattle.cqf_model.specs.declared.topology.Row.{Row}
use Rattle.cqf_model.specs.Domain.{Domain, cycle_of}
use Rattle.cqf_model.specs.Run.{Run}
use Rattle.cqf_model.specs.Table.{AreOrderly, goes_on, hop_number_after, reserved_in, table_of}
use Rattle.cqf_model.specs.Paces.{is_active}
use Rattle.cqf_model.proofs.Paces.{reserved_active_cycle, reserved_within}
use Rattle.cqf_model.specs.Policing.{Carried, Received, Policed, Queued, came_by, is_queued_of, police, police_all, received_before, policed_before, within_gate}
use Rattle.cqf_model.proofs.Policing.{IsAfter, after_those_before}
use Rattle.cqf_laws_shift.specs.Edge.{GateIsReservation, octets_before}
use Rattle.cqf_lists.proofs.Members.{contains_map, contains_from_map}
use Rattle.cqf_laws_shift.proofs.Verdicts.{IsQueuedBy, queued_of, queued_says, queued_row, queued_goes_on}

-- a verdict is given on each frame that came, in order
pub received_list : (d : Domain) (tables : List (List Row)) (bridge : ℕ) (earlier : List Policed) (xs : List Received) →
    map (λ (p : Policed). p.received) (police_all d tables bridge earlier xs) ≡ xs
received_list d tables bridge earlier [] = refl
received_list d tables bridge earlier (x ∷ xs) = ap (λ z. x ∷ z) (received_list d tables bridge (earlier ++ police d tables bridge earlier x ∷ []) xs)

-- the octets that a frame takes of a row's reservation in a cycle: those that gates count
abbrev pub taken : Domain → ℕ → ℕ → Policed → ℕ
taken d number cycle p = if is_queued_of number p.verdict && (cycle_of d p.received.at == cycle) then counted_of d.overhead p.received.octets else 0

module _ (reserves : GateIsReservation) (d : Domain) (some : 0 < d.cycle_time) (tables : List (List Row)) (orderly : AreOrderly d tables) (bridge : ℕ) where
  -- what passes by a row in a cycle is within its octets
  one_passes : (cycle : ℕ) (row : Row) (earlier : List Policed) (x : Received) → Contains (table_of tables cycle) row →
      octets_before d row.no cycle earlier ≤ row.octets →
      octets_before d row.no cycle earlier + taken d row.no cycle (police d tables bridge earlier x) ≤ row.octets
  one_passes cycle row earlier x inside so_far =
      elim (cases_Bool (is_queued_of row.no p.verdict && (cycle_of d x.at == cycle))) [
        | inl t ↦ let parts = and_parts (is_queued_of row.no p.verdict) (cycle_of d x.at == cycle) t in
            omega (
              arith,
              cond-true (is_queued_of row.no p.verdict && (cycle_of d x.at == cycle)) (counted_of d.overhead x.octets) 0 t,
              fits parts.0
                  (eqb-true (cycle_of d x.at) cycle parts.1),
            )
        | inr u ↦ omega (arith, cond-false (is_queued_of row.no p.verdict && (cycle_of d x.at == cycle)) (counted_of d.overhead x.octets) 0 u, so_far)
      ]
    where
      p : Policed
      p = police d tables bridge earlier x

      fits : is_queued_of row.no p.verdict ≡ true → cycle_of d x.at ≡ cycle → octets_before d row.no cycle earlier + counted_of d.overhead x.octets ≤ row.octets
      fits of_row in_cycle =
          let q = queued_of row.no p.verdict of_row in
          let c = cycle_of d x.at in
          let says = queued_says d (table_of tables c) bridge c (λ r. within_gate d earlier r x) x.ingress q.0 q.1 in
          let member = queued_row d (table_of tables c) bridge c x.ingress q.0 says.0 in
          let one = orderly.one_stream c cycle q.0 row member inside q.2 in
          let hop_number = hop_number_after q.0 (came_by x.ingress) in
          let bound : octets_before d q.0.no c earlier + counted_of d.overhead x.octets ≤ reserved_in q.0 hop_number c =
          leb-true (octets_before d q.0.no c earlier + counted_of d.overhead x.octets) (reserved_in q.0 hop_number c) (sym (reserves d earlier q.0 x some) ∙ says.1) in
          omega (arith, bound, reserved_within q.0 hop_number c, one.octets, ap₂ (λ a b. octets_before d a b earlier) q.2 in_cycle)

  -- the same for all that arrives
  passes_within : (cycle : ℕ) (row : Row) (earlier : List Policed) (xs : List Received) → Contains (table_of tables cycle) row →
      octets_before d row.no cycle earlier ≤ row.octets →
      octets_before d row.no cycle (earlier ++ police_all d tables bridge earlier xs) ≤ row.octets
  passes_within cycle row earlier [] inside so_far = subst (λ z. octets_before d row.no cycle z ≤ row.octets) (sym (append-nil earlier)) so_far
  passes_within cycle row earlier (x ∷ xs) inside so_far =
      let p = police d tables bridge earlier x in
      let more = earlier ++ p ∷ [] in
      let grown : octets_before d row.no cycle more ≤ row.octets =
      omega (arith, sum_by_push (taken d row.no cycle) earlier p, one_passes cycle row earlier x inside so_far) in
      subst (λ z. octets_before d row.no cycle z ≤ row.octets) (append_assoc earlier (p ∷ []) (police_all d tables bridge more xs))
      (passes_within cycle row more xs inside grown)

-- what passes does so in its stream's turn
active_cycle_of : GateIsReservation → (d : Domain) (tables : List (List Row)) (bridge : ℕ) (xs : List Received) → 0 < d.cycle_time → (p : Policed) (row : Row) →
    Contains (police_all d tables bridge [] xs) p → p.verdict ≡ Queued row → 0 < counted_of d.overhead p.received.octets →
    is_active row.pace (hop_number_after row (came_by p.received.ingress)) (cycle_of d p.received.at) ≡ true
active_cycle_of reserves d tables bridge xs some p row c e positive =
    let b = after_those_before d tables bridge [] xs p c in
    let earlier = [] ++ police_all d tables bridge [] b.before in
    let t = cycle_of d b.x.at in
    let hop_number = hop_number_after row (came_by b.x.ingress) in
    subst (λ (q : Policed). q.verdict ≡ Queued row → 0 < counted_of d.overhead q.received.octets →
    is_active row.pace (hop_number_after row (came_by q.received.ingress)) (cycle_of d q.received.at) ≡ true) (sym b.is)
    (λ e positive.
    let passes = (queued_says d (table_of tables t) bridge t (λ r. within_gate d earlier r b.x) b.x.ingress row e).1 in
    let bound = leb-true (octets_before d row.no t earlier + counted_of d.overhead b.x.octets) (reserved_in row hop_number t) (sym (reserves d earlier row b.x some) ∙ passes) in
    reserved_active_cycle row hop_number t (omega (arith, bound, positive))) e positive

-- the facts about what a bridge polices
pub record Polices (d : Domain) (tables : List (List Row)) (bridge : ℕ) (xs : List Received) (policed : List Policed) : Type 0 where
  pub in_turn : map (λ (p : Policed). p.received) policed ≡ xs
  pub following : (p : Policed) → Contains policed p → IsAfter d tables bridge [] xs p
  pub reserved : (cycle : ℕ) (row : Row) → Contains (table_of tables cycle) row → sum_by (taken d row.no cycle) policed ≤ row.octets
  pub active_cycles : (p : Policed) (row : Row) → Contains policed p → p.verdict ≡ Queued row → 0 < counted_of d.overhead p.received.octets →
      is_active row.pace (hop_number_after row (came_by p.received.ingress)) (cycle_of d p.received.at) ≡ true

-- the facts hold for the verdicts on any frames
pub polices_all : GateIsReservation → (d : Domain) (tables : List (List Row)) (bridge : ℕ) (xs : List Received) → 0 < d.cycle_time → AreOrderly d tables →
    Polices d tables bridge xs (police_all d tables bridge [] xs)
polices_all reserves d tables bridge xs some orderly = record {
  in_turn = received_list d tables bridge [] xs;
  following = after_those_before d tables bridge [] xs;
  reserved = λ cycle row inside. passes_within reserves d some tables orderly bridge cycle row [] xs inside zero-le;
  active_cycles = active_cycle_of reserves d tables bridge xs some;
}

-- so they hold at each bridge
pub polices : GateIsReservation → (run : Run) (carried : Carried) (bridge end : ℕ) → 0 < run.domain.cycle_time → AreOrderly run.domain run.tables →
    Polices run.domain run.tables bridge (received_before run carried bridge end) (policed_before run carried bridge end)
polices reserves run carried bridge end some orderly = polices_all reserves run.domain run.tables bridge (received_before run carried bridge end) some orderly

module _ (d : Domain) (tables : List (List Row)) (bridge : ℕ) (xs : List Received) (policed : List Policed) (facts : Polices d tables bridge xs policed) where
  -- a frame that arrived has a verdict
  pub has_verdict : (x : Received) → Contains xs x → (p : Policed) × Contains policed p × (p.received ≡ x)
  has_verdict x c = contains_from_map (λ (p : Policed). p.received) policed x (subst (λ z. Contains z x) (sym facts.in_turn) c)

  -- a frame that has a verdict arrived
  pub has_come : (p : Policed) → Contains policed p → Contains xs p.received
  has_come p c = subst (λ z. Contains z p.received) facts.in_turn (contains_map (λ (q : Policed). q.received) policed p c)

  -- what the verdict on a frame that goes on is based on
  pub is_queued_by : (p : Policed) (row : Row) → Contains policed p → p.verdict ≡ Queued row →
      IsQueuedBy d (table_of tables (cycle_of d p.received.at)) bridge (cycle_of d p.received.at) p.received.ingress row
  is_queued_by p row c e =
      let b = facts.following p c in
      let earlier = [] ++ police_all d tables bridge [] b.before in
      let t = cycle_of d b.x.at in
      subst (λ (q : Policed). q.verdict ≡ Queued row →
      IsQueuedBy d (table_of tables (cycle_of d q.received.at)) bridge (cycle_of d q.received.at) q.received.ingress row) (sym b.is)
      (λ e. (queued_says d (table_of tables t) bridge t (λ r. within_gate d earlier r b.x) b.x.ingress row e).0) e

  -- the row by which it goes on is of its cycle's table
  pub row_of_queued : (p : Policed) (row : Row) → Contains policed p → p.verdict ≡ Queued row → Contains (table_of tables (cycle_of d p.received.at)) row
  row_of_queued p row c e = queued_row d (table_of tables (cycle_of d p.received.at)) bridge (cycle_of d p.received.at) p.received.ingress row
      (is_queued_by p row c e)

  -- and it leads on from the bridge
  pub leads_on : (p : Policed) (row : Row) → Contains policed p → p.verdict ≡ Queued row → goes_on d row (came_by p.received.ingress) bridge ≡ true
  leads_on p row c e = queued_goes_on d (table_of tables (cycle_of d p.received.at)) bridge (cycle_of d p.received.at) p.received.ingress row
      (is_queued_by p row c e)
