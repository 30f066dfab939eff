-- What is queued to a port: where it comes from, its order and classes, and how much it is in a cycle.
use Rattle.std.proofs.Common.{◌≡◌, ℕ, ◌+◌, ◌/◌, ◌%◌, ◌<◌, ◌≤◌, ◌⊎◌, ◌∷◌, [], List, Bool, true, false, Option, inl, inr, sym, ap, ◌∙◌, subst, arith, refl, All}
use Rattle.std.proofs.Common.{AllPairs, Contains, sum_by, eq-eqb, eqb-true, ◌==◌, ◌&&◌, if◌then◌else◌, le_trans, le_of_eq, zero-add}
use Rattle.std.specs.List.{list_any}
use Rattle.std.proofs.lemmas.Bool.{cases_Bool, cond-true, cond-false, and_from}
use Rattle.cqf_units.specs.Timing.{counted_of, cost_of, wire_of}
use Rattle.cqf_model.specs.declared.ports.Arrival.{Arrival}
use Rattle.cqf_model.specs.declared.topology.Hop.{Hop}
use Rattle.cqf_model.specs.declared.topology.Row.{Row}
use Rattle.cqf_model.specs.Domain.{Domain, cycle_of}
use Rattle.cqf_model.specs.Table.{IsTree, crosses, hop_number_after, goes_to, table_of, link_cost, uses}
use Rattle.cqf_model.specs.Paces.{is_active}
use Rattle.std.proofs.lemmas.List.Elements.{All-contains}
use Rattle.cqf_model.specs.Policing.{Received, Policed, Verdict, Queued, DroppedFor, LacksRow, ExceedsGate, came_by, is_queued_of}
use Rattle.cqf_model.specs.Network.{QueuedFrame, queued_frame, queued_by, queued_to, arrivals_of}
use Rattle.cqf_model.specs.Due.{is_streams, load, wire_in}
use Rattle.cqf_laws_cycle.specs.Compiled.{GateGivesClass, given_class}
use Rattle.cqf_lists.proofs.Members.{any_member, member_any, contains_map, contains_flat, contains_from_flat, contains_none, contains_here, contains_cases}
use Rattle.cqf_lists.proofs.Pairs.{pairs_from_map, pairs_none, pairs_one}
use Rattle.cqf_lists.proofs.Made.{pairs_of_flat}
use Rattle.cqf_lists.proofs.Sums.{sum_map, sum_flat, sum_none, sum_le_members, sum_grouped}
use Rattle.cqf_laws_shift.proofs.Costs.{tested_wire_within_cost}
use Rattle.cqf_laws_shift.proofs.Policing.{Polices, row_of_queued}
use Rattle.cqf_laws_shift.proofs.Trees.{GoesBy, goes_by, by_goes, uses_next}

-- a frame is queued only to the ports whose links its stream takes next
tested_goes : (row : Row) (ingress : Option ℕ) (l : ℕ) → list_any (λ next. next == l) (goes_to row ingress) ≡ true → GoesBy row ingress l
tested_goes row ingress l t =
    let r = any_member (λ next. next == l) (goes_to row ingress) t in
    subst (λ z. GoesBy row ingress z) (eqb-true r.0 l r.2) (goes_by row ingress r.0 r.1)

-- and to each of them
goes_tested : (row : Row) (ingress : Option ℕ) (l : ℕ) → GoesBy row ingress l → list_any (λ next. next == l) (goes_to row ingress) ≡ true
goes_tested row ingress l by = member_any (λ next. next == l) (goes_to row ingress) l (by_goes row ingress l by) (eq-eqb l l refl)

-- such a link is crossed
pub goes_crosses : (row : Row) (ingress : Option ℕ) (l : ℕ) → GoesBy row ingress l → crosses row l ≡ true
goes_crosses row ingress l by = member_any (λ k. k == l) _ by.hop.link (contains_map (λ (hop : Hop). hop.link) row.tree.items by.hop by.of_tree)
    (eq-eqb by.hop.link l by.is_link)

-- what a verdict queues to a link
pub queued_one : (d : Domain) (l : ℕ) (x : Received) (row : Row) → GoesBy row (came_by x.ingress) l → queued_by d l x (Queued row) ≡ queued_frame d x row ∷ []
queued_one d l x row by = cond-true (list_any (λ next. next == l) (goes_to row (came_by x.ingress))) (queued_frame d x row ∷ []) []
    (goes_tested row (came_by x.ingress) l by)

-- one frame, or none
pub one_or_none : (d : Domain) (l : ℕ) (x : Received) (v : Verdict) →
    ((row : Row) × (v ≡ Queued row) × GoesBy row (came_by x.ingress) l × (queued_by d l x v ≡ queued_frame d x row ∷ [])) ⊎ (queued_by d l x v ≡ [])
one_or_none d l x (Queued row) = elim (cases_Bool (list_any (λ next. next == l) (goes_to row (came_by x.ingress)))) [
  | inl t ↦ inl (
    row,
    refl,
    tested_goes row (came_by x.ingress) l t,
    cond-true (list_any (λ next. next == l) (goes_to row (came_by x.ingress)))
        (queued_frame d x row ∷ []) [] t,
  )
  | inr u ↦ inr (cond-false (list_any (λ next. next == l) (goes_to row (came_by x.ingress))) (queued_frame d x row ∷ []) [] u)
]
one_or_none d l x (DroppedFor reason) = inr refl
one_or_none d l x LacksRow = inr refl
one_or_none d l x ExceedsGate = inr refl

-- the frame that a verdict queues to a link
queued_by_verdict : (d : Domain) (l : ℕ) (x : Received) (v : Verdict) (q : QueuedFrame) → Contains (queued_by d l x v) q → (row : Row) × (v ≡ Queued row) ×
    GoesBy row (came_by x.ingress) l × (queued_frame d x row ≡ q)
queued_by_verdict d l x v q c = elim (one_or_none d l x v) [
  | inl r ↦ (
    r.0,
    r.1,
    r.2,
    elim (contains_cases (queued_frame d x r.0) [] q (subst (λ z. Contains z q) r.3 c)) [
      | inl e ↦ e
      | inr h ↦
          absurd (contains_none q h)
    ],
  )
  | inr none ↦ absurd (contains_none q (subst (λ z. Contains z q) none c))
]

-- where a queued frame comes from
pub record FromQueue (d : Domain) (l : ℕ) (policed : List Policed) (q : QueuedFrame) : Type 0 where
  pub p : Policed
  pub inside : Contains policed p
  pub row : Row
  pub verdict : p.verdict ≡ Queued row
  pub goes : GoesBy row (came_by p.received.ingress) l
  pub is : queued_frame d p.received row ≡ q

-- this holds for each queued frame
pub queued_from : (d : Domain) (l : ℕ) (policed : List Policed) (q : QueuedFrame) → Contains (queued_to d l policed) q → FromQueue d l policed q
queued_from d l policed q c =
    let r = contains_from_flat (λ (p : Policed). queued_by d l p.received p.verdict) policed q c in
    let v = queued_by_verdict d l r.0.received r.0.verdict q r.2 in
    record { p = r.0; inside = r.1; row = v.0; verdict = v.1; goes = v.2; is = v.3 }

-- and each frame that goes on by the link is queued
pub queued_into : (d : Domain) (l : ℕ) (policed : List Policed) (p : Policed) (row : Row) → Contains policed p → p.verdict ≡ Queued row →
    GoesBy row (came_by p.received.ingress) l → Contains (queued_to d l policed) (queued_frame d p.received row)
queued_into d l policed p row c e by =
    contains_flat (λ (p : Policed). queued_by d l p.received p.verdict) policed p (queued_frame d p.received row) c
    (subst (λ z. Contains z (queued_frame d p.received row)) (sym (ap (queued_by d l p.received) e ∙ queued_one d l p.received row by))
    (contains_here (queued_frame d p.received row) []))

-- what an arrival adds to the load of a cycle
wire_in_within : (cycle_time cycle : ℕ) (a : Arrival) →
    ((a.at.0 / cycle_time ≡ cycle) × (wire_in cycle_time cycle a ≤ wire_of a.octets)) ⊎ (wire_in cycle_time cycle a ≡ 0)
wire_in_within cycle_time cycle a = elim (cases_Bool (a.at.0 / cycle_time == cycle)) [
  | inl t ↦ inl (
    eqb-true (a.at.0 / cycle_time) cycle t,
    le_trans
        (le_of_eq (cond-true (a.at.0 / cycle_time == cycle) (if is_streams a then wire_of a.octets else 0) 0 t)) (at_most (is_streams a) (wire_of a.octets)),
  )
  | inr u ↦ inr (cond-false (a.at.0 / cycle_time == cycle) (if is_streams a then wire_of a.octets else 0) 0 u)
]
  where
    -- a number or 0 is at most the number
    at_most : (b : Bool) (n : ℕ) → (if b then n else 0) ≤ n
    at_most true n = omega arith
    at_most false n = omega arith

-- a class that a gate gives is a stream's
pub gives_streams : (cycle : ℕ) → 6 ≤ given_class cycle
gives_streams cycle = either (cycle % 2 == 0)
  where
    -- 6 and 7 are at least 6
    either : (b : Bool) → 6 ≤ (if b then 6 else 7)
    either true = omega arith
    either false = omega arith

-- what is queued is in the order of the frames that arrived
pub queue_in_order : (d : Domain) (l : ℕ) (policed : List Policed) → AllPairs (λ (p q : Policed). p.received.at ≤ q.received.at) policed →
    AllPairs (λ (a b : QueuedFrame). a.arrival.at.0 ≤ b.arrival.at.0) (queued_to d l policed)
queue_in_order d l policed sorted =
    pairs_of_flat (λ (p : Policed). queued_by d l p.received p.verdict) (λ (p q : Policed). p.received.at ≤ q.received.at) R policed
    (λ p member. each_alone p.received p.verdict)
    (λ p q a b first second. across p q a b) sorted
  where
    -- one queued frame arrives no later than another
    R : QueuedFrame → QueuedFrame → Type 0
    R a b = a.arrival.at.0 ≤ b.arrival.at.0

    -- what one frame adds to the queue is in that order
    each_alone : (x : Received) (v : Verdict) → AllPairs R (queued_by d l x v)
    each_alone x v = elim (one_or_none d l x v) [
      | inl r ↦ subst (λ z. AllPairs R z) (sym r.3) (pairs_one R (queued_frame d x r.0))
      | inr none ↦ subst (λ z. AllPairs R z) (sym none) (pairs_none R)
    ]

    -- what a frame adds arrives no later than what a later one adds
    across : (p r : Policed) (a b : QueuedFrame) → p.received.at ≤ r.received.at → Contains (queued_by d l p.received p.verdict) a →
        Contains (queued_by d l r.received r.verdict) b → R a b
    across p r a b order ca cb =
        let va = queued_by_verdict d l p.received p.verdict a ca in
        let vb = queued_by_verdict d l r.received r.verdict b cb in
        subst (λ (z : QueuedFrame). z.arrival.at.0 ≤ b.arrival.at.0) va.3 (subst (λ (z : QueuedFrame). p.received.at ≤ z.arrival.at.0) vb.3 order)

module _ (d : Domain) (tables : List (List Row)) (bridge : ℕ) (xs : List Received) (policed : List Policed) (facts : Polices d tables bridge xs policed)
    (l : ℕ) where
  -- what the port sees
  abbrev arrivals : List Arrival
  arrivals = arrivals_of (queued_to d l policed)

  -- what arrives in order is policed in order
  pub policed_sorted : AllPairs (λ (a b : Received). a.at ≤ b.at) xs → AllPairs (λ (p q : Policed). p.received.at ≤ q.received.at) policed
  policed_sorted sorted = pairs_from_map (λ (a b : Received). a.at ≤ b.at) (λ (p : Policed). p.received) policed
      (subst (λ z. AllPairs (λ (a b : Received). a.at ≤ b.at) z) (sym facts.in_turn) sorted)

  -- each has the class of its cycle
  pub class_given : GateGivesClass → 0 < d.cycle_time → (q : QueuedFrame) → Contains (queued_to d l policed) q →
      q.arrival.class ≡ given_class (q.arrival.at.0 / d.cycle_time)
  class_given gives some q c =
      let from = queued_from d l policed q c in
      subst (λ (z : QueuedFrame). z.arrival.class ≡ given_class (z.arrival.at.0 / d.cycle_time)) from.is
      (gives d.cycle_time from.row.octets from.row.pace (hop_number_after from.row (came_by from.p.received.ingress)) from.p.received.at some)

  -- what a frame adds to the port's load in a cycle
  adds : (cycle : ℕ) (x : Received) (v : Verdict) →
      ((row : Row) × (v ≡ Queued row) × GoesBy row (came_by x.ingress) l × (cycle_of d x.at ≡ cycle) ×
      (sum_by (λ (q : QueuedFrame). wire_in d.cycle_time cycle q.arrival) (queued_by d l x v) ≤ wire_of x.octets)) ⊎
      (sum_by (λ (q : QueuedFrame). wire_in d.cycle_time cycle q.arrival) (queued_by d l x v) ≡ 0)
  adds cycle x v =
      let f = λ (q : QueuedFrame). wire_in d.cycle_time cycle q.arrival in
      elim (one_or_none d l x v) [
        | inl r ↦
            let one : sum_by f (queued_by d l x v) ≡ wire_in d.cycle_time cycle (queued_frame d x r.0).arrival = ap (sum_by f) r.3
            ∙ zero-add (f (queued_frame d x r.0)) in
            elim (wire_in_within d.cycle_time cycle (queued_frame d x r.0).arrival) [
              | inl c ↦ inl (r.0, r.1, r.2, c.0, le_trans (le_of_eq one) c.1)
              | inr c ↦ inr (one ∙ c)
            ]
        | inr none ↦ inr (ap (sum_by f) none)
      ]

  -- what arrives at the port in a cycle is within the cost of the streams of the cycle's table
  pub load_within_cost : d.overhead ≤ 22 → ((cycle : ℕ) (row : Row) → Contains (table_of tables cycle) row → IsTree d row.tree.items) →
      ((cycle : ℕ) (row : Row) → Contains (table_of tables cycle) row → row.overhead ≡ d.overhead) →
      All (λ (p : Policed). 64 ≤ p.received.octets) policed → (cycle : ℕ) →
      load d.cycle_time cycle arrivals ≤ link_cost (table_of tables cycle) l (cycle + 1)
  load_within_cost short trees overheads least cycle =
      subst (λ z. z ≤ link_cost (table_of tables cycle) l (cycle + 1)) (sym whole) (sum_grouped added of_row bound policed (table_of tables cycle) has within)
    where
      added : Policed → ℕ
      added p = sum_by (λ (q : QueuedFrame). wire_in d.cycle_time cycle q.arrival) (queued_by d l p.received p.verdict)

      whole : load d.cycle_time cycle arrivals ≡ sum_by added policed
      whole = sum_map (wire_in d.cycle_time cycle) (λ (q : QueuedFrame). q.arrival) (queued_to d l policed)
          ∙ sum_flat (λ (q : QueuedFrame). wire_in d.cycle_time cycle q.arrival) (λ (p : Policed). queued_by d l p.received p.verdict) policed

      passes : Row → Policed → Bool
      passes row p = is_queued_of row.no p.verdict && (cycle_of d p.received.at == cycle)

      used_by : Row → Bool
      used_by row = uses row.tree.items row.pace l (cycle + 1)

      of_row : Policed → Row → ℕ
      of_row p row = if used_by row then (if passes row p then wire_of p.received.octets else 0) else 0

      bound : Row → ℕ
      bound row = if used_by row then cost_of row.overhead row.octets else 0

      has : (p : Policed) → Contains policed p → ((row : Row) × Contains (table_of tables cycle) row × (added p ≤ of_row p row)) ⊎ (added p ≡ 0)
      has p c = elim (adds cycle p.received p.verdict) [
        | inl a ↦
            let row = a.0 in
            let member : Contains (table_of tables cycle) row =
            subst (λ z. Contains (table_of tables z) row) a.3 (row_of_queued d tables bridge xs policed facts p row c a.1) in
            let passed : passes row p ≡ true =
            and_from (is_queued_of row.no p.verdict) (cycle_of d p.received.at == cycle) (ap (is_queued_of row.no) a.1 ∙ eq-eqb row.no row.no refl)
            (eq-eqb (cycle_of d p.received.at) cycle a.3) in
            let positive : 0 < counted_of d.overhead p.received.octets =
            omega (arith, short, All-contains (λ (q : Policed). 64 ≤ q.received.octets) policed p least c) in
            let active_cycle = ap (is_active row.pace (hop_number_after row (came_by p.received.ingress))) (sym a.3) ∙ facts.active_cycles p row c a.1 positive in
            let used = uses_next d row (trees cycle row member) (came_by p.received.ingress) l cycle a.2 active_cycle in
            let value : of_row p row ≡ wire_of p.received.octets =
            cond-true (used_by row) (if passes row p then wire_of p.received.octets else 0) 0 used
            ∙ cond-true (passes row p) (wire_of p.received.octets) 0 passed in
            inl (row, member, le_trans a.4 (le_of_eq (sym value)))
        | inr z ↦ inr z
      ]

      within : (row : Row) → Contains (table_of tables cycle) row → sum_by (λ p. of_row p row) policed ≤ bound row
      within row c = elim (cases_Bool (used_by row)) [
        | inl t ↦
            let inner = sum_le_members (λ p. of_row p row) (λ p. if passes row p then wire_of p.received.octets else 0) policed
            (λ p m. le_of_eq (cond-true (used_by row) (if passes row p then wire_of p.received.octets else 0) 0 t)) in
            let cost = tested_wire_within_cost d.overhead short (passes row) (λ (p : Policed). p.received.octets) policed row.octets least
            (facts.reserved cycle row c) in
            let same = ap (λ o. cost_of o row.octets) (sym (overheads cycle row c)) in
            le_trans inner (le_trans cost (le_of_eq (same ∙ sym (cond-true (used_by row) (cost_of row.overhead row.octets) 0 t))))
        | inr u ↦
            let none = sum_none (λ p. of_row p row) policed (λ p m. cond-false (used_by row) (if passes row p then wire_of p.received.octets else 0) 0 u) in
            omega (arith, none)
      ]
