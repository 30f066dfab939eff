-- The verdict on a frame at a bridge, and what its stream's gate counts.
use Rattle.std.proofs.Common.{◌≡◌, ◌≢◌, ◌+◌, ◌*◌, ◌≤◌, ◌<◌, ◌%◌, ◌⊎◌, ℕ, Bool, true, false, not, List, [], ◌∷◌, ◌++◌}
use Rattle.std.proofs.Common.{◌∙◌, inl, inr, sym, ap, refl, arith, map, Contains, Option, Some, None}
use Rattle.std.proofs.Common.{subst, append-nil}
use Rattle.std.specs.Prelude.{◌==◌, if◌then◌else◌}
use Rattle.std.specs.List.{list_any}
use Rattle.std.proofs.lemmas.Bool.{cases_eq, cond-true, eq-eqb, ne_eqb}
use Rattle.cqf_lists.proofs.Members.{contains_here}
use Rattle.cqf_units.specs.Timing.{counted_of}
use Rattle.cqf_model.specs.declared.frames.Dropped.{Dropped}
use Rattle.cqf_model.specs.declared.frames.Reason.{Reason}
use Rattle.cqf_model.specs.declared.frames.Reason.TheVariants.{Octets, OtherBridge, Withdrawn}
use Rattle.cqf_model.specs.declared.ports.Arrival.{Arrival}
use Rattle.cqf_model.specs.declared.topology.Row.{Row}
use Rattle.cqf_model.specs.Book.{drop_by}
use Rattle.cqf_model.specs.Domain.{Domain, cycle_of, guard_of}
use Rattle.cqf_model.specs.Network.{IsLoss, QueuedFrame, queued_by, queued_frame, queued_to}
use Rattle.cqf_model.specs.GateList.{IsOpen}
use Rattle.cqf_model.specs.Port.{PortRules}
use Rattle.cqf_model.specs.StreamGate.{gate_class, stream_list}
use Rattle.cqf_model.specs.Table.{begins_at, goes_on, goes_to, hop_number_after, is_live, row_named, row_of}
use Rattle.cqf_model.specs.Policing.{AtEdge as Offering, DroppedFor, ExceedsGate, LacksRow, Queued, Received, Relayed}
use Rattle.cqf_model.specs.Policing.{Ingress, Verdict, came_by, edge_verdict, inside_verdict, is_queued_of, verdict_by}
use Rattle.cqf_units.specs.Timing.{cycle_at}
use Rattle.cqf_gates.specs.StreamGate.{Gate}
use Rattle.cqf_gates.specs.declared.streams.Passed.TheVariants.{Class, OverOctets}
use Rattle.cqf_laws_cycle.specs.Compiled.{GateCountsCycles, GateGivesClass}
use Rattle.cqf_laws_cycle.specs.PortCycle.{QueuedFramesWait}
use Rattle.cqf_model.specs.declared.topology.Pace.{Pace}
use Rattle.cqf_bridge.specs.declared.cycle_gate.KeptGate.{KeptGate}
use Rattle.cqf_bridge.specs.Gates.{AreKept, counted_by, counted_in, gate_in, kept_after, kept_of, with_gate}
use Rattle.cqf_bridge.specs.PortRecord.{PortRecord}
use Rattle.cqf_bridge.specs.declared.policing.FrameVerdict.{FrameVerdict}
use Rattle.cqf_bridge.specs.Taking.{CanRecord, HasClass, IsWaiting, MayBeTaken, PassesGate, Polices, TakesFrame}
use Rattle.cqf_bridge.specs.Taking.{class_in, passes_by, queue_on, verdict_as, verdict_if}
use Rattle.cqf_bridge.specs.Taking.{verdict_taken, with_verdict}
use Rattle.cqf_bridge.proofs.PutGates.{gate_beside, gate_put, kept_cases}
use Rattle.cqf_bridge.proofs.Counting.{counted_more}
use Rattle.cqf_bridge.proofs.Taking.{frames_none, not_out_of_order}

-- what a gate's answer implies
pub word_class : (b : Bool) (k m : ℕ) → Class k ≡ (if b then Class m else OverOctets) → (b ≡ true) × (k ≡ m)
word_class true k m said = (refl, cc)
word_class false k m said = absurd cc

-- and that it passes nothing
pub word_over : (b : Bool) (m : ℕ) → OverOctets ≡ (if b then Class m else OverOctets) → b ≡ false
word_over true m said = absurd cc
word_over false m said = refl

module _ (d : Domain) (cycle : ℕ) (x : Received) (row : Row) (gates gates_after : List KeptGate) (some : 0 < d.cycle_time)
    (here : cycle_of d x.at ≡ cycle)
    (after : gates_after ≡ with_gate gates (kept_after d.cycle_time row.no (gate_in d gates row (came_by x.ingress)) x.at (counted_of d.overhead x.octets))) where
  -- the gate of the row, and its state after the frame
  abbrev gate : Gate
  gate = gate_in d gates row (came_by x.ingress)

  abbrev put : KeptGate
  put = kept_after d.cycle_time row.no gate x.at (counted_of d.overhead x.octets)

  -- if the gates were called before the cycle's end, they still were
  kept_again : AreKept (cycle + 1) gates → AreKept (cycle + 1) gates_after
  kept_again kept k held = elim (kept_cases gates put k (subst (λ (gs : List KeptGate). Contains gs k) after held)) [
    | inl old ↦ kept k old
    | inr e ↦ subst (λ (g : KeptGate). g.cycle < cycle + 1) e (omega (arith, here))
  ]

  module _ (counts : GateCountsCycles) where
    -- whether it passes
    abbrev went : Bool
    went = passes_by d gates x row

    -- what is counted for the row's own number
    own_counted : counted_in gates_after row.no cycle
        ≡ counted_in gates row.no cycle + (if is_queued_of row.no (verdict_if went row) then counted_of d.overhead x.octets else 0)
    own_counted =
        ap (λ (gs : List KeptGate). counted_in gs row.no cycle) after
        ∙ ap (λ (o : Option KeptGate). counted_by o cycle) (gate_put gates put)
        ∙ ap (λ (b : Bool). if b then put.taken else 0) (eq-eqb (cycle_of d x.at) cycle here)
        ∙ counted_more counts d.cycle_time row.octets row.pace (hop_number_after row (came_by x.ingress)) some (kept_of gates row.no) x.at (counted_of d.overhead x.octets)
        ∙ ap (λ (c : ℕ). counted_in gates row.no c + (if went then counted_of d.overhead x.octets else 0)) here
        ∙ ap (λ (b : Bool). counted_in gates row.no cycle + (if b then counted_of d.overhead x.octets else 0)) (sym (own went))
      where
        own : (b : Bool) → is_queued_of row.no (verdict_if b row) ≡ b
        own true = eq-eqb row.no row.no refl
        own false = refl

    -- and for another number
    other_counted : (number : ℕ) → row.no ≢ number → counted_in gates_after number cycle
        ≡ counted_in gates number cycle + (if is_queued_of number (verdict_if went row) then counted_of d.overhead x.octets else 0)
    other_counted number apart =
        ap (λ (gs : List KeptGate). counted_in gs number cycle) after
        ∙ ap (λ (o : Option KeptGate). counted_by o cycle) (gate_beside gates put number apart)
        ∙ plus_none (counted_in gates number cycle)
        ∙ ap (λ (b : Bool). counted_in gates number cycle + (if b then counted_of d.overhead x.octets else 0)) (sym (none went))
      where
        plus_none : (n : ℕ) → n ≡ n + 0
        plus_none n = omega arith

        none : (b : Bool) → is_queued_of number (verdict_if b row) ≡ false
        none true = ne_eqb row.no number apart
        none false = refl

    -- so the frame passed its gate, or didn't
    pub went_by_gate : (class : Option ℕ) → class ≡ (if went then Some (class_in d x row) else None) → PassesGate d cycle x row gates gates_after class
    went_by_gate class decided = record {
      decided = decided;
      counted = λ number. elim (cases_eq row.no number) [
        | inl e ↦
            subst (λ (n : ℕ). counted_in gates_after n cycle ≡ counted_in gates n cycle
            + (if is_queued_of n (verdict_if went row) then counted_of d.overhead x.octets else 0)) e own_counted
        | inr apart ↦ other_counted number apart
      ];
      kept = kept_again;
    }

-- the class that a stream's frame gets is 6 or 7
pub class_of_stream : GateGivesClass → (time reserved : ℕ) (pace : Pace) (hop_number t : ℕ) → 0 < time →
    (gate_class (stream_list time reserved pace hop_number) t ≡ 6) ⊎ (gate_class (stream_list time reserved pace hop_number) t ≡ 7)
class_of_stream gives time reserved pace hop_number t some = either (cycle_at time t % 2 == 0) (gives time reserved pace hop_number t some)
  where
    either : (b : Bool) → gate_class (stream_list time reserved pace hop_number) t ≡ (if b then 6 else 7) →
        (gate_class (stream_list time reserved pace hop_number) t ≡ 6) ⊎ (gate_class (stream_list time reserved pace hop_number) t ≡ 7)
    either true e = inl e
    either false e = inr e

module _ (d : Domain) (cycle : ℕ) (x : Received) (row : Row) (ports : List PortRecord) (short : (l : ℕ) → guard_of d l < d.cycle_time) (gives : GateGivesClass)
    (wait : QueuedFramesWait) (here : cycle_of d x.at ≡ cycle) (each_waits : (r : PortRecord) → Contains ports r → IsWaiting d cycle (x.at + 1) r)
    (arrival : Arrival)
    (is : arrival ≡ (queued_frame d x row).arrival) where
  -- a frame that passed may be recorded at each port by whose link it goes on
  pub may_record : (r : PortRecord) → Contains ports r → list_any (λ next. next == r.link) (goes_to row (came_by x.ingress)) ≡ true → CanRecord r.port arrival
  may_record r held goes = (
    λ late.
        let waiting = each_waits r held in
        let frame = queued_frame d x row in
        let queued : Contains (queued_to d r.link (record { received = x; verdict = Queued row } ∷ [])) frame =
        subst (λ (fs : List QueuedFrame). Contains fs frame)
        (sym (append-nil (queued_by d r.link x (Queued row)) ∙ cond-true (list_any (λ next. next == r.link) (goes_to row (came_by x.ingress)))
        (frame ∷ []) [] goes))
        (contains_here frame []) in
        let from : x.at ≤ late.instant = omega (arith, late.from_first, ap (λ (a : Arrival). a.at.0) is) in
        let before : late.instant < (cycle_of d x.at + 1) * d.cycle_time =
        omega (arith, late.before_last, waiting.reached, ap (λ (c : ℕ). (c + 1) * d.cycle_time) here) in
        wait d r.link late.instant (record { received = x; verdict = Queued row } ∷ []) frame (short r.link) queued from before
        (subst (λ rules. IsOpen rules frame.arrival.class late.instant) (ap (λ (rules : PortRules). rules.entries) waiting.rules)
        (subst (λ (a : Arrival). IsOpen r.port.rules.entries a.class late.instant) is late.is_open)),
    not_out_of_order r.port arrival (λ b inside same.
        let high : 6 ≤ b.class = (elim (class_of_stream gives d.cycle_time row.octets row.pace (hop_number_after row (came_by x.ingress)) x.at (omega (arith, short r.link))) [
          | inl six ↦ omega (arith, same, ap (λ (a : Arrival). a.class) is, six)
          | inr seven ↦ omega (arith, same, ap (λ (a : Arrival). a.class) is, seven)
        ]) in
        omega (arith, (each_waits r held).sooner b inside high, ap (λ (a : Arrival). a.at.0) is)),
  )

-- a dropped frame is queued to no port
pub none_queued : (d : Domain) (x : Received) (reason : Reason) (ports : List PortRecord) → ports ≡ map (with_verdict d x (DroppedFor reason)) ports
none_queued d x reason [] = refl
none_queued d x reason (r ∷ ports) = λ i. sym (frames_none r) i ∷ none_queued d x reason ports i

-- frames that get to the ports in the class that their gate gives are queued as the verdict says
pub queued_as : (d : Domain) (x : Received) (row : Row) (class : ℕ) (ingress : Option ℕ) (ports after : List PortRecord) → class ≡ class_in d x row
    → ingress ≡ came_by x.ingress →
    after ≡ map (queue_on row ingress (record { at = record { 0 = x.at }; class = class; octets = x.octets; frame = x.frame })) ports →
    after ≡ map (with_verdict d x (Queued row)) ports
queued_as d x row class ingress ports after gives came is =
    let on : Option ℕ → ℕ → PortRecord → PortRecord = λ w k.
    queue_on row w (record { at = record { 0 = x.at }; class = k; octets = x.octets; frame = x.frame }) in
    is ∙ (λ i. map (on (came i) (gives i)) ports)

module _ (d : Domain) (rows : List Row) (bridge cycle : ℕ) (x : Received) (gates gates_after : List KeptGate) where
  -- a frame that reaches no gate
  pub polices_none : (made : FrameVerdict) → verdict_as made ≡ verdict_taken d rows bridge cycle gates x → HasClass d x made →
      ((number : ℕ) → is_queued_of number (verdict_as made) ≡ false) → gates_after ≡ gates → Polices d rows bridge cycle x gates gates_after made
  polices_none made is class none same = record {
    verdict = is;
    class = class;
    counted = λ number.
        ap (λ (gs : List KeptGate). counted_in gs number cycle) same
        ∙ plus_none (counted_in gates number cycle)
        ∙ ap (λ (b : Bool). counted_in gates number cycle + (if b then counted_of d.overhead x.octets else 0)) (sym (none number))
        ∙ ap (λ (v : Verdict). counted_in gates number cycle + (if is_queued_of number v then counted_of d.overhead x.octets else 0)) is;
    kept = λ kept. subst (AreKept (cycle + 1)) (sym same) kept;
  }
    where
      plus_none : (n : ℕ) → n ≡ n + 0
      plus_none n = omega arith

  -- a frame that reaches the gate of its row
  pub polices_row : (row : Row) (class : Option ℕ) → PassesGate d cycle x row gates gates_after class → (made : FrameVerdict) →
      verdict_as made ≡ verdict_taken d rows bridge cycle gates x → HasClass d x made →
      ((number : ℕ) → is_queued_of number (verdict_if (passes_by d gates x row) row) ≡ is_queued_of number (verdict_as made)) →
      Polices d rows bridge cycle x gates gates_after made
  polices_row row class p made is gives same = record {
    verdict = is;
    class = gives;
    counted = λ number.
        p.counted number
        ∙ ap (λ (b : Bool). counted_in gates number cycle + (if b then counted_of d.overhead x.octets else 0)) (same number)
        ∙ ap (λ (v : Verdict). counted_in gates number cycle + (if is_queued_of number v then counted_of d.overhead x.octets else 0)) is;
    kept = p.kept;
  }

  module _ (ports ports_after : List PortRecord) (drops drops_after : List Dropped) (made : FrameVerdict)
      (p : Polices d rows bridge cycle x gates gates_after made) where
    -- a frame that is policed is taken if the ports and the drops get it
    takes_so : ports_after ≡ map (with_verdict d x (verdict_as made)) ports → drops_after ≡ drops ++ drop_by cycle bridge x (verdict_as made) →
        ¬ IsLoss (verdict_as made) → TakesFrame d rows bridge cycle x gates gates_after ports ports_after drops drops_after
    takes_so queued dropped not_lost = record {
      counted = p.counted;
      kept = p.kept;
      queued = queued ∙ ap (λ (v : Verdict). map (with_verdict d x v) ports) p.verdict;
      dropped = dropped ∙ ap (λ (v : Verdict). drops ++ drop_by cycle bridge x v) p.verdict;
      not_lost = subst (λ (v : Verdict). ¬ IsLoss v) p.verdict not_lost;
    }

    -- one that goes on
    pub takes_queued : (row : Row) → verdict_as made ≡ Queued row → ports_after ≡ map (with_verdict d x (Queued row)) ports → drops_after ≡ drops →
        TakesFrame d rows bridge cycle x gates gates_after ports ports_after drops drops_after
    takes_queued row is queued same =
        takes_so (queued ∙ ap (λ (v : Verdict). map (with_verdict d x v) ports) (sym is))
        (same ∙ sym (append-nil drops) ∙ ap (λ (v : Verdict). drops ++ drop_by cycle bridge x v) (sym is))
        (subst (λ (v : Verdict). ¬ IsLoss v) (sym is) (λ lost. lost))

    -- one that is dropped
    pub takes_dropped : (reason : Reason) → verdict_as made ≡ DroppedFor reason → ports_after ≡ ports → drops_after ≡ drops
        ++ drop_by cycle bridge x (DroppedFor reason) →
        TakesFrame d rows bridge cycle x gates gates_after ports ports_after drops drops_after
    takes_dropped reason is same more =
        takes_so (same ∙ none_queued d x reason ports ∙ ap (λ (v : Verdict). map (with_verdict d x v) ports) (sym is))
        (more ∙ ap (λ (v : Verdict). drops ++ drop_by cycle bridge x v) (sym is))
        (subst (λ (v : Verdict). ¬ IsLoss v) (sym is) (λ lost. lost))

-- the verdict on an offer, by the row of its name
pub verdict_at_edge : (d : Domain) (rows : List Row) (bridge cycle : ℕ) (gates : List KeptGate) (x : Received) (name : List ℕ) (found : Option Row) →
    x.ingress ≡ Offering name → found ≡ row_named rows name →
    verdict_taken d rows bridge cycle gates x ≡ edge_verdict d bridge cycle (passes_by d gates x) found
verdict_at_edge d rows bridge cycle gates x name found came is =
    ap (verdict_by d rows bridge cycle (passes_by d gates x)) came
    ∙ ap (edge_verdict d bridge cycle (passes_by d gates x)) (sym is)

-- and on a frame that arrived by a link, with a row that leads on
pub verdict_inside : (d : Domain) (rows : List Row) (bridge cycle : ℕ) (gates : List KeptGate) (x : Received) (link stream : ℕ) (row : Row) →
    x.ingress ≡ Relayed link stream → Some row ≡ row_of rows stream → goes_on d row (Some link) bridge ≡ true →
    verdict_taken d rows bridge cycle gates x ≡ verdict_if (passes_by d gates x row) row
verdict_inside d rows bridge cycle gates x link stream row came is goes =
    let passes = passes_by d gates x in
    let rest : Verdict = if not (passes row) then ExceedsGate else Queued row in
    ap (verdict_by d rows bridge cycle passes) came
    ∙ ap (inside_verdict d bridge link passes) (sym is)
    ∙ ap (λ (b : Bool). if not b then LacksRow else rest) goes
    ∙ turned (passes row)
  where
    turned : (b : Bool) → (if not b then ExceedsGate else Queued row) ≡ verdict_if b row
    turned true = refl
    turned false = refl

-- or with no row, or one that doesn't lead on
pub verdict_lacking : (d : Domain) (rows : List Row) (bridge cycle : ℕ) (gates : List KeptGate) (x : Received) (link stream : ℕ) →
    x.ingress ≡ Relayed link stream → None ≡ row_of rows stream → verdict_taken d rows bridge cycle gates x ≡ LacksRow
verdict_lacking d rows bridge cycle gates x link stream came is =
    ap (verdict_by d rows bridge cycle (passes_by d gates x)) came
    ∙ ap (inside_verdict d bridge link (passes_by d gates x)) (sym is)

-- a frame whose row leads on by no link of the bridge is lost there
pub verdict_not_leading : (d : Domain) (rows : List Row) (bridge cycle : ℕ) (gates : List KeptGate) (x : Received) (link stream : ℕ) (row : Row) →
    x.ingress ≡ Relayed link stream → Some row ≡ row_of rows stream → goes_on d row (Some link) bridge ≡ false →
    verdict_taken d rows bridge cycle gates x ≡ LacksRow
verdict_not_leading d rows bridge cycle gates x link stream row came is goes =
    let passes = passes_by d gates x in
    let rest : Verdict = if not (passes row) then ExceedsGate else Queued row in
    ap (verdict_by d rows bridge cycle passes) came
    ∙ ap (inside_verdict d bridge link passes) (sym is)
    ∙ ap (λ (b : Bool). if not b then LacksRow else rest) goes

-- what a gate gives implies whether it passed the frame
pub class_given : (b : Bool) (k m : ℕ) → Some k ≡ (if b then Some m else None) → (b ≡ true) × (k ≡ m)
class_given true k m given = (refl, cc)
class_given false k m given = absurd cc

-- nothing is given only if the test fails
pub none_given : (b : Bool) (m : ℕ) → None ≡ (if b then Some m else None) → b ≡ false
none_given true m given = absurd cc
none_given false m given = refl

-- an offer lacks no row
edge_lacks_none : (d : Domain) (bridge cycle : ℕ) (passes : Row → Bool) (found : Option Row) → edge_verdict d bridge cycle passes found ≡ LacksRow → ⊥
edge_lacks_none d bridge cycle passes None lacks = absurd cc
edge_lacks_none d bridge cycle passes (Some row) lacks = reasons (not (is_live row cycle)) (not (begins_at d row bridge)) (not (passes row)) lacks
  where
    -- for each of the reasons
    reasons : (a b c : Bool) → (if a then DroppedFor Withdrawn else (if b then DroppedFor OtherBridge else (if c then DroppedFor Octets else Queued row)))
        ≡ LacksRow → ⊥
    reasons true b c e = absurd cc
    reasons false true c e = absurd cc
    reasons false false true e = absurd cc
    reasons false false false e = absurd cc

-- nor does a frame that may be taken
pub lacks_none : (d : Domain) (rows : List Row) (bridge cycle : ℕ) (gates : List KeptGate) (x : Received) → MayBeTaken d bridge cycle rows x →
    verdict_taken d rows bridge cycle gates x ≡ LacksRow → ⊥
lacks_none d rows bridge cycle gates x may lacks = by_ingress x.ingress refl
  where
    -- a frame that passes its gate, or doesn't
    either : (b : Bool) (row : Row) → verdict_if b row ≡ LacksRow → ⊥
    either true row e = absurd cc
    either false row e = absurd cc

    -- by how it arrived
    by_ingress : (ingress : Ingress) → x.ingress ≡ ingress → ⊥
    by_ingress (Offering name) came =
        edge_lacks_none d bridge cycle (passes_by d gates x) (row_named rows name)
        (sym (verdict_at_edge d rows bridge cycle gates x name (row_named rows name) came refl) ∙ lacks)
    by_ingress (Relayed link stream) came =
        let k = may.leads_on link stream came in
        either (passes_by d gates x k.0) k.0 (sym (verdict_inside d rows bridge cycle gates x link stream k.0 came (sym k.1) k.2) ∙ lacks)

-- only one row is found
pub one_found : (a b : Row) → Some a ≡ Some b → a ≡ b
one_found a b e = cc
