-- Frames of a cycle that are taken one after the other.
use Rattle.std.proofs.Common.{◌≡◌, ◌+◌, ◌*◌, ◌≤◌, ◌<◌, ℕ, List, [], ◌∷◌, ◌++◌, ◌∙◌, inl, inr, sym}
use Rattle.std.proofs.Common.{ap, refl, arith, length, map, take, drop, get_or, Contains, Option, Some, None}
use Rattle.std.proofs.Common.{subst, append-nil, append_assoc, ◌-◌}
use Rattle.std.specs.Prelude.{◌==◌, replicate, slice_get}
use Rattle.std.specs.List.Sorted.{IsNonDecreasingBy}
use Rattle.std.proofs.Math.Seq.{take-append_seam}
use Rattle.std.proofs.lemmas.Bool.{cond-false, ne_eqb}
use Rattle.std.proofs.lemmas.List.{drop_more, get_or-replicate, length-take-le, take-append-drop, take_all, take_more}
use Rattle.std.proofs.lemmas.List.Concat.{flat_map-append}
use Rattle.std.proofs.lemmas.List.Elements.{Contains-append_cases, Contains-get_or, Contains-push}
use Rattle.std.proofs.lemmas.Option.{get_or_from_slice_get, slice_get_within}
use Rattle.std.proofs.lemmas.Simd.{map-map}
use Rattle.cqf_lists.proofs.Made.{map_same}
use Rattle.cqf_lists.proofs.Members.{contains_from_map, contains_none, contains_one, find_member, index_of_member}
use Rattle.cqf_lists.proofs.Indices.{slice_get-take, slice_get_after}
use Rattle.cqf_units.proofs.Cycles.{cycle_from}
use Rattle.cqf_model.specs.declared.frames.Dropped.{Dropped}
use Rattle.cqf_model.specs.declared.ports.Arrival.{Arrival}
use Rattle.cqf_model.specs.declared.topology.Row.{Row}
use Rattle.cqf_model.specs.Book.{drop_by}
use Rattle.cqf_model.specs.Domain.{Domain}
use Rattle.cqf_model.specs.Network.{IsLoss, QueuedFrame, arrivals_of, queued_by, queued_to}
use Rattle.cqf_model.specs.Table.{table_of}
use Rattle.cqf_model.specs.Policing.{Policed, Received, Verdict, police, police_all}
use Rattle.cqf_model.proofs.Coming.{queued_when}
use Rattle.cqf_model.proofs.Policing.{police_more}
use Rattle.cqf_laws_cycle.specs.Compiled.{GateCountsCycles}
use Rattle.cqf_laws_cycle.specs.Gathered.{dropped_of}
use Rattle.cqf_bridge.specs.declared.faults.BridgeFault.{BridgeFault}
use Rattle.cqf_bridge.specs.declared.faults.BridgeFault.TheVariants as fault
use Rattle.cqf_bridge.specs.declared.cycle_gate.KeptGate.{KeptGate}
use Rattle.cqf_bridge.specs.Gates.{AreKept, counted_by, counted_in, kept_of}
use Rattle.cqf_bridge.specs.PortRecord.{PortRecord, with_frames}
use Rattle.cqf_bridge.specs.Taking.{AreWaiting, HasPoliced, IsFaultByVerdict, IsFaultByPoliced, IsWaiting, MayBeTaken}
use Rattle.cqf_bridge.specs.Taking.{TakesFrame, policed_by, verdict_taken, with_verdict}
use Rattle.cqf_bridge.proofs.After.{counted_after, verdict_after}
use Rattle.cqf_bridge.proofs.Taking.{frames_more, frames_none}

-- the table of the cycle, if each cycle has it
pub table_held : (cycle : ℕ) (rows : List Row) → table_of (replicate (cycle + 1) rows) cycle ≡ rows
table_held cycle rows = get_or-replicate (cycle + 1) cycle rows [] (omega arith)

-- gates that were called before a cycle have counted nothing in it
none_counted_yet : (cycle : ℕ) (gates : List KeptGate) → AreKept cycle gates → (number : ℕ) → counted_in gates number cycle ≡ 0
none_counted_yet cycle gates before number =
    by_kept (kept_of gates number) (λ k e. before k (find_member (λ (g : KeptGate). g.number == number) gates k e).0)
  where
    -- by what is kept for the number
    by_kept : (o : Option KeptGate) → ((k : KeptGate) → o ≡ Some k → k.cycle < cycle) → counted_by o cycle ≡ 0
    by_kept None each = refl
    by_kept (Some k) each =
        let sooner = each k refl in
        cond-false (k.cycle == cycle) k.taken 0 (ne_eqb k.cycle cycle (λ e. omega (arith, sooner, e)))

module _ (d : Domain) (rows : List Row) (bridge cycle : ℕ) (ports_before : List PortRecord) (drops_before : List Dropped) where
  -- the verdict on a frame, after those before it
  abbrev policed_next : List Policed → Received → Policed
  policed_next policed x = police d (replicate (cycle + 1) rows) bridge policed x

  module _ (counts : GateCountsCycles) (some : 0 < d.cycle_time) (policed : List Policed) (x : Received)
      (gates : List KeptGate) (ports : List PortRecord) (drops : List Dropped)
      (may : MayBeTaken d bridge cycle rows x)
      (h : HasPoliced d bridge cycle ports_before drops_before policed gates ports drops) where
    -- so the verdict is that of the definitions
    pub same_verdict : verdict_taken d rows bridge cycle gates x ≡ (policed_next policed x).verdict
    same_verdict =
        verdict_after d (replicate (cycle + 1) rows) rows bridge cycle counts some (table_held cycle rows) policed x gates may.in_cycle h.counted

    module _ (gates_after : List KeptGate) (ports_after : List PortRecord) (drops_after : List Dropped)
        (takes : TakesFrame d rows bridge cycle x gates gates_after ports ports_after drops drops_after) where
      -- one more frame is policed
      pub policed_more : HasPoliced d bridge cycle ports_before drops_before (policed ++ policed_next policed x ∷ []) gates_after ports_after drops_after
      policed_more =
          let v = verdict_taken d rows bridge cycle gates x in
          let p = policed_next policed x in
          record {
            counted = counted_after d (replicate (cycle + 1) rows) rows bridge cycle counts some (table_held cycle rows) policed x gates
                may.in_cycle h.counted
                gates_after takes.counted;
            queued =
                takes.queued
                ∙ (λ i. map (with_verdict d x (same_verdict i)) (h.queued i))
                ∙ map-map (with_verdict d x p.verdict) (λ (r : PortRecord). with_frames r (queued_to d r.link policed)) ports_before
                ∙ map_same (λ (r : PortRecord). with_verdict d x p.verdict (with_frames r (queued_to d r.link policed)))
                (λ (r : PortRecord). with_frames r (queued_to d r.link (policed ++ p ∷ []))) ports_before
                (λ r held. frames_more r (queued_to d r.link policed) (queued_by d r.link x p.verdict)
                ∙ ap (with_frames r) (ap (λ (fs : List QueuedFrame). queued_to d r.link policed ++ fs) (sym (append-nil (queued_by d r.link x p.verdict)))
                ∙ sym (flat_map-append (λ (q : Policed). queued_by d r.link q.received q.verdict) policed (p ∷ []))));
            dropped =
                takes.dropped
                ∙ (λ i. h.dropped i ++ drop_by cycle bridge x (same_verdict i))
                ∙ append_assoc drops_before (dropped_of cycle bridge policed) (drop_by cycle bridge x p.verdict)
                ∙ ap (λ (xs : List Dropped). drops_before ++ xs)
                (ap (λ (xs : List Dropped). dropped_of cycle bridge policed ++ xs) (sym (append-nil (drop_by cycle bridge x p.verdict)))
                ∙ sym (flat_map-append (λ (q : Policed). drop_by cycle bridge q.received q.verdict) policed (p ∷ [])));
            none_lost = λ q held. elim (Contains-append_cases policed (p ∷ []) q held) [
              | inl old ↦ h.none_lost q old
              | inr new ↦ subst (λ (y : Policed). ¬ IsLoss y.verdict) (contains_one p q new) (subst (λ (u : Verdict). ¬ IsLoss u) same_verdict takes.not_lost)
            ];
          }

  -- at first none is
  pub none_policed : (gates : List KeptGate) (ports : List PortRecord) (drops : List Dropped) → AreKept cycle gates
      → ports ≡ ports_before → drops ≡ drops_before → HasPoliced d bridge cycle ports_before drops_before [] gates ports drops
  none_policed gates ports drops before same_ports same_drops = record {
    counted = none_counted_yet cycle gates before;
    queued = same_ports ∙ no_queue ports_before;
    dropped = same_drops ∙ sym (append-nil drops_before);
    none_lost = λ p held. absurd (contains_none p held);
  }
    where
      no_queue : (rs : List PortRecord) → rs ≡ map (λ (r : PortRecord). with_frames r (queued_to d r.link [])) rs
      no_queue [] = refl
      no_queue (r ∷ rs) = λ i. sym (frames_none r) i ∷ no_queue rs i

-- ports that are waiting at an instant are waiting at a later one
pub waiting_later : (d : Domain) (cycle u v : ℕ) (ports : List PortRecord) → u ≤ v → AreWaiting d cycle u ports → AreWaiting d cycle v ports
waiting_later d cycle u v ports le h r held = let is = h r held in record {
  rules = is.rules;
  reached = is.reached;
  sooner = λ a inside high. omega (arith, is.sooner a inside high, le);
}

-- and they still are after a frame
pub waiting_again : (d : Domain) (rows : List Row) (bridge cycle : ℕ) (x : Received) (gates gates_after : List KeptGate) (ports ports_after : List PortRecord)
    (drops drops_after : List Dropped) → AreWaiting d cycle (x.at + 1) ports →
    TakesFrame d rows bridge cycle x gates gates_after ports ports_after drops drops_after → AreWaiting d cycle (x.at + 1) ports_after
waiting_again d rows bridge cycle x gates gates_after ports ports_after drops drops_after h takes r held =
    let v = verdict_taken d rows bridge cycle gates x in
    let f = contains_from_map (with_verdict d x v) ports r (subst (λ (rs : List PortRecord). Contains rs r) takes.queued held) in
    let is = h f.0 f.1 in
    subst (IsWaiting d cycle (x.at + 1)) f.2
    (record {
      rules = is.rules;
      reached = is.reached;
      sooner = λ a inside high. elim (Contains-append_cases f.0.port.arrivals (arrivals_of (queued_by d f.0.link x v)) a inside) [
        | inl old ↦ is.sooner a old high
        | inr new ↦
            let g = contains_from_map (λ (q : QueuedFrame). q.arrival) (queued_by d f.0.link x v) a new in
            omega (arith, queued_when d f.0.link x v g.0 g.1, ap (λ (b : Arrival). b.at.0) g.2)
      ];
    })

-- the first frames of a cycle are taken
pub record IsTaking (d : Domain) (rows : List Row) (bridge cycle : ℕ) (ports_before : List PortRecord) (drops_before : List Dropped) (frames : List Received)
    (count : ℕ) (gates : List KeptGate) (ports : List PortRecord) (drops : List Dropped) : Type 0 where
  pub waiting : (t : ℕ) → cycle * d.cycle_time ≤ t → ((y : Received) → Contains (take count frames) y → y.at ≤ t) → AreWaiting d cycle (t + 1) ports
  pub kept : AreKept (cycle + 1) gates
  pub policed : HasPoliced d bridge cycle ports_before drops_before (policed_by d rows bridge cycle (take count frames)) gates ports drops

module _ (d : Domain) (rows : List Row) (bridge cycle : ℕ) (ports_before : List PortRecord) (drops_before : List Dropped) (frames : List Received)
    (counts : GateCountsCycles) (some : 0 < d.cycle_time) where
  -- at first none is
  pub taking_none : (gates : List KeptGate) → AreWaiting d cycle (cycle * d.cycle_time) ports_before → AreKept cycle gates →
      IsTaking d rows bridge cycle ports_before drops_before frames 0 gates ports_before drops_before
  taking_none gates h before = record {
    waiting = λ t from each. waiting_later d cycle (cycle * d.cycle_time) (t + 1) ports_before (omega (arith, from)) h;
    kept = λ k held. omega (arith, before k held);
    policed = none_policed d rows bridge cycle ports_before drops_before gates ports_before drops_before before refl refl;
  }

  module _ (may : (x : Received) → Contains frames x → MayBeTaken d bridge cycle rows x) (count : ℕ) (gates : List KeptGate)
      (ports : List PortRecord) (drops : List Dropped)
      (h : IsTaking d rows bridge cycle ports_before drops_before frames count gates ports drops) where
    module _ (ordered : IsNonDecreasingBy (λ (x : Received). x.at) frames) (inside : count < length frames) (x : Received)
        (is : x ≡ get_or frames count x) where
      pub among : Contains frames x
      among = subst (Contains frames) (sym is) (Contains-get_or frames count x inside)

      -- the next frame arrives no sooner than those before it
      pub next_waiting : AreWaiting d cycle (x.at + 1) ports
      next_waiting = h.waiting x.at
          (omega (arith, ap (λ (c : ℕ). c * d.cycle_time) (may x among).in_cycle, cycle_from d.cycle_time x.at))
          (λ y held.
          let p = index_of_member (take count frames) y held in
          let less : p.0 < count = omega (arith, slice_get_within (take count frames) p.0 y p.1, length-take-le count frames (omega (arith, inside))) in
          let there : get_or frames p.0 x ≡ y = get_or_from_slice_get frames p.0 y x (sym (slice_get-take frames count p.0 less) ∙ p.1) in
          omega (arith, ordered p.0 count x (omega (arith, less)) inside, ap (λ (z : Received). z.at) there, ap (λ (z : Received). z.at) is))

      front_more : take (count + 1) frames ≡ take count frames ++ x ∷ []
      front_more = take_more frames count x inside ∙ ap (λ (z : Received). take count frames ++ z ∷ []) (sym is)

      abbrev done : List Policed
      done = policed_by d rows bridge cycle (take count frames)

      -- the next is taken
      pub taking_more : (gates_after : List KeptGate) (ports_after : List PortRecord) (drops_after : List Dropped) →
          TakesFrame d rows bridge cycle x gates gates_after ports ports_after drops drops_after →
          IsTaking d rows bridge cycle ports_before drops_before frames (count + 1) gates_after ports_after drops_after
      taking_more gates_after ports_after drops_after takes = record {
        waiting = λ t from each.
            let upto : x.at ≤ t = each x (subst (λ (ys : List Received). Contains ys x) (sym front_more) (Contains-push (take count frames) x)) in
            waiting_later d cycle (x.at + 1) (t + 1) ports_after (omega (arith, upto))
            (waiting_again d rows bridge cycle x gates gates_after ports ports_after drops drops_after next_waiting takes);
        kept = takes.kept h.kept;
        policed =
            subst (λ (ps : List Policed). HasPoliced d bridge cycle ports_before drops_before ps gates_after ports_after drops_after)
            (sym (ap (policed_by d rows bridge cycle) front_more ∙ police_more d (replicate (cycle + 1) rows) bridge [] (take count frames) (x ∷ [])))
            (policed_more d rows bridge cycle ports_before drops_before counts some done x gates ports drops (may x among) h.policed
            gates_after ports_after drops_after takes);
      }

      -- or no more frames are
      pub taking_stops : (why : BridgeFault) → IsFaultByVerdict (verdict_taken d rows bridge cycle gates x) x.frame why →
          IsFaultByPoliced (policed_by d rows bridge cycle frames) why
      taking_stops fault.Spent stops = stops
      taking_stops fault.WrongCycle stops = stops
      taking_stops fault.StrangeBatch stops = stops
      taking_stops (fault.OverOctets over) stops =
          let p = police d (replicate (cycle + 1) rows) bridge done x in
          let rest = police_all d (replicate (cycle + 1) rows) bridge (done ++ p ∷ []) (drop (count + 1) frames) in
          let parts : policed_by d rows bridge cycle frames ≡ done ++ p ∷ rest =
          ap (policed_by d rows bridge cycle) (sym (take-append-drop count frames) ∙ ap (λ (ys : List Received). take count frames ++ ys)
          (drop_more frames count x inside ∙ ap (λ (z : Received). z ∷ drop (count + 1) frames) (sym is)))
          ∙ police_more d (replicate (cycle + 1) rows) bridge [] (take count frames) (x ∷ drop (count + 1) frames) in
          record {
            index = length done;
            over = p;
            there = ap (λ (ps : List Policed). slice_get ps (length done)) parts ∙ slice_get_after done p rest (length done) refl;
            exceeds =
                sym (same_verdict d rows bridge cycle ports_before drops_before counts some done x gates ports drops (may x among) h.policed)
                ∙ stops.0;
            is_frame = stops.1;
            first = λ q held exceeds.
                h.policed.none_lost q
                (subst (λ (ps : List Policed). Contains ps q) (ap (take (length done)) parts ∙ take-append_seam done (p ∷ rest)) held)
                (subst IsLoss (sym exceeds) tt);
          }
      taking_stops fault.Memory stops = stops

    -- in the end all are
    pub taking_all : length frames ≤ count →
        HasPoliced d bridge cycle ports_before drops_before (policed_by d rows bridge cycle frames) gates ports drops
    taking_all past =
        subst (λ (ys : List Received). HasPoliced d bridge cycle ports_before drops_before (policed_by d rows bridge cycle ys) gates ports drops)
        (take_all count frames past) h.policed
