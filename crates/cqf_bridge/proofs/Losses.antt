-- If nothing is lost inside, the frames that the links bring in a cycle go on, and a failed allocation is the only fault.
use Rattle.std.proofs.Common.{◌≡◌, ℕ, ◌+◌, ◌-◌, ◌*◌, ◌<◌, ◌≤◌, ◌==◌, Bool, true, false, not, if◌then◌else◌, List, []}
use Rattle.std.proofs.Common.{◌∷◌, ◌++◌, length, map, filter, sym, ap, refl, ◌∙◌, arith, inl, inr, subst, Contains}
use Rattle.std.proofs.Common.{eq-eqb}
use Rattle.std.specs.Prelude.{Option, Some, None}
use Rattle.std.proofs.lemmas.Bool.{cond-true}
use Rattle.std.proofs.lemmas.List.Elements.{Contains-append_left}
use Rattle.std.proofs.lemmas.List.{map-id}
use Rattle.std.proofs.lemmas.Simd.{map-map}
use Rattle.cqf_lists.specs.Lists.{each_below}
use Rattle.cqf_lists.proofs.EachBelow.{contains_below}
use Rattle.cqf_lists.proofs.Members.{contains_at, contains_cases, contains_filter, contains_from_filter}
use Rattle.cqf_lists.proofs.Members.{contains_from_map, contains_here, contains_later, contains_map, contains_none}
use Rattle.cqf_lists.proofs.Numbers.{kept_number}
use Rattle.cqf_units.proofs.Cycles.{cycle_from, cycle_upto}
use Rattle.cqf_model.specs.declared.frames.Sent.{Sent}
use Rattle.cqf_model.specs.declared.topology.Row.{Row}
use Rattle.cqf_model.specs.Book.{batch}
use Rattle.cqf_model.specs.Domain.{Domain, cycle_of, enters}
use Rattle.cqf_model.specs.Network.{IsLoss, Network, LosesNothing}
use Rattle.cqf_model.specs.Run.{Run}
use Rattle.cqf_model.specs.Table.{goes_on, row_of, table_of}
use Rattle.cqf_model.specs.Policing.{Carried, ExceedsGate, LacksRow, Policed, Queued, Received, inside_verdict, offered_at, police, police_all, policed_before}
use Rattle.cqf_model.specs.Policing.{received_at, relayed_at, sent_received, whole_at, within_gate}
use Rattle.cqf_model.proofs.LinkEnds.{enters_inside}
use Rattle.cqf_laws_cycle.specs.BridgeCycle.{BatchIsWholeInItsCycle, CycleBringsItsBatches, IsCompiledNetwork, policed_of, received_in}
use Rattle.cqf_laws_cycle.specs.RunSteps.{LossesAreOfCycles}
use Rattle.cqf_laws_shift.specs.Edge.{GateIsReservation}
use Rattle.cqf_bridge.specs.declared.faults.BridgeFault.{BridgeFault}
use Rattle.cqf_bridge.specs.declared.faults.BridgeFault.TheVariants.{Memory, OverOctets, Spent, StrangeBatch, WrongCycle}
use Rattle.cqf_bridge.specs.Batch.{LinkBatch}
use Rattle.cqf_bridge.specs.BridgeState.{BridgeState}
use Rattle.cqf_agenda.specs.Links.{links_into}
use Rattle.cqf_bridge.specs.Receiving.{AreBatchesOf, IsFirstOver, IsReceiveFault, MayCome, MayReceive, verdicts_in}
use Rattle.cqf_bridge.specs.Follows.{batch_of, batches_into, handed_in}
use Rattle.cqf_bridge.specs.Verdicts.{LosesNothingIn}
use Rattle.cqf_bridge.proofs.TakenCycles.{verdicts_are}

-- each frame that arrives gets its verdict, after some others
verdict_on : (d : Domain) (tables : List (List Row)) (bridge : ℕ) (earlier : List Policed) (xs : List Received) (x : Received) → Contains xs x →
    (before : List Policed) × Contains (police_all d tables bridge earlier xs) (police d tables bridge before x)
verdict_on d tables bridge earlier [] x h = absurd (contains_none x h)
verdict_on d tables bridge earlier (y ∷ xs) x h =
    let first = police d tables bridge earlier y in
    let rest = police_all d tables bridge (earlier ++ first ∷ []) xs in
    elim (contains_cases y xs x h) [
      | inl e ↦ (earlier, subst (λ (z : Received). Contains (first ∷ rest) (police d tables bridge earlier z)) e (contains_here first rest))
      | inr k ↦
          let r = verdict_on d tables bridge (earlier ++ first ∷ []) xs x k in
          (r.0, contains_later first rest (police d tables bridge r.0 x) r.1)
    ]

-- a frame that arrived by a link and isn't lost has a row that leads on
kept_has_row : (d : Domain) (bridge m : ℕ) (passes : Row → Bool) (found : Option Row) → (IsLoss (inside_verdict d bridge m passes found) → ⊥) →
    (row : Row) × (found ≡ Some row) × (goes_on d row (Some m) bridge ≡ true)
kept_has_row d bridge m passes None kept = absurd (kept tt)
kept_has_row d bridge m passes (Some row) kept = (row, refl, leads (goes_on d row (Some m) bridge) (passes row) kept)
  where
    -- one whose row doesn't lead on is lost
    leads : (here fits : Bool) → (IsLoss (if not here then LacksRow else (if not fits then ExceedsGate else Queued row)) → ⊥) → here ≡ true
    leads true fits stays = refl
    leads false fits stays = absurd (stays tt)

-- what a link sends in a cycle arrives at the bridge in it
comes_in_cycle : (run : Run) (carried : Carried) (cycle bridge m : ℕ) (sent : Sent) → 0 < run.domain.cycle_time → enters run.domain m bridge ≡ true →
    Contains (carried m) sent → cycle_of run.domain (whole_at run.domain m sent) ≡ cycle →
    Contains (received_in run carried bridge cycle) (sent_received run.domain m sent)
comes_in_cycle run carried cycle bridge m sent some here inside in_time =
    let d = run.domain in
    let t = whole_at d m sent in
    let x = sent_received d m sent in
    let begins = cycle * d.cycle_time in
    let same : cycle_of d t * d.cycle_time ≡ begins = ap (λ (c : ℕ). c * d.cycle_time) in_time in
    let from : begins ≤ t = omega (arith, cycle_from d.cycle_time t, same) in
    let offset = t - begins in
    let below : offset < d.cycle_time = omega (arith, cycle_upto d.cycle_time t some, same, from) in
    let at : t ≡ begins + offset = omega (arith, from) in
    let of_instant = λ (s : Sent). whole_at d m s == t in
    let kept = contains_map (sent_received d m) (filter of_instant (carried m)) sent (contains_filter of_instant (carried m) sent inside (eq-eqb t t refl)) in
    let brought : Contains (relayed_at d carried bridge t m) x =
    subst (λ (xs : List Received). Contains xs x) (sym (cond-true (enters d m bridge) (map (sent_received d m) (filter of_instant (carried m))) [] here)) kept
    in
    let at_instant : Contains (received_at run carried bridge t) x =
    Contains-append_left (each_below (relayed_at d carried bridge t) (length d.links)) (offered_at run.offers bridge t) x
    (contains_below (relayed_at d carried bridge t) (length d.links) m x (enters_inside d m bridge here) brought) in
    contains_below (λ k. received_at run carried bridge (begins + k)) d.cycle_time offset x below
    (subst (λ (n : ℕ). Contains (received_at run carried bridge n) x) at at_instant)

module _ (run : Run) (cycles cycle bridge : ℕ) (net : Network) (compiled : IsCompiledNetwork run cycles net) (none : LosesNothingIn run net bridge cycle)
    (whole : BatchIsWholeInItsCycle) where
  -- if nothing is lost there in the cycle, a frame that a link sends in it to the bridge may arrive
  unlost_frame : (m : ℕ) (sent : Sent) → enters run.domain m bridge ≡ true → Contains (batch run.domain net.carried m cycle) sent →
      MayCome run.domain bridge cycle (table_of run.tables cycle) m sent
  unlost_frame m sent here h =
      let d = run.domain in
      let x = sent_received d m sent in
      let some : 0 < d.cycle_time = omega (arith, compiled.accepted.guard_short) in
      let in_time = whole run cycles cycle m net sent compiled h in
      let sent_by_it = (contains_from_filter (λ (s : Sent). cycle_of d s.start.0 == cycle) (net.carried m) sent h).0 in
      let came = comes_in_cycle run net.carried cycle bridge m sent some here sent_by_it in_time in
      let v = verdict_on d run.tables bridge (policed_before run net.carried bridge (cycle * d.cycle_time)) (received_in run net.carried bridge cycle) x came in
      let k = kept_has_row d bridge m (λ (row : Row). within_gate d v.0 row x) (row_of (table_of run.tables (cycle_of d (whole_at d m sent))) sent.stream)
      (none (police d run.tables bridge v.0 x) v.1) in
      record {
        row = k.0;
        known = ap (λ (c : ℕ). row_of (table_of run.tables c) sent.stream) (sym in_time) ∙ k.1;
        leads_on = k.2;
        in_time = in_time;
      }

  -- and the batches that end in it are the cycle's
  pub unlost_may_come : AreBatchesOf run.domain bridge cycle (table_of run.tables cycle) (batches_into run.domain net.carried bridge cycle)
  unlost_may_come =
      let d = run.domain in
      let of_link = batch_of d net.carried cycle in
      let links = links_into d bridge in
      record {
        one_each = map-map (λ (b : LinkBatch). b.link) of_link links ∙ map-id links;
        of_cycle = λ b h. (let f = contains_from_map of_link links b h in sym (ap (λ (y : LinkBatch). y.cycle) f.2));
        frames = λ b sent h of_batch. (let f = contains_from_map of_link links b h in
            let here = (kept_number (λ l. enters d l bridge) (length d.links) f.0 f.1).1 in
            subst (λ (y : LinkBatch). MayCome d bridge cycle (table_of run.tables cycle) y.link sent) f.2
            (unlost_frame f.0 sent here (subst (λ (y : LinkBatch). Contains y.frames sent) (sym f.2) of_batch)));
      }

module _ (run : Run) (cycles cycle bridge : ℕ) (net : Network) (compiled : IsCompiledNetwork run cycles net) (loses : LosesNothing run cycles net)
    (in_cycles : cycle < cycles) (whole : BatchIsWholeInItsCycle) (losses : LossesAreOfCycles) where
  -- nothing of the cycle is lost
  pub none_lost_in : (p : Policed) → Contains (policed_of run net.carried bridge cycle) p → IsLoss p.verdict → ⊥
  none_lost_in p h lost =
      loses bridge p
      ((losses run net.carried cycles bridge p).1 (record { cycle = cycle; within_run = in_cycles; came = h; lost = lost }))

  -- so the batches that end in it are the cycle's
  pub batches_may_come : AreBatchesOf run.domain bridge cycle (table_of run.tables cycle) (batches_into run.domain net.carried bridge cycle)
  batches_may_come = unlost_may_come run cycles cycle bridge net compiled none_lost_in whole

-- and none of their frames is over its octets
pub none_over : BatchIsWholeInItsCycle → CycleBringsItsBatches → LossesAreOfCycles → GateIsReservation → (run : Run) (cycles cycle bridge frame : ℕ)
    (net : Network) → IsCompiledNetwork run cycles net → LosesNothing run cycles net → cycle < cycles →
    IsFirstOver (verdicts_in run bridge cycle (batches_into run.domain net.carried bridge cycle)) frame → ⊥
none_over whole brings losses reserves run cycles cycle bridge frame net compiled loses in_cycles over =
    let taken = verdicts_are brings reserves run cycles cycle bridge net compiled in
    let batches = batches_into run.domain net.carried bridge cycle in
    let inside : Contains (policed_of run net.carried bridge cycle) over.over =
    subst (λ (ps : List Policed). Contains ps over.over) taken (contains_at (verdicts_in run bridge cycle batches) over.index over.over over.there) in
    none_lost_in run cycles cycle bridge net compiled loses in_cycles whole losses over.over inside (subst IsLoss (sym over.exceeds) tt)

-- so a bridge that has sent the cycle refuses to receive it only if memory is refused
pub memory_alone : BatchIsWholeInItsCycle → CycleBringsItsBatches → LossesAreOfCycles → GateIsReservation → (run : Run) (cycles cycle : ℕ) (net : Network)
    (before after : BridgeState) (fault : BridgeFault) → IsCompiledNetwork run cycles net → LosesNothing run cycles net →
    before.domain ≡ run.domain → MayReceive before cycle (handed_in run net before.number cycle) → cycle < cycles →
    IsReceiveFault run before after cycle (handed_in run net before.number cycle) fault → fault ≡ Memory
memory_alone whole brings losses reserves run cycles cycle net before after Spent compiled loses domain may in_cycles h =
    absurd (cc (h.0, may.not_spent))
memory_alone whole brings losses reserves run cycles cycle net before after WrongCycle compiled loses domain may in_cycles h =
    absurd (h.1 may.next)
memory_alone whole brings losses reserves run cycles cycle net before after StrangeBatch compiled loses domain may in_cycles h =
    let d = run.domain in
    let batches = batches_into d net.carried before.number cycle in
    absurd (h.1 (subst (λ (x : Domain). AreBatchesOf x before.number cycle (table_of run.tables cycle) batches) (sym domain)
    (batches_may_come run cycles cycle before.number net compiled loses in_cycles whole losses)))
memory_alone whole brings losses reserves run cycles cycle net before after (OverOctets frame) compiled loses domain may in_cycles h =
    absurd (none_over whole brings losses reserves run cycles cycle before.number frame net compiled loses in_cycles h.1)
memory_alone whole brings losses reserves run cycles cycle net before after Memory compiled loses domain may in_cycles h = refl
