-- What arrives at a bridge and at its ports in a cycle follows what arrived before it, and so do the verdicts on it.
use Rattle.std.proofs.Common.{◌≡◌, ℕ, ◌+◌, ◌*◌, ◌<◌, ◌≤◌, Bool, List, sym, ap, ◌∙◌, arith, append_assoc, append-nil, eq-eqb, ne_eqb, Contains}
use Rattle.std.specs.Prelude.{[], ◌++◌, ◌==◌, filter, false, suc}
use Rattle.std.specs.List.{flat_map}
use Rattle.std.proofs.Math.Nat.{mul-le-mul_right}
use Rattle.std.proofs.lemmas.Bool.{and_left}
use Rattle.std.proofs.lemmas.List.Concat.{flat_map-append}
use Rattle.std.proofs.lemmas.List.Elements.{filter-append}
use Rattle.std.proofs.lemmas.Nat.{le-div}
use Rattle.cqf_lists.proofs.EachBelow.{below_plus, filter_each, filter_none, same_below}
use Rattle.cqf_lists.proofs.Members.{contains_from_flat}
use Rattle.cqf_units.proofs.Cycles.{cycle_from, takes_time}
use Rattle.cqf_model.specs.declared.frames.Dropped.{Dropped}
use Rattle.cqf_model.specs.Book.{drop_by, drops_in, is_of_index}
use Rattle.cqf_model.specs.Domain.{bridge_of, cycle_of}
use Rattle.cqf_model.specs.Network.{QueuedFrame, backed_in, comes_before, queued_by, queued_in, queued_to}
use Rattle.cqf_model.specs.Run.{Run}
use Rattle.cqf_model.specs.Policing.{Carried, Policed, police_all, policed_before, received_at, received_before}
use Rattle.cqf_model.proofs.Coming.{before_when, policed_front, queued_when}
use Rattle.cqf_model.proofs.InCycle.{received_in_when}
use Rattle.cqf_model.proofs.Policing.{police_member, police_more}
use Rattle.cqf_laws_cycle.specs.BridgeCycle.{policed_in, policed_of, received_in}
use Rattle.cqf_laws_cycle.specs.PortCycle.{waits_in}

module _ (run : Run) (carried : Carried) where
  -- the verdicts on all that arrived at a bridge before a cycle
  abbrev so_far : ℕ → ℕ → List Policed
  so_far bridge cycle = policed_before run carried bridge (cycle * run.domain.cycle_time)

  -- a frame that arrives in a cycle is of the cycle
  pub policed_when : (bridge cycle : ℕ) (earlier : List Policed) (p : Policed) → Contains (policed_in run carried bridge cycle earlier) p →
      cycle_of run.domain p.received.at ≡ cycle
  policed_when bridge cycle earlier p h =
      received_in_when run carried bridge cycle p.received (police_member run.domain run.tables bridge earlier (received_in run carried bridge cycle) p h)

  -- a frame that arrived before a cycle isn't
  came_before : (bridge cycle : ℕ) (p : Policed) → Contains (so_far bridge cycle) p → p.received.at < cycle * run.domain.cycle_time
  came_before bridge cycle p h =
      let begins = cycle * run.domain.cycle_time in
      before_when run carried bridge begins p.received (police_member run.domain run.tables bridge [] (received_before run carried bridge begins) p h)

  -- a bridge goes on from cycle to cycle
  pub goes_on : (bridge cycle : ℕ) → so_far bridge (cycle + 1) ≡ so_far bridge cycle ++ policed_of run carried bridge cycle
  goes_on bridge cycle =
      let d = run.domain in
      let begins = cycle * d.cycle_time in
      let ends : (cycle + 1) * d.cycle_time ≡ begins + d.cycle_time = omega arith in
      ap (policed_before run carried bridge) ends
      ∙ ap (police_all d run.tables bridge []) (below_plus (received_at run carried bridge) begins d.cycle_time)
      ∙ police_more d run.tables bridge [] (received_before run carried bridge begins) (received_in run carried bridge cycle)

  -- what its bridge queues to a port in a cycle
  abbrev own : ℕ → ℕ → List QueuedFrame
  own l cycle = queued_to run.domain l (policed_of run carried (bridge_of run.domain l) cycle)

  -- among what is queued by the end of a cycle, that of the cycle
  pub queued_in_cycle : (l cycle : ℕ) → queued_in run carried l cycle ≡ own l cycle
  queued_in_cycle l cycle =
      let d = run.domain in
      let bridge = bridge_of d l in
      let of_cycle = λ (x : QueuedFrame). cycle_of d x.arrival.at.0 == cycle in
      let by = λ (p : Policed). queued_by d l p.received p.verdict in
      let before = queued_to d l (so_far bridge cycle) in
      let none : filter of_cycle before ≡ [] =
      filter_none of_cycle before (λ q h.
      let w = contains_from_flat by (so_far bridge cycle) q h in
      let at = queued_when d l w.0.received w.0.verdict q w.2 in
      ne_eqb (cycle_of d q.arrival.at.0) cycle (λ e.
      omega (arith, came_before bridge cycle w.0 w.1, at, cycle_from d.cycle_time q.arrival.at.0, ap (λ (c : ℕ). c * d.cycle_time) e))) in
      let all : filter of_cycle (own l cycle) ≡ own l cycle =
      filter_each of_cycle (own l cycle) (λ q h.
      let w = contains_from_flat by (policed_of run carried bridge cycle) q h in
      let at = queued_when d l w.0.received w.0.verdict q w.2 in
      eq-eqb (cycle_of d q.arrival.at.0) cycle (ap (cycle_of d) at ∙ policed_when bridge cycle (so_far bridge cycle) w.0 w.1)) in
      ap (λ (ps : List Policed). filter of_cycle (queued_to d l ps)) (goes_on bridge cycle)
      ∙ ap (filter of_cycle) (flat_map-append by (so_far bridge cycle) (policed_of run carried bridge cycle))
      ∙ filter-append of_cycle before (own l cycle)
      ∙ ap (λ (qs : List QueuedFrame). qs ++ filter of_cycle (own l cycle)) none
      ∙ all

  -- a port goes on from cycle to cycle, by what is queued in the cycle
  pub waits_on : (l cycle : ℕ) → comes_before run carried l (cycle + 1) ≡ waits_in run carried l cycle ++ queued_in run carried l cycle
  waits_on l cycle =
      let e : cycle + 1 ≡ suc cycle = omega arith in
      ap (comes_before run carried l) e
      ∙ sym (append_assoc (comes_before run carried l cycle) (backed_in run.domain run.background l cycle) (queued_in run carried l cycle))

  -- and by what its bridge queues to it
  pub port_goes_on : (l cycle : ℕ) → comes_before run carried l (cycle + 1) ≡ waits_in run carried l cycle ++ own l cycle
  port_goes_on l cycle = waits_on l cycle ∙ ap (λ (qs : List QueuedFrame). waits_in run carried l cycle ++ qs) (queued_in_cycle l cycle)

  module _ (cycles cycle bridge index : ℕ) (within_run : cycle < cycles) where
    -- whether a frame is of the cycle and of the offer at the index
    abbrev test : Policed → Bool
    test = is_of_index run.domain cycle index

    -- one of another cycle isn't
    fails : (p : Policed) → (cycle_of run.domain p.received.at ≡ cycle → ⊥) → test p ≡ false
    fails p differ = and_left (cycle_of run.domain p.received.at == cycle) (p.received.frame == index + 1)
        (ne_eqb (cycle_of run.domain p.received.at) cycle differ)

    -- nor is an earlier one
    none_earlier : filter test (so_far bridge cycle) ≡ []
    none_earlier =
        filter_none test (so_far bridge cycle) (λ p h. fails p (λ e.
        omega (arith, came_before bridge cycle p h, cycle_from run.domain.cycle_time p.received.at, ap (λ (c : ℕ). c * run.domain.cycle_time) e)))

    -- all frames of the cycle arrive in it
    of_the_cycle : filter test (so_far bridge cycles) ≡ filter test (policed_of run carried bridge cycle)
    of_the_cycle =
        let d = run.domain in
        let these = policed_of run carried bridge cycle in
        let f = policed_front run carried bridge ((cycle + 1) * d.cycle_time) (cycles * d.cycle_time)
        (mul-le-mul_right d.cycle_time (omega (arith, within_run))) in
        let later : filter test f.rest ≡ [] =
        filter_none test f.rest (λ p h. fails p (λ e.
        let when = f.late p h in
        let after : cycle + 1 ≤ cycle_of d p.received.at =
        le-div (cycle + 1) p.received.at d.cycle_time (takes_time d.cycle_time p.received.at cycles when.1) when.0 in
        omega (arith, after, e))) in
        ap (filter test) f.is
        ∙ filter-append test (so_far bridge (cycle + 1)) f.rest
        ∙ ap (λ (ps : List Policed). filter test (so_far bridge (cycle + 1)) ++ ps) later
        ∙ append-nil (filter test (so_far bridge (cycle + 1)))
        ∙ ap (filter test) (goes_on bridge cycle)
        ∙ filter-append test (so_far bridge cycle) these
        ∙ ap (λ (ps : List Policed). ps ++ filter test these) none_earlier

  -- so the drops of a cycle are among what arrives in it
  pub drops_of_the_cycle : (cycles cycle bridge indices : ℕ) → cycle < cycles →
      drops_in run.domain indices (λ b. so_far b cycles) cycle bridge ≡ drops_in run.domain indices (λ b. policed_of run carried b cycle) cycle bridge
  drops_of_the_cycle cycles cycle bridge indices within_run =
      let dropped : List Policed → List Dropped = flat_map (λ (p : Policed). drop_by cycle bridge p.received p.verdict) in
      let these = policed_of run carried bridge cycle in
      same_below (λ index. dropped (filter (is_of_index run.domain cycle index) (so_far bridge cycles)))
      (λ index. dropped (filter (is_of_index run.domain cycle index) these)) indices
      (λ index l. ap dropped (of_the_cycle cycles cycle bridge index within_run))
