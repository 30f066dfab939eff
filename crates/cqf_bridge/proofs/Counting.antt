-- What the gate of a reservation has counted and passes, by the cycle.
use Rattle.std.proofs.Common.{◌≡◌, ◌+◌, ◌*◌, ◌<◌, ℕ, Bool, true, false, List, [], ◌∷◌, sym, refl, ap, ap₂, ◌∙◌, Option, None, Some, arith}
use Rattle.std.specs.Prelude.{◌==◌, if◌then◌else◌, nat_le}
use Rattle.std.proofs.Math.Nat.{mul-div_cancel}
use Rattle.std.proofs.lemmas.List.Sums.{sum_by-cons}
use Rattle.cqf_units.specs.Timing.{cycle_at}
use Rattle.cqf_model.specs.declared.gates.StreamEntry.{StreamEntry}
use Rattle.cqf_model.specs.declared.topology.Pace.{Pace}
use Rattle.cqf_model.specs.Paces.{is_active}
use Rattle.cqf_model.specs.StreamGate.{PassedFrame, octets_in, same_interval, stream_list}
use Rattle.cqf_model.proofs.Reservations.{max_of_reservation, within_reservation}
use Rattle.cqf_gates.specs.StreamGate.{Gate, gate_after, lets_pass, taken_at, taken_with}
use Rattle.cqf_laws_cycle.specs.Compiled.{GateCountsCycles}
use Rattle.cqf_bridge.specs.declared.cycle_gate.KeptGate.{KeptGate}
use Rattle.cqf_bridge.specs.Gates.{counted_by, gate_or, octets_of_cycle}

module _ (counts : GateCountsCycles) (n reserved : ℕ) (pace : Pace) (hop_number : ℕ) (some : 0 < n) where
  -- the gate's list, and what it passes in a cycle
  abbrev entries : List StreamEntry
  entries = stream_list n reserved pace hop_number

  abbrev most : ℕ → ℕ
  most t = if is_active pace hop_number (cycle_at n t) then reserved else 0

  -- it has counted what is kept of the cycle
  pub counted_at : (found : Option KeptGate) (t : ℕ) → taken_at (gate_or n entries found) t ≡ counted_by found (cycle_at n t)
  counted_at None t = nothing (same_interval entries 0 t)
    where
      -- in both cases nothing
      nothing : (b : Bool) → ◌≡◌ {A = ℕ} (if b then 0 else 0) 0
      nothing true = refl
      nothing false = refl
  counted_at (Some k) t =
      ap (λ (b : Bool). if b then k.taken else 0)
      (counts n reserved pace hop_number (k.cycle * n) t some ∙ ap (λ (c : ℕ). c == cycle_at n t) (mul-div_cancel k.cycle some))

  -- and so do the definitions of calls
  pub octets_by_cycle : (calls : List PassedFrame) (t : ℕ) → octets_in entries calls t ≡ octets_of_cycle n (cycle_at n t) calls
  octets_by_cycle [] t = refl
  octets_by_cycle (call ∷ calls) t =
      let here = ap (λ (b : Bool). if b then call.1 else 0) (counts n reserved pace hop_number call.0 t some) in
      sum_by-cons (λ (c : PassedFrame). if same_interval entries c.0 t then c.1 else 0) call calls
      ∙ ap₂ (λ (a b : ℕ). a + b) here (octets_by_cycle calls t)
      ∙ sym (sum_by-cons (λ (c : PassedFrame). if cycle_at n c.0 == cycle_at n t then c.1 else 0) call calls)

  module _ (found : Option KeptGate) (t octets : ℕ) where
    abbrev gate : Gate
    gate = gate_or n entries found

    -- the octets counted in the cycle when a frame arrives
    abbrev counted : ℕ
    counted = counted_by found (cycle_at n t)

    -- the frame passes if it is within what is reserved
    pub passes_within : lets_pass gate t octets ≡ nat_le (counted + octets) (most t)
    passes_within =
        within_reservation n reserved pace hop_number t some (taken_at gate t + octets)
        ∙ ap (λ (k : ℕ). nat_le (k + octets) (most t)) (counted_at found t)

    -- and the octets counted after it
    pub taken_after : (gate_after gate t octets).taken ≡ (if nat_le (counted + octets) (most t) then counted + octets else counted)
    taken_after = ap₂ (λ (o : Option ℕ) (k : ℕ). taken_with o k octets) (max_of_reservation n reserved pace hop_number t some) (counted_at found t)

    -- if it passes, it is counted
    pub counted_more : (gate_after gate t octets).taken ≡ counted + (if lets_pass gate t octets then octets else 0)
    counted_more =
        taken_after
        ∙ added_if (nat_le (counted + octets) (most t))
        ∙ ap (λ (b : Bool). counted + (if b then octets else 0)) (sym passes_within)
      where
        -- what is added by a test
        added_if : (b : Bool) → (if b then counted + octets else counted) ≡ counted + (if b then octets else 0)
        added_if true = refl
        added_if false = omega arith
