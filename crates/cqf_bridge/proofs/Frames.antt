-- A row's gate's verdict on a frame, and its state after the frame.
use Rattle.std.proofs.Common.{◌≡◌, ◌+◌, ◌≤◌, ◌<◌, ℕ, Bool, sym, ap, ◌∙◌, Some}
use Rattle.std.specs.Prelude.{◌==◌, if◌then◌else◌, nat_le}
use Rattle.std.proofs.lemmas.Bool.{cond-false, cond-true, le-leb, lt-leb}
use Rattle.cqf_units.specs.Timing.{cycle_at}
use Rattle.cqf_model.specs.declared.topology.Row.{Row}
use Rattle.cqf_model.specs.Paces.{is_active}
use Rattle.cqf_model.specs.StreamGate.{gate_class, stream_list}
use Rattle.cqf_model.specs.Table.{reserved_in}
use Rattle.cqf_gates.specs.StreamGate.{Gate, lets_pass, verdict_on}
use Rattle.cqf_gates.specs.declared.streams.Passed.TheVariants.{Class, OverOctets}
use Rattle.cqf_laws_cycle.specs.Compiled.{GateCountsCycles, GateGivesClass, given_class}
use Rattle.cqf_bridge.specs.declared.cycle_gate.KeptGate.{KeptGate}
use Rattle.cqf_bridge.specs.Gates.{gate_or, kept_after}
use Rattle.cqf_bridge.proofs.Counting.{passes_within, taken_after}

-- a kept gate of a number, and a frame of a row's stream in a cycle, at a hop number, when a number of octets is counted
module _ (counts : GateCountsCycles) (n : ℕ) (row : Row) (hop_number : ℕ) (kept : KeptGate) (t octets cycle taken : ℕ) (some : 0 < n)
    (here : cycle ≡ cycle_at n t) (is : taken ≡ (if kept.cycle == cycle then kept.taken else 0)) where
  abbrev gate : Gate
  gate = gate_or n (stream_list n row.octets row.pace hop_number) (Some kept)

  -- what is reserved for it, and whether it is within that
  abbrev most : ℕ
  most = reserved_in row hop_number cycle

  abbrev fits : Bool
  fits = nat_le (taken + octets) most

  -- so it is by the gate
  is_counted : (if kept.cycle == cycle_at n t then kept.taken else 0) ≡ taken
  is_counted = ap (λ (c : ℕ). if kept.cycle == c then kept.taken else 0) (sym here) ∙ sym is

  is_reserved : (if is_active row.pace hop_number (cycle_at n t) then row.octets else 0) ≡ most
  is_reserved = ap (reserved_in row hop_number) (sym here)

  passes : lets_pass gate t octets ≡ fits
  passes =
      passes_within counts n row.octets row.pace hop_number some (Some kept) t octets
      ∙ (λ i. nat_le (is_counted i + octets) (is_reserved i))

  -- the state after it
  abbrev kept_with : ℕ → KeptGate
  kept_with sum = record { number = kept.number; cycle = cycle; taken = sum }

  following : (sum : ℕ) → (if fits then taken + octets else taken) ≡ sum → kept_with sum ≡ kept_after n kept.number gate t octets
  following sum e =
      let is_taken = taken_after counts n row.octets row.pace hop_number some (Some kept) t octets
      ∙ (λ i. if nat_le (is_counted i + octets) (is_reserved i) then is_counted i + octets else is_counted i)
      ∙ e in
      λ i. record { number = kept.number; cycle = here i; taken = sym is_taken i }

  -- a frame that isn't within it doesn't pass, and uses no octets
  pub over : most < taken + octets → (OverOctets ≡ verdict_on gate t octets) × (kept_with taken ≡ kept_after n kept.number gate t octets)
  over more =
      let test = lt-leb (taken + octets) most more in (
        sym (cond-false (lets_pass gate t octets) (Class (gate_class gate.entries t)) OverOctets (passes ∙ test)),
        following taken (cond-false fits (taken + octets) taken test),
      )

  -- one that is within it gets the class of the cycle, and counts
  pub within_it : GateGivesClass → (class : ℕ) → class ≡ given_class cycle → taken + octets ≤ most → (sum : ℕ) → sum ≡ taken + octets →
      (Class class ≡ verdict_on gate t octets) × (kept_with sum ≡ kept_after n kept.number gate t octets)
  within_it gives class given less sum adds =
      let test = le-leb (taken + octets) most less in (
        ap Class (given ∙ ap given_class here ∙ sym (gives n row.octets row.pace hop_number t some))
            ∙ sym (cond-true (lets_pass gate t octets) (Class (gate_class gate.entries t)) OverOctets (passes ∙ test)),
        following sum (cond-true fits (taken + octets) taken test ∙ sym adds),
      )
