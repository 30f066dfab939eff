-- The stream gates that a bridge keeps from cycle to cycle, and their effect on a frame.
use Rattle.std.specs.Prelude.{ℕ, ◌≡◌, ◌<◌, ◌*◌, ◌==◌, List, [], ◌∷◌, if◌then◌else◌, Contains, Option, None, Some, find, sum_by}
use Rattle.std.specs.Option.{option_map_or}
use Rattle.cqf_units.specs.Timing.{cycle_at}
use Rattle.cqf_model.specs.declared.gates.StreamEntry.{StreamEntry}
use Rattle.cqf_model.specs.declared.topology.Row.{Row}
use Rattle.cqf_model.specs.Domain.{Domain}
use Rattle.cqf_model.specs.StreamGate.{PassedFrame}
use Rattle.cqf_model.specs.Policing.{Policed, calls_of, gate_list_after}
use Rattle.cqf_gates.specs.StreamGate.{Gate, gate_after}
use Rattle.cqf_bridge.specs.declared.cycle_gate.KeptGate.{KeptGate}

-- the gate that is kept for a number; and the octets that it has counted in a cycle, since each cycle is counted anew
abbrev pub kept_of : List KeptGate → ℕ → Option KeptGate
kept_of gates number = find (λ (k : KeptGate). k.number == number) gates

abbrev pub counted_by : Option KeptGate → ℕ → ℕ
counted_by None cycle = 0
counted_by (Some kept) cycle = if kept.cycle == cycle then kept.taken else 0

-- the octets counted for a number in a cycle
abbrev pub counted_in : List KeptGate → ℕ → ℕ → ℕ
counted_in gates number cycle = counted_by (kept_of gates number) cycle

-- the gate with a gate list and the kept count, last called at the beginning of its cycle; it has seen no frame if none is kept
abbrev pub gate_or : ℕ → List StreamEntry → Option KeptGate → Gate
gate_or cycle_time entries found = record {
  entries = entries;
  last = option_map_or (λ (k : KeptGate). k.cycle * cycle_time) found 0;
  taken = option_map_or (λ (k : KeptGate). k.taken) found 0;
}

-- the gate for a row's stream after a link, or at the edge
abbrev pub gate_in : Domain → List KeptGate → Row → Option ℕ → Gate
gate_in d gates row ingress = gate_or d.cycle_time (gate_list_after d row ingress) (kept_of gates row.no)

-- the kept state of a number's gate after a frame
abbrev pub kept_after : ℕ → ℕ → Gate → ℕ → ℕ → KeptGate
kept_after cycle_time number gate t octets = record { number = number; cycle = cycle_at cycle_time t; taken = (gate_after gate t octets).taken }

-- a gate replaces the one of its number, or is appended if there is none
abbrev pub with_gate : List KeptGate → KeptGate → List KeptGate
with_gate [] gate = gate ∷ []
with_gate (k ∷ gates) gate = if k.number == gate.number then gate ∷ gates else k ∷ with_gate gates gate

-- each gate was last called before a cycle
abbrev pub AreKept : ℕ → List KeptGate → Type 0
AreKept cycle gates = (k : KeptGate) → Contains gates k → k.cycle < cycle

-- the octets of the calls in a cycle
abbrev pub octets_of_cycle : ℕ → ℕ → List PassedFrame → ℕ
octets_of_cycle cycle_time cycle calls = sum_by (λ (call : PassedFrame). if cycle_at cycle_time call.0 == cycle then call.1 else 0) calls

-- in this cycle the gates have counted the frames that went on
abbrev pub HaveCounted : Domain → ℕ → List Policed → List KeptGate → Type 0
HaveCounted d cycle policed gates =
    (number : ℕ) → counted_in gates number cycle ≡ octets_of_cycle d.cycle_time cycle (calls_of d.overhead number policed)
