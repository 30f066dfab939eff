-- The state of a ledger as its callers see it, and what its calls do.
use Rattle.std.specs.Prelude.{ℕ, ◌≡◌, ◌+◌, ◌≤◌, ◌<◌, List, Result, Ok, Err, filter}
use Rattle.cqf_units.specs.declared.reservations.Cycle.{Cycle}
use Rattle.cqf_model.specs.declared.history.Reply.TheVariants.{Sealed}
use Rattle.cqf_model.specs.declared.topology.Row.{Row}
use Rattle.cqf_model.specs.History.{Asked, Recorded, Seals, seals}
use Rattle.cqf_model.specs.Table.{is_held}
use Rattle.cqf_laws_history.specs.StateLaws.{with_entry}
use Rattle.cqf_admission.specs.Orders.{act_in}
use Rattle.cqf_admission.specs.declared.entries.SealFault.{SealFault}
use Rattle.cqf_admission.specs.declared.entries.SealFault.TheVariants as fault
use Rattle.cqf_admission.specs.Admission.{Administration, held_of}
use Rattle.cqf_admission.specs.declared.logs.Logged.{Logged}
use Rattle.cqf_model.specs.Limits.{most_cycles}

-- a ledger: the administration that it keeps, and what its entries refer to: requests, and a script's text
pub record Kept : Type 0 where
  pub administration : Administration
  pub requests : List Asked
  pub script : List ℕ

-- an entry of a log as the definitions have it
abbrev pub recorded_in : List Asked → List ℕ → Logged → Recorded
recorded_in requests script logged = record { seat = logged.seat; act = act_in requests script logged.what; reply = logged.reply }

-- what a Seal does: it enters itself, closes the next cycle, and releases the held streams whose last frame has left by the cycle after
-- that. A refused Seal changes nothing
abbrev pub ClosesCycle : Administration → Administration → ℕ → Result Cycle SealFault → Type 0
ClosesCycle old new seat (Ok cycle) =
    (seals old.entries < most_cycles) × (new.domain ≡ old.domain) × (new.entries ≡ with_entry old.entries seat Seals Sealed) ×
    (cycle.0 ≡ seals old.entries) × (held_of new ≡ filter (λ (row : Row). is_held row (seals old.entries + 1)) (held_of old))
ClosesCycle old new seat (Err fault.CyclesSpent) = (most_cycles ≤ seals old.entries) × (new ≡ old)
ClosesCycle old new seat (Err fault.Memory) = (seals old.entries < most_cycles) × (new ≡ old)
