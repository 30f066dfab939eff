-- Laws about which streams a table has, in a planner's words.
use Rattle.std.specs.Prelude.{ℕ, true, ◌≡◌, ◌+◌, ◌≤◌, ◌<◌, ◌↔◌, List, Some, None}
use Rattle.cqf_units.specs.declared.reservations.Cycle.{Cycle}
use Rattle.cqf_model.specs.declared.history.Reply.{Reply}
use Rattle.cqf_model.specs.declared.topology.Row.{Row}
use Rattle.cqf_model.specs.Domain.{Domain}
use Rattle.cqf_model.specs.History.{Act, Recorded, seals, table_at}
use Rattle.cqf_model.specs.Table.{is_held, is_live, residence}
use Rattle.cqf_laws_history.specs.StateLaws.{with_entry}

-- a withdrawn stream is held from its admission until `residence` cycles after its withdrawal: as many cycles as the greatest hop number of
-- its links, and not a cycle longer
abbrev pub WithdrawnIsHeldForItsTree : Type 0
WithdrawnIsHeldForItsTree =
    (row : Row) (cycle : ℕ) (w : Cycle) → row.withdrawn ≡ Some w →
    (is_held row cycle ≡ true ↔ ((row.admitted.0 ≤ cycle) × (cycle < w.0 + residence row)))

-- a stream that isn't withdrawn is held from the cycle of its admission on
abbrev pub OtherwiseItIsHeldOn : Type 0
OtherwiseItIsHeldOn =
    (row : Row) (cycle : ℕ) → row.withdrawn ≡ None → (is_held row cycle ≡ true ↔ (row.admitted.0 ≤ cycle))

-- a withdrawn stream is live in exactly the cycles from its admission until before its withdrawal
abbrev pub WithdrawnIsLiveUntilThen : Type 0
WithdrawnIsLiveUntilThen =
    (row : Row) (cycle : ℕ) (w : Cycle) → row.withdrawn ≡ Some w →
    (is_live row cycle ≡ true ↔ ((row.admitted.0 ≤ cycle) × (cycle < w.0)))

-- a stream that isn't withdrawn is live from the cycle of its admission on
abbrev pub OtherwiseItIsLive : Type 0
OtherwiseItIsLive =
    (row : Row) (cycle : ℕ) → row.withdrawn ≡ None → (is_live row cycle ≡ true ↔ (row.admitted.0 ≤ cycle))

-- no later call changes the table of a closed cycle
abbrev pub ClosedTablesStay : Type 0
ClosedTablesStay =
    (d : Domain) (entries : List Recorded) (seat : ℕ) (act : Act) (reply : Reply) (cycle : ℕ) → cycle < seals entries →
    table_at d (with_entry entries seat act reply) cycle ≡ table_at d entries cycle
