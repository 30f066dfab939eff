-- The history of a desk at which administrators make the requested calls, and one more seat seals.
use Rattle.std.specs.Prelude.{ℕ, ◌≡◌, ◌+◌, List, Contains, Some, false, length, replicate, slice_get}
use Rattle.cqf_model.specs.Domain.{Domain}
use Rattle.cqf_model.specs.History.{Act, Recorded, Seals, is_seal, seals}
use Rattle.cqf_model.specs.Calls.{IsHistoryOf, acts_of}
use Rattle.cqf_desk.specs.Closing.{IsOfSeats}
use Rattle.cqf_desk.specs.Desk.{Sitting}
use Rattle.cqf_laws_account.specs.Sealing.{cycle_tables}

-- among the seats, each administrator's has made the calls that were requested from the administrator, and the next one has sealed this
-- many cycles
pub record AreSeated (asked : List (List Act)) (cycles : ℕ) (seats : List Sitting) : Type 0 where
  pub calls : (admin : ℕ) (acts : List Act) → slice_get asked admin ≡ Some acts →
      (s : Sitting) × Contains seats s × (s.number ≡ admin) × (acts_of s.calls ≡ acts)
  pub conductor : Sitting
  pub among : Contains seats conductor
  pub next : conductor.number ≡ length asked
  pub sealed : acts_of conductor.calls ≡ replicate cycles Seals
  pub tables : length conductor.tables ≡ cycles

-- no Seal is requested from an administrator
abbrev pub AsksForNoSeal : List (List Act) → Type 0
AsksForNoSeal asked = (acts : List Act) (act : Act) → Contains asked acts → Contains acts act → is_seal act ≡ false

-- the history has exactly this many Seals, and the conductor's tables are those of its cycles
pub record ClosesItsCycles (d : Domain) (entries : List Recorded) (cycles : ℕ) (conductor : Sitting) : Type 0 where
  pub sealed : seals entries ≡ cycles
  pub tables : conductor.tables ≡ cycle_tables d entries cycles

-- the history that such seats confirm is a history of the requested calls
abbrev pub SeatsGiveTheHistory : Type 0
SeatsGiveTheHistory = (d : Domain) (opening : List Recorded) (asked : List (List Act)) (cycles : ℕ) (seats : List Sitting) (entries : List Recorded) →
    IsOfSeats opening d (length asked + 1) seats entries → AreSeated asked cycles seats → IsHistoryOf d opening asked cycles entries

-- the conductor has the tables of its cycles if the opening part has no Seal
abbrev pub ConductorHasTheTables : Type 0
ConductorHasTheTables = (d : Domain) (opening : List Recorded) (asked : List (List Act)) (cycles : ℕ) (seats : List Sitting) (entries : List Recorded) →
    IsOfSeats opening d (length asked + 1) seats entries → (seated : AreSeated asked cycles seats) → AsksForNoSeal asked → seals opening ≡ 0 →
    ClosesItsCycles d entries cycles seated.conductor
