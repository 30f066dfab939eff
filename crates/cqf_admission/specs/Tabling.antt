-- The data from which tables are made.
use Rattle.std.specs.Prelude.{ℕ, ◌≡◌, ◌<◌, ◌≤◌, ◌&&◌, Bool, Contains, List, not, true}
use Rattle.cqf_model.specs.declared.topology.Row.{Row}
use Rattle.cqf_model.specs.Domain.{Domain}
use Rattle.cqf_model.specs.History.{Recorded, held_in, next_number, seals}
use Rattle.cqf_admission.specs.Numbers.{IsNumbered}
use Rattle.cqf_admission.specs.State.{Figures, IsStateOf}

-- the rows of the last table, whether these are still the held ones, and the numbers by which streams with numbers below `below` are found
pub record Tables : Type 0 where
  pub listed : List Row
  pub is_current : Bool
  pub numbers : List (List ℕ × ℕ)
  pub below : ℕ

-- this data fits a history
pub record AreTablesOf (d : Domain) (entries : List Recorded) (tables : Tables) : Type 0 where
  pub current : tables.is_current ≡ true → tables.listed ≡ held_in d entries (seals entries)
  pub numbered : (row : Row) → Contains (held_in d entries (seals entries)) row → row.no < tables.below → IsNumbered tables.numbers row
  pub accepted : tables.below ≤ next_number d entries

-- this data fits some history with this state
pub record SomeTables (figures : Figures) (tables : Tables) : Type 0 where
  pub domain : Domain
  pub entries : List Recorded
  pub is : IsStateOf domain entries figures
  pub are : AreTablesOf domain entries tables

-- it is recorded whether the held rows have changed
pub record IsNoted (before after : Tables) (changed : Bool) : Type 0 where
  pub listed : after.listed ≡ before.listed
  pub current : after.is_current ≡ (before.is_current && not changed)
  pub numbers : after.numbers ≡ before.numbers
  pub below : after.below ≡ before.below
