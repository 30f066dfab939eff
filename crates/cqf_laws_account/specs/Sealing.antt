-- A history in which one seat makes all Seals.
use Rattle.std.specs.Prelude.{ℕ, ◌≡◌, ◌≤◌, List, ◌∷◌, [], Contains, drop, length, take, true}
use Rattle.cqf_lists.specs.Lists.{each_below}
use Rattle.cqf_model.specs.Domain.{Domain}
use Rattle.cqf_model.specs.History.{Recorded, is_seal, seals, table_at}
use Rattle.cqf_admission.specs.Tables.{CycleTable}
use Rattle.cqf_desk.specs.Closing.{tables_by}

-- the opening part has no Seal, and after it each Seal is the seat's
pub record SealsAlone (entries : List Recorded) (first number : ℕ) : Type 0 where
  pub begins : first ≤ length entries
  pub none_before : seals (take first entries) ≡ 0
  pub its_own : (e : Recorded) → Contains (drop first entries) e → is_seal e.act ≡ true → e.seat ≡ number

-- the tables of a history's cycles, each with the number of its cycle
abbrev pub cycle_tables : Domain → List Recorded → ℕ → List CycleTable
cycle_tables d entries cycles = each_below (λ cycle. record { cycle = cycle; rows = table_at d entries cycle } ∷ []) cycles

-- the tables that the seat closes are those of all cycles of the history
abbrev pub OneSeatClosesAllTables : Type 0
OneSeatClosesAllTables = (d : Domain) (entries : List Recorded) (first number : ℕ) → SealsAlone entries first number →
    tables_by d entries first number ≡ cycle_tables d entries (seals entries)
