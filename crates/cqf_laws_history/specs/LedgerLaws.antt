-- Laws about the ends of streams, for an administration that keeps figures instead of rows.
use Rattle.std.specs.Prelude.{ℕ, ◌≡◌, ◌+◌, ◌<◌, ◌≤◌, ◌%◌, List, Bool, false, not, ◌==◌, filter, Contains, Some}
use Rattle.std.specs.Option.{option_map_or}
use Rattle.cqf_units.specs.declared.reservations.Cycle.{Cycle}
use Rattle.cqf_model.specs.declared.topology.Row.{Row}
use Rattle.cqf_model.specs.Domain.{Domain}
use Rattle.cqf_model.specs.History.{IsLegalHistory, Recorded, seals}
use Rattle.cqf_model.specs.Table.{is_held, residence}
use Rattle.cqf_laws_history.specs.StateLaws.{IsState}

-- the first cycle in which a withdrawn row is no longer held, and whether it is this one
abbrev pub end_from : Row → Cycle → ℕ
end_from row withdrawn = withdrawn.0 + residence row

abbrev pub ends_in : ℕ → Row → Bool
ends_in cycle row = option_map_or (λ (w : Cycle). end_from row w == cycle) row.withdrawn false

-- whether a row is withdrawn and its end falls into this one of 128 slots
abbrev pub is_in_slot : ℕ → Row → Bool
is_in_slot slot row = option_map_or (λ (w : Cycle). end_from row w % 128 == slot) row.withdrawn false

-- among the streams that are held in a cycle, a Seal lets go exactly those that end in the next cycle
abbrev pub SealLetsGoThoseThatEnd : Type 0
SealLetsGoThoseThatEnd =
    (d : Domain) (entries : List Recorded) (rows : List Row) (next : ℕ) → IsState d entries rows next →
    filter (λ (row : Row). is_held row (seals entries + 1)) rows ≡ filter (λ (row : Row). not (ends_in (seals entries + 1) row)) rows

-- a stream was withdrawn no later than this cycle, and ends after it, by at most 64 cycles
pub record IsSoon (row : Row) (cycle : ℕ) (withdrawn : Cycle) : Type 0 where
  pub begun : withdrawn.0 ≤ cycle
  pub later : cycle < end_from row withdrawn
  pub soon : end_from row withdrawn ≤ cycle + 64

abbrev pub EndsAreSoon : Type 0
EndsAreSoon =
    (d : Domain) (entries : List Recorded) (rows : List Row) (next : ℕ) (row : Row) (w : Cycle) → IsLegalHistory d entries → IsState d entries rows next →
    Contains rows row → row.withdrawn ≡ Some w → IsSoon row (seals entries) w

-- so the streams that end in the next cycle are exactly those in that cycle's slot
abbrev pub RingFindsThoseThatEnd : Type 0
RingFindsThoseThatEnd =
    (d : Domain) (entries : List Recorded) (rows : List Row) (next : ℕ) → IsLegalHistory d entries → IsState d entries rows next →
    filter (ends_in (seals entries + 1)) rows ≡ filter (is_in_slot ((seals entries + 1) % 128)) rows
