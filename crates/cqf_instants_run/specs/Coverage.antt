-- The verdict on each offer, by the rows that were ever granted.
use Rattle.std.specs.Prelude.{ℕ, ◌≡◌, ◌+◌, ◌<◌, ◌==◌, if◌then◌else◌, not, nat_le, List, Option, Some, None, Result, Ok}
use Rattle.std.specs.Prelude.{Err, length, slice_get, slice_index_or, slice_set}
use Rattle.cqf_units.specs.Timing.{counted_of}
use Rattle.cqf_model.specs.declared.frames.Offer.{Offer}
use Rattle.cqf_model.specs.declared.frames.Offered.{Offered}
use Rattle.cqf_model.specs.declared.frames.Reason.{Reason}
use Rattle.cqf_model.specs.declared.frames.Reason.TheVariants.{Unknown, Withdrawn, OtherBridge, Octets}
use Rattle.cqf_model.specs.declared.topology.Row.{Row}
use Rattle.cqf_model.specs.Domain.{Domain}
use Rattle.cqf_model.specs.History.{Recorded, seals}
use Rattle.cqf_model.specs.Shift.{offer_cycle}
use Rattle.cqf_model.specs.Table.{begins_at, is_live, reserved_in}
use Rattle.cqf_model.specs.Policing.{Verdict, Queued, DroppedFor, LacksRow, numbered}
use Rattle.cqf_laws_coverage.specs.Judged.{judged_of}
use Rattle.cqf_laws_coverage.specs.Rows.{as_of}
use Rattle.cqf_instants_run.specs.Begun.{IsInForce}
use Rattle.cqf_instants_run.specs.declared.judged.EdgeVerdict.{EdgeVerdict}
use Rattle.cqf_instants_run.specs.declared.judged.EdgeVerdict.TheVariants.{Covered, Dropped}
use Rattle.cqf_instants_run.specs.declared.judged.Used.{Used}

-- the octets used of a row in a cycle after an offer that it covers, or the first reason against the offer
abbrev pub used_after : Domain → Row → ℕ → ℕ → Offer → Result ℕ Reason
used_after d row cycle used offer =
    if not (is_live row cycle) then Err Withdrawn
    else (if not (begins_at d row offer.bridge) then Err OtherBridge
    else (if not (nat_le (used + counted_of d.overhead offer.octets) (reserved_in row 0 cycle)) then Err Octets
    else Ok (used + counted_of d.overhead offer.octets)))

-- the octets used in a cycle, and those used of the row at an index
abbrev pub used_in : ℕ → Used → ℕ
used_in cycle used = if used.cycle == cycle then used.octets else 0

abbrev pub used_at : List Used → ℕ → ℕ → ℕ
used_at used cycle index = used_in cycle (slice_index_or used index (record { cycle = 0; octets = 0 }))

-- an edge verdict in the terms of the definitions: the row is as in the table of the offer's cycle
abbrev pub queued_as : ℕ → Option Row → Verdict
queued_as cycle None = LacksRow
queued_as cycle (Some row) = Queued (as_of cycle row)

abbrev pub verdict_of : List Row → ℕ → EdgeVerdict → Verdict
verdict_of rows cycle (Covered index) = queued_as cycle (slice_get rows index)
verdict_of rows cycle (Dropped reason) = DroppedFor reason

-- if no row is in force, the offer is dropped and no octets are used
pub record IsUnknown (before after : List Used) (edge_verdict : EdgeVerdict) : Type 0 where
  pub dropped : edge_verdict ≡ Dropped Unknown
  pub same : after ≡ before

-- if there is a reason against the offer, it is dropped and no octets are used; else it is covered and its octets are used
abbrev pub JudgedFor : ℕ → ℕ → List Used → List Used → EdgeVerdict → Result ℕ Reason → Type 0
JudgedFor cycle index before after edge_verdict (Err reason) = (edge_verdict ≡ Dropped reason) × (after ≡ before)
JudgedFor cycle index before after edge_verdict (Ok octets) =
    (edge_verdict ≡ Covered index) × (after ≡ slice_set before index (record { cycle = cycle; octets = octets }))

-- the verdict is that of the row in force
pub record IsJudgedBy (d : Domain) (rows : List Row) (cycle index : ℕ) (offer : Offer) (before after : List Used) (edge_verdict : EdgeVerdict) : Type 0 where
  pub row : Row
  pub is : slice_get rows index ≡ Some row
  pub judged : JudgedFor cycle index before after edge_verdict (used_after d row cycle (used_at before cycle index) offer)

abbrev pub JudgedAt : Domain → List Row → ℕ → Offer → List Used → List Used → EdgeVerdict → Option ℕ → Type 0
JudgedAt d rows cycle offer before after edge_verdict None = IsUnknown before after edge_verdict
JudgedAt d rows cycle offer before after edge_verdict (Some index) = IsJudgedBy d rows cycle index offer before after edge_verdict

pub record IsJudged (d : Domain) (rows : List Row) (begun cycle : ℕ) (offer : Offer) (before after : List Used)
    (edge_verdict : EdgeVerdict) : Type 0 where
  pub index : Option ℕ
  pub in_force : IsInForce rows begun offer.stream cycle index
  pub by_row : JudgedAt d rows cycle offer before after edge_verdict index

-- the first `many` offers are judged as the definitions say, if their cycle is closed
pub record AreJudged (d : Domain) (entries : List Recorded) (rows : List Row) (offers : List Offer) (many : ℕ) (edge_verdicts : List EdgeVerdict) : Type 0 where
  pub count : length edge_verdicts ≡ many
  pub each : (index : ℕ) (x : Offered) (edge_verdict : EdgeVerdict) → index < many → slice_get (numbered offers) index ≡ Some x →
      slice_get edge_verdicts index ≡ Some edge_verdict → offer_cycle d x < seals entries →
      verdict_of rows (offer_cycle d x) edge_verdict ≡ judged_of d entries offers x
