-- Four tests by the row in force and its counter decide on an offer what the definitions say.
use Rattle.cqf_units.specs.Timing.{counted_of}
use Rattle.cqf_model.specs.Table.{reserved_in}
use Rattle.std.proofs.Common.{◌≡◌, ℕ, ◌+◌, ◌<◌, ◌≤◌, [], List, Bool, not, Option, Some, None, option_map, ap, ap₂, ◌∙◌, subst, arith, refl, Contains, nat_le}
use Rattle.std.proofs.Common.{if◌then◌else◌}
use Rattle.cqf_lists.proofs.EachBelow.{get_or-singles, length-singles}
use Rattle.cqf_model.specs.declared.frames.Background.{Background}
use Rattle.cqf_model.specs.declared.frames.Offer.{Offer}
use Rattle.cqf_model.specs.declared.frames.Offered.{Offered}
use Rattle.cqf_model.specs.declared.frames.Reason.TheVariants.{Withdrawn, OtherBridge, Octets}
use Rattle.cqf_model.specs.declared.topology.Row.{Row}
use Rattle.cqf_model.specs.Domain.{Domain}
use Rattle.cqf_model.specs.History.{Recorded, seals, table_at, tables_of}
use Rattle.cqf_model.specs.HistoryBook.{run_of_history}
use Rattle.cqf_model.specs.Run.{Run}
use Rattle.cqf_model.specs.Shift.{asked_with, offer_cycle, row_for, taken_by}
use Rattle.cqf_model.specs.Table.{begins_at, row_named}
use Rattle.cqf_model.specs.Policing.{Queued, DroppedFor, edge_verdict, numbered}
use Rattle.cqf_model.specs.Promise.{IsDecided}
use Rattle.cqf_laws_shift.proofs.Decided.{is_decided, judged}
use Rattle.cqf_laws_coverage.specs.Counted.{HistoryIsCounted}
use Rattle.cqf_laws_coverage.specs.Judged.{OffersAreJudged, OffersBeforeStandBefore, ReportIsCounted, StandInOrder, judged_by, judged_of, used_before}
use Rattle.cqf_laws_coverage.specs.Rows.{AsLive, RowsAreFound, as_of, row_in_force}

module _ (found : RowsAreFound) (as_live : AsLive) (before : OffersBeforeStandBefore) (d : Domain) (entries : List Recorded) (offers : List Offer)
    (background : List Background) (cycles : ℕ) (x : Offered) (sealed : cycles ≤ seals entries) (ordered : StandInOrder offers)
    (inside : Contains (numbered offers) x) (in_run : offer_cycle d x < cycles) where
  -- the run of the history
  abbrev run : Run
  run = run_of_history d entries offers background cycles

  -- the offer's cycle
  abbrev cycle : ℕ
  cycle = offer_cycle d x

  -- the row that the offer names in the table of its cycle
  row_is : row_for d (tables_of d entries cycles) x ≡ option_map (as_of cycle) (row_in_force d entries cycle x.offer.stream)
  row_is =
      ap (λ (rows : List Row). row_named rows x.offer.stream) (get_or-singles (table_at d entries) cycles cycle [] in_run)
      ∙ found d entries cycle x.offer.stream (omega (arith, in_run, sealed))

  -- whether a row has the octets left
  abbrev fits : Row → Bool
  fits row = nat_le (asked_with d offers x row) (reserved_in row 0 cycle)

  -- the verdict by that row
  by_row : (o : Option Row) → edge_verdict d x.offer.bridge cycle fits (option_map (as_of cycle) o) ≡ judged_by d cycle (used_before d offers x) x o
  by_row None = refl
  by_row (Some row) =
      ap₂ (λ (live enough : Bool).
      if not live then DroppedFor Withdrawn
      else (if not (begins_at d row x.offer.bridge) then DroppedFor OtherBridge
      else (if not enough then DroppedFor Octets
      else Queued (as_of cycle row))))
      (as_live row cycle)
      (ap (λ (so_far : List Offered). nat_le (taken_by d row cycle so_far + counted_of d.overhead x.offer.octets) (reserved_in row 0 cycle)) (before offers x ordered inside))

  pub is_judged : judged run x ≡ judged_of d entries offers x
  is_judged =
      ap (edge_verdict d x.offer.bridge cycle fits) row_is ∙ by_row (row_in_force d entries cycle x.offer.stream)

-- the law
pub offers_are_judged : RowsAreFound → AsLive → OffersBeforeStandBefore → OffersAreJudged
offers_are_judged found as_live before d entries offers background cycles x sealed ordered inside in_run =
    let run = run_of_history d entries offers background cycles in
    subst (IsDecided run x) (is_judged found as_live before d entries offers background cycles x sealed ordered inside in_run) (is_decided run x inside)

-- so a book is counted by these verdicts
pub report_is_counted : HistoryIsCounted → OffersAreJudged → ReportIsCounted
report_is_counted counted are_judged d entries offers background cycles book link accepted legal offered following ordered is =
    counted d entries offers background cycles book (judged_of d entries offers) link accepted legal offered following is (λ x inside in_run.
    are_judged d entries offers background cycles x is.sealed ordered inside (omega (arith, in_run, length-singles (table_at d entries) cycles)))
