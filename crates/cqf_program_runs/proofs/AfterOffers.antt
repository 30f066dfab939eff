-- Each start of a book is of a cycle after its offer's, by at most the greatest hop number of its row's tree.
use Rattle.std.proofs.Common.{◌≡◌, ◌∙◌, ◌+◌, ◌<◌, ◌≤◌, ℕ, List, Option, Some, None, Contains, All, ap, arith, length, refl, sym}
use Rattle.std.specs.Prelude.{slice_get}
use Rattle.cqf_lists.proofs.Members.{all_from_members, contains_at}
use Rattle.cqf_units.specs.Timing.{cycle_at}
use Rattle.cqf_model.specs.declared.frames.Offer.{Offer}
use Rattle.cqf_model.specs.declared.frames.Offered.{Offered}
use Rattle.cqf_model.specs.declared.frames.Started.{Started}
use Rattle.cqf_model.specs.declared.topology.Row.{Row}
use Rattle.cqf_model.specs.Book.{Contents}
use Rattle.cqf_model.specs.Promise.{IsDecided, SaysTheShift}
use Rattle.cqf_model.specs.Run.{Run}
use Rattle.cqf_model.specs.Shift.{IsCovered, offer_cycle}
use Rattle.cqf_model.specs.Table.{AreOrderly, residence}
use Rattle.cqf_model.specs.Policing.{DroppedFor, ExceedsGate, LacksRow, Queued, Verdict, numbered}
use Rattle.cqf_model.proofs.Residence.{hop_number_within_residence}
use Rattle.cqf_laws_shift.proofs.Came.{one_number}
use Rattle.cqf_laws_timing.proofs.Timely.{shift_deep}
use Rattle.cqf_laws_coverage.specs.Counted.{AreDecided}
use Rattle.cqf_laws_coverage.specs.Rows.{as_of}
use Rattle.cqf_instants_run.specs.Columns.{verdict_at}
use Rattle.cqf_instants_run.specs.declared.judged.EdgeVerdict.{EdgeVerdict}
use Rattle.cqf_instants_run.specs.declared.judged.EdgeVerdict.TheVariants.{Covered, Dropped}
use Rattle.cqf_instants_run.specs.Coverage.{queued_as, verdict_of}
use Rattle.cqf_instants_run.proofs.Covers.{numbered_at}
use Rattle.cqf_program_runs.specs.Deliveries.Following.{IsAfter}
use Rattle.cqf_program_runs.specs.Deliveries.UnderWay.{HopNumbersAreWithin}
use Rattle.cqf_program_runs.proofs.ByBook.{not_both}
use Rattle.cqf_program_runs.proofs.KeptSlots.{some_same}

-- a verdict by which an offer goes on has the tree of one of the rows
queued_row : (rows : List Row) (cycle : ℕ) (edge_verdict : EdgeVerdict) (row : Row) → verdict_of rows cycle edge_verdict ≡ Queued row →
    (granted : Row) × Contains rows granted × (residence row ≡ residence granted)
queued_row rows cycle (Covered k) row e = by (slice_get rows k) refl e
  where
    by : (o : Option Row) → slice_get rows k ≡ o → queued_as cycle o ≡ Queued row →
        (granted : Row) × Contains rows granted × (residence row ≡ residence granted)
    by None at is = absurd (cc)
    by (Some granted) at is =
        let same : row ≡ as_of cycle granted = cc in
        (granted, contains_at rows k granted at, ap residence same)
queued_row rows cycle (Dropped reason) row e = absurd (cc)

module _ (run : Run) (book : Contents) (says : SaysTheShift run book) (orderly : AreOrderly run.domain run.tables) (rows : List Row)
    (edge_verdicts : List EdgeVerdict) (decided : AreDecided run (verdict_at run.domain rows edge_verdicts)) (hop_number : ℕ) (hop_numbers : HopNumbersAreWithin rows hop_number) where
  -- a row that covers an offer has no greater hop number
  covers_within : (x : Offered) (row : Row) → IsCovered run x row → offer_cycle run.domain x < length run.tables → residence row ≤ hop_number
  covers_within x row covered inside = by (verdict_at run.domain rows edge_verdicts x) refl (decided x covered.offered inside)
    where
      by : (v : Verdict) → verdict_at run.domain rows edge_verdicts x ≡ v → IsDecided run x v → residence row ≤ hop_number
      by (Queued other) is by_other =
          let from = queued_row rows (offer_cycle run.domain x) _ other is in
          let same : other ≡ row = some_same other row (sym by_other.named ∙ covered.named) in
          omega (arith, hop_numbers from.0 from.1, from.2, ap residence same)
      by (DroppedFor reason) is uncovered = absurd (not_both run x row reason covered uncovered)
      by LacksRow is never = absurd never
      by ExceedsGate is never = absurd never

  pub starts_after : All (IsAfter run.domain.cycle_time hop_number run.offers) book.starts
  starts_after = all_from_members (IsAfter run.domain.cycle_time hop_number run.offers) book.starts (λ s among. record {
    later = λ index offer at frame.
        let shift = says.only s among in
        let same = its_offer s among index offer at frame in
        omega (
          arith,
          shift.is_cycle,
          ap (λ (z : Offered). cycle_at run.domain.cycle_time z.offer.at.0) same,
          shift_deep run s.frame s.link s.cycle.0 orderly shift,
        );
    soon = λ index offer at frame.
        let shift = says.only s among in
        let same = its_offer s among index offer at frame in
        let inside : offer_cycle run.domain shift.x < length run.tables = omega (arith, shift.is_cycle, shift.within_run) in
        omega (
          arith,
          shift.is_cycle,
          ap (λ (z : Offered). cycle_at run.domain.cycle_time z.offer.at.0) same,
          covers_within shift.x shift.row shift.covered inside,
          hop_number_within_residence shift.row shift.is_hop.hop shift.is_hop.of_tree,
          shift.is_hop.is_hop_number,
        );
  })
    where
      -- the offer of a start's frame
      its_offer : (s : Started) (among : Contains book.starts s) (index : ℕ) (offer : Offer) → slice_get run.offers index ≡ Some offer →
          s.frame ≡ index + 1 → (says.only s among).x ≡ record { frame = index + 1; offer = offer }
      its_offer s among index offer at frame =
          let shift = says.only s among in
          let x : Offered = record { frame = index + 1; offer = offer } in
          one_number run.offers shift.x x shift.covered.offered (contains_at (numbered run.offers) index x (numbered_at run.offers index offer at))
          (sym shift.is_frame ∙ frame)
