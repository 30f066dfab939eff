-- Each offer that a row counts is counted in exactly one way.
use Rattle.std.proofs.Common.{◌≡◌, ◌∙◌, ◌+◌, ◌<◌, [], ℕ, Bool, true, false, Contains, List, Option, Some, ap, count_by, if◌then◌else◌, length, nat_lt, sym}
use Rattle.std.specs.Prelude.{◌&&◌}
use Rattle.std.proofs.lemmas.Bool.{ltb-true}
use Rattle.std.proofs.lemmas.List.Sums.{length-filter}
use Rattle.cqf_model.specs.declared.frames.Offered.{Offered}
use Rattle.cqf_model.specs.declared.topology.Hop.{Hop}
use Rattle.cqf_model.specs.declared.topology.Row.{Row}
use Rattle.cqf_model.specs.Book.{Contents}
use Rattle.cqf_model.specs.Domain.{is_text}
use Rattle.cqf_model.specs.History.{Asked}
use Rattle.cqf_model.specs.Promise.{IsDecided, SaysTheShift}
use Rattle.cqf_model.specs.Run.{Run}
use Rattle.cqf_model.specs.Shift.{IsCovered, offer_cycle}
use Rattle.cqf_model.specs.Table.{AreOrderly}
use Rattle.cqf_model.specs.Policing.{DroppedFor, ExceedsGate, LacksRow, Queued, Verdict, numbered}
use Rattle.cqf_laws_shift.proofs.Decided.{is_decided, judged}
use Rattle.cqf_topology.specs.DomainText.{IsDomain}
use Rattle.cqf_topology.specs.PlannedText.{PlannedText}
use Rattle.cqf_program_plans.specs.EndNames.{name_of_end}
use Rattle.cqf_program_plans.specs.Latency.Text.{listeners_of}
use Rattle.cqf_program_runs.specs.declared.deliveries.delivery.Delivery.{Delivery}
use Rattle.cqf_program_runs.specs.declared.deliveries.delivery.Fate.{Fate}
use Rattle.cqf_program_runs.specs.Check.Checked.{is_delivered, is_under_way}
use Rattle.cqf_program_runs.specs.Deliveries.ArrivalLaws.{EachIsWrittenOnce, EachListenerIsWrittenOnce, written_of_frame}
use Rattle.cqf_program_runs.specs.Deliveries.{deadline_named, deliveries_of, deliveries_of_offer, deliveries_unless, drop_of, fate_of}
use Rattle.cqf_program_runs.proofs.Well.{of_covered, of_uncovered}
use Rattle.cqf_program_summary.specs.declared.summary.fares.Listener.{Listener}
use Rattle.cqf_program_summary.specs.Summary.{deliveries_named, fare_of, name_of_listener, offers_within, path_to}
use Rattle.cqf_program_summary.specs.Summary.Tallies.{is_dropped, is_late, reaches}
use Rattle.cqf_program_laws.specs.SummaryLaws.{CountsEachOnce}
use Rattle.cqf_program_laws.proofs.Balance.{by_verdict, four_counts, stream_of}
use Rattle.cqf_program_laws.proofs.EachPath.{counts_elements, first_rare, fourth_rare, one_of_them, second_rare, third_rare}

-- whether a delivery goes to a listener and has such a fate; and whether it is a drop
abbrev goes : Option (List ℕ) → (Fate → Bool) → Delivery → Bool
goes to is = λ (y : Delivery). reaches to y.passage && is (fate_of y)

abbrev drops : Delivery → Bool
drops = λ (y : Delivery). is_dropped (fate_of y)

module _ (run : Run) (streams : List PlannedText) (book : Contents) (says : SaysTheShift run book) (domain : IsDomain run.domain)
    (orderly : AreOrderly run.domain run.tables) (once : EachIsWrittenOnce) (listeners : EachListenerIsWrittenOnce) where
  abbrev here : Offered → List Delivery
  here = deliveries_of_offer run streams book

  abbrev reported : Offered → List Delivery
  reported = λ (x : Offered). written_of_frame run streams book x.frame

  abbrev ran : Offered → Bool
  ran = λ (x : Offered). nat_lt (offer_cycle run.domain x) (length run.tables)

  -- an offer whose cycle isn't run has no deliveries
  none_unless_run : (x : Offered) → ran x ≡ false → here x ≡ []
  none_unless_run x off = ap (λ (b : Bool). if b then deliveries_unless run streams book x (drop_of book.drops x.frame) else []) off

  -- the deliveries of a frame are those of its offer
  written_here : (x : Offered) → Contains (numbered run.offers) x → ran x ≡ true → reported x ≡ here x
  written_here x inside on = by (judged run x) (is_decided run x inside)
    where
      within : offer_cycle run.domain x < length run.tables
      within = ltb-true (offer_cycle run.domain x) (length run.tables) on

      by : (v : Verdict) → IsDecided run x v → reported x ≡ here x
      by (Queued row) covered =
          (once run streams book x says inside within).as_covered row covered ∙ sym (of_covered run streams book says x inside within row covered)
      by (DroppedFor reason) uncovered =
          (once run streams book x says inside within).as_dropped reason uncovered ∙ sym (of_uncovered run streams book says x inside within reason uncovered)
      by LacksRow never = absurd never
      by ExceedsGate never = absurd never

  module _ (cost : Asked → ℕ → ℕ) (asked : Asked) (to : Option Listener)
      (leads : (x : Offered) (row : Row) → IsCovered run x row → is_text x.offer.stream asked.name ≡ true →
      (hop : Hop) × Contains (listeners_of run.domain row) hop × (name_of_listener to ≡ Some (name_of_end run.domain hop.link))) where
    abbrev own : Offered → Bool
    own = λ (x : Offered). is_text x.offer.stream asked.name

    abbrev mine : Delivery → Bool
    mine = λ (y : Delivery). is_text y.stream asked.name

    abbrev name : Option (List ℕ)
    name = name_of_listener to

    belong : (x : Offered) (y : Delivery) → Contains (here x) y → mine y ≡ own x
    belong x y c = ap (λ (m : List ℕ). is_text m asked.name) (stream_of run streams book says domain orderly once listeners x y c)

    -- an offer's deliveries count once in the four ways
    four_here : (x : Offered) → Contains (numbered run.offers) x → ran x ≡ true → own x ≡ true →
        count_by (goes name is_delivered) (here x) + count_by (goes name is_late) (here x) + count_by drops (here x)
        + count_by (goes name is_under_way) (here x) ≡ 1
    four_here x inside on is =
        let within : offer_cycle run.domain x < length run.tables = ltb-true (offer_cycle run.domain x) (length run.tables) on in
        four_counts name (here x)
        ∙ by_verdict run streams book says domain orderly once listeners asked.name name leads x inside within is (judged run x) (is_decided run x inside)

    -- so the row counts each offer once
    pub counts_each : CountsEachOnce run streams book
        (fare_of run.domain cost (deadline_named streams) (offers_within run.domain (length run.tables) (numbered run.offers)) (deliveries_of run streams book) asked)
        (path_to (deliveries_named asked.name (deliveries_of run streams book)) to)
    counts_each = record {
      offered = sym (length-filter own (offers_within run.domain (length run.tables) (numbered run.offers)));
      delivered = counts_elements here reported (numbered run.offers) ran own mine belong none_unless_run written_here (goes name is_delivered)
          (first_rare here reported (numbered run.offers) ran own mine belong none_unless_run written_here (goes name is_delivered) (goes name is_late) drops
          (goes name is_under_way) four_here);
      late = counts_elements here reported (numbered run.offers) ran own mine belong none_unless_run written_here (goes name is_late)
          (second_rare here reported (numbered run.offers) ran own mine belong none_unless_run written_here (goes name is_delivered) (goes name is_late) drops
          (goes name is_under_way) four_here);
      dropped = counts_elements here reported (numbered run.offers) ran own mine belong none_unless_run written_here drops
          (third_rare here reported (numbered run.offers) ran own mine belong none_unless_run written_here (goes name is_delivered) (goes name is_late) drops
          (goes name is_under_way) four_here);
      under_way = counts_elements here reported (numbered run.offers) ran own mine belong none_unless_run written_here (goes name is_under_way)
          (fourth_rare here reported (numbered run.offers) ran own mine belong none_unless_run written_here (goes name is_delivered) (goes name is_late) drops
          (goes name is_under_way) four_here);
      once = one_of_them here reported (numbered run.offers) ran own mine belong none_unless_run written_here (goes name is_delivered) (goes name is_late) drops
          (goes name is_under_way) four_here;
    }
