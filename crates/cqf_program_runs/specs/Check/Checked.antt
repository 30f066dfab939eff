-- Whether all goes well in a run, by the calls of its history and its deliveries.
use Rattle.std.specs.Prelude.{ℕ, ◌+◌, ◌++◌, ◌==◌, ◌&&◌, Bool, true, false, List, Result, Ok, Err, codes, count_by, decimal}
use Rattle.std.specs.Prelude.{find, fold, if◌then◌else◌, is_some, length, max, nat_le}
use Rattle.cqf_units.specs.Timing.{cycle_at}
use Rattle.cqf_lists.specs.Results.{refuse}
use Rattle.cqf_model.specs.declared.frames.Offer.{Offer}
use Rattle.cqf_model.specs.declared.frames.Offered.{Offered}
use Rattle.cqf_model.specs.declared.topology.Row.{Row}
use Rattle.cqf_model.specs.Book.{Contents}
use Rattle.cqf_model.specs.Domain.{Domain}
use Rattle.cqf_model.specs.History.{Recorded, streams_of}
use Rattle.cqf_model.specs.Run.{Run}
use Rattle.cqf_model.specs.Shift.{offer_cycle}
use Rattle.cqf_model.specs.Table.{residence}
use Rattle.cqf_model.specs.Policing.{numbered}
use Rattle.cqf_topology.specs.PlannedText.{PlannedText}
use Rattle.cqf_report.specs.Books.{name_of_reason}
use Rattle.cqf_program_plans.specs.Latency.Text.{text_of_deadline}
use Rattle.cqf_output.specs.Stops.{fault_line, line_of}
use Rattle.cqf_program_runs.specs.declared.check.checked.CheckCounts.{CheckCounts}
use Rattle.cqf_program_runs.specs.declared.check.checked.OfferCounts.{OfferCounts}
use Rattle.cqf_program_runs.specs.declared.deliveries.delivery.Passage.{Passage}
use Rattle.cqf_program_runs.specs.declared.deliveries.delivery.Passage.TheVariants as passage
use Rattle.cqf_program_runs.specs.declared.deliveries.delivery.Delivery.{Delivery}
use Rattle.cqf_program_runs.specs.declared.deliveries.delivery.Fate.{Fate}
use Rattle.cqf_program_runs.specs.declared.deliveries.delivery.Fate.TheVariants as fate
use Rattle.cqf_program_runs.specs.Deliveries.{deliveries_of, fate_of}
use Rattle.cqf_program_runs.specs.Deliveries.Text.{text_of_listeners_latency}
use Rattle.cqf_program_runs.specs.Check.RefusedCalls.{first_refused, refused_call_line}

-- the fates for which a check ends: a drop, and a late frame
abbrev pub is_bad : Fate → Bool
is_bad fate.Delivered = false
is_bad fate.Late = true
is_bad fate.UnderWay = false
is_bad (fate.Dropped reason) = true

abbrev pub is_under_way : Fate → Bool
is_under_way fate.Delivered = false
is_under_way fate.Late = false
is_under_way fate.UnderWay = true
is_under_way (fate.Dropped reason) = false

abbrev pub is_delivered : Fate → Bool
is_delivered fate.Delivered = true
is_delivered fate.Late = false
is_delivered fate.UnderWay = false
is_delivered (fate.Dropped reason) = false

-- whether a frame that goes to a listener has a deadline
abbrev pub is_timed : Passage → Bool
is_timed (passage.Dropped reason) = false
is_timed (passage.Goes journey) = is_some journey.deadline

-- what a check says of a delivery that ends it: why it was dropped, or that it was late
abbrev pub complaint_of : ℕ → Passage → List ℕ
complaint_of at (passage.Dropped reason) = codes "dropped, " ++ name_of_reason reason
complaint_of at (passage.Goes journey) =
    codes "late at "
    ++ (journey.listener
    ++ (codes ", " ++ (text_of_listeners_latency at journey.whole ++ (codes " after its offer, deadline " ++ text_of_deadline journey.deadline))))

-- the line about a delivery that ends the check
abbrev pub complaint_line : Delivery → List ℕ
complaint_line delivery = fault_line (codes "check")
    (codes "frame "
    ++ (decimal delivery.frame
    ++ (codes " of "
    ++ (delivery.stream
    ++ (codes ", offered to "
    ++ (delivery.bridge ++ (codes " at " ++ (decimal delivery.at.0 ++ (codes ": " ++ complaint_of delivery.at.0 delivery.passage)))))))))

-- the most cycles after its own for which a frame of one of the rows can be under way
abbrev pub greatest_hop_number : List Row → ℕ
greatest_hop_number rows = fold (λ most (row : Row). max most (residence row)) 0 rows

-- the cycle of the latest offer; 0 if there is none
abbrev pub latest_cycle : Domain → List Offer → ℕ
latest_cycle d offers = fold (λ most (offer : Offer). max most (cycle_at d.cycle_time offer.at.0)) 0 offers

-- the number of offers in a run over some cycles; how many are of cycles that aren't run; and a number of cycles after
-- which a frame of the latest offer has reached each listener of its row, whichever row that is
abbrev pub offer_counts : Domain → ℕ → List Row → List Offer → OfferCounts
offer_counts d cycles rows offers = record {
  frames = length offers;
  later = count_by (λ (x : Offered). nat_le cycles (offer_cycle d x)) (numbered offers);
  enough = latest_cycle d offers + greatest_hop_number rows + 1;
}

-- the counts of deliveries, together with those of the offers
abbrev pub counts_of : OfferCounts → List Delivery → CheckCounts
counts_of offers deliveries = record {
  offers = offers;
  under_way = count_by (λ (delivery : Delivery). is_under_way (fate_of delivery)) deliveries;
  delivered = count_by (λ (delivery : Delivery). is_delivered (fate_of delivery)) deliveries;
  timed = count_by (λ (delivery : Delivery). is_delivered (fate_of delivery) && is_timed delivery.passage) deliveries;
}

-- the line if nothing is offered
abbrev pub none_offered_line : List ℕ
none_offered_line = fault_line (codes "check") (codes "no frame is offered")

-- the line if nothing has arrived, with the number of cycles that would be enough
abbrev pub none_come_line : CheckCounts → List ℕ
none_come_line counts = fault_line (codes "check") (codes "no frame; " ++ (decimal counts.offers.enough ++ codes " cycles would do"))

-- the line if some deliveries haven't arrived or some offers are of cycles that aren't run
abbrev pub some_come_line : CheckCounts → List ℕ
some_come_line counts =
    fault_line (codes "check") (codes "unfinished, under way " ++ (decimal counts.under_way ++ (codes ", not run " ++ decimal counts.offers.later)))

abbrev pub unfinished_line : CheckCounts → List ℕ
unfinished_line counts = if counts.delivered == 0 then none_come_line counts else some_come_line counts

-- the line if all is well
abbrev pub well_line : CheckCounts → List ℕ
well_line counts = line_of
    (codes "ok: "
    ++ (decimal counts.offers.frames
    ++ (codes " frames, " ++ (decimal counts.delivered ++ (codes " deliveries, " ++ (decimal counts.timed ++ codes " with a deadline"))))))

-- whether no delivery is under way and no offer is of a cycle that isn't run
abbrev pub is_finished : CheckCounts → Bool
is_finished counts = (counts.under_way == 0) && (counts.offers.later == 0)

-- all is well if something is offered and all of it has arrived; otherwise the line that says why not
abbrev pub finished : CheckCounts → Result (List ℕ) (List ℕ)
finished counts =
    if counts.offers.frames == 0 then Err none_offered_line else (if is_finished counts then Ok (well_line counts) else Err (unfinished_line counts))

-- the line of the first bad delivery if there is one; otherwise the result of the counts
abbrev pub checked_by : List Delivery → CheckCounts → Result (List ℕ) (List ℕ)
checked_by deliveries counts = refuse (find (λ (delivery : Delivery). is_bad (fate_of delivery)) deliveries) complaint_line (finished counts)

-- the counts of the offers of a run whose history granted these rows
abbrev pub run_offers : List Row → Run → OfferCounts
run_offers rows run = offer_counts run.domain (length run.tables) rows run.offers

-- the check of the frames of a run, by its book
abbrev pub checked_deliveries : List Row → Run → List PlannedText → Contents → Result (List ℕ) (List ℕ)
checked_deliveries rows run streams book =
    checked_by (deliveries_of run streams book) (counts_of (run_offers rows run) (deliveries_of run streams book))

-- the check of a history and its run, by the run's book: the line of the first refused call if there is one; otherwise
-- the check of the frames
abbrev pub checked_run : List Recorded → Run → List PlannedText → Contents → Result (List ℕ) (List ℕ)
checked_run entries run streams book =
    refuse (first_refused entries) refused_call_line (checked_deliveries (streams_of run.domain entries) run streams book)
