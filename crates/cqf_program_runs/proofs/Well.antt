-- A check reports that all is well if and only if all goes well.
use Rattle.std.proofs.Common.{◌≡◌, ◌∙◌, ◌∷◌, ◌<◌, ◌==◌, ◌&&◌, [], ℕ, Bool, true, false, List, Option, Some, None}
use Rattle.std.proofs.Common.{Result, Ok, Err, Contains, ap, arith, find, if◌then◌else◌, length, lt-ltb, nat_le}
use Rattle.std.proofs.Common.{option_map, refl, subst, sym}
use Rattle.std.proofs.lemmas.Bool.{leb-false, lt-leb}
use Rattle.std.proofs.lemmas.Bool.Decides.{nat_tests}
use Rattle.cqf_lists.specs.Results.{refuse}
use Rattle.cqf_lists.proofs.Members.{contains_flat, contains_from_flat, contains_from_map, contains_here, contains_map}
use Rattle.cqf_model.specs.declared.frames.Offered.{Offered}
use Rattle.cqf_model.specs.declared.frames.Reason.{Reason}
use Rattle.cqf_model.specs.declared.frames.Started.{Started}
use Rattle.cqf_model.specs.declared.topology.Hop.{Hop}
use Rattle.cqf_model.specs.declared.topology.Row.{Row}
use Rattle.cqf_model.specs.Book.{Contents}
use Rattle.cqf_model.specs.History.{Recorded, streams_of}
use Rattle.cqf_model.specs.Run.{Run}
use Rattle.cqf_model.specs.Shift.{IsCovered, IsUncovered, offer_cycle}
use Rattle.cqf_model.specs.Policing.{DroppedFor, ExceedsGate, LacksRow, Queued, Verdict, numbered}
use Rattle.cqf_model.specs.Promise.{SaysTheShift, IsDecided}
use Rattle.cqf_topology.specs.PlannedText.{PlannedText}
use Rattle.cqf_laws_shift.proofs.Decided.{is_decided, judged}
use Rattle.cqf_program_plans.specs.Latency.Text.{listeners_of}
use Rattle.cqf_program_runs.specs.declared.check.checked.CheckCounts.{CheckCounts}
use Rattle.cqf_program_runs.specs.declared.deliveries.delivery.Passage.TheVariants as passage
use Rattle.cqf_program_runs.specs.declared.deliveries.delivery.Delivery.{Delivery}
use Rattle.cqf_program_runs.specs.declared.deliveries.delivery.Fate.TheVariants as fate
use Rattle.cqf_program_runs.specs.Check.Checked.{checked_deliveries, checked_by, complaint_line, counts_of, finished, is_bad}
use Rattle.cqf_program_runs.specs.Check.Checked.{is_finished, is_under_way, none_offered_line, run_offers, unfinished_line, well_line}
use Rattle.cqf_program_runs.specs.Check.Laws.{AllOffersGoWell, ComesInTime, GoesWell, IsWellExactly, line_of_well}
use Rattle.cqf_program_runs.specs.Deliveries.{deadline_named, deliveries_by, deliveries_of, deliveries_of_offer}
use Rattle.cqf_program_runs.specs.Deliveries.{deliveries_to, deliveries_unless, delivery_of, delivery_to, drop_of}
use Rattle.cqf_program_runs.specs.Deliveries.{end_of_journey, fate_of, start_on, whole_instant, whole_on}
use Rattle.cqf_program_runs.specs.Check.RefusedCalls.{first_refused, refused_call_line}
use Rattle.cqf_program_runs.proofs.ByBook.{covered_no_drop, uncovered_drop}
use Rattle.cqf_program_runs.proofs.CallsWell.{by_refused, none_is_refused, none_refused}
use Rattle.cqf_program_runs.proofs.Fates.{count_none, first_passes, is_there, none_counted, none_found, none_passes, second_passes}

-- the result of the counts if something is offered: whether all is finished
abbrev rest : CheckCounts → Result (List ℕ) (List ℕ)
rest counts = if is_finished counts then Ok (well_line counts) else Err (unfinished_line counts)

by_offered : (counts : CheckCounts) (line : List ℕ) → finished counts ≡ Ok line → (b : Bool) → (counts.offers.frames == 0) ≡ b →
    (b ≡ false) × (rest counts ≡ Ok line)
by_offered counts line is true e = absurd (
    let both : Err none_offered_line ≡ Ok line =
    sym (ap {B = Result (List ℕ) (List ℕ)} (λ (b : Bool). if b then Err none_offered_line else rest counts) e) ∙ is in cc)
by_offered counts line is false e =
    (refl, sym (ap {B = Result (List ℕ) (List ℕ)} (λ (b : Bool). if b then Err none_offered_line else rest counts) e) ∙ is)

by_finish : (counts : CheckCounts) (line : List ℕ) → rest counts ≡ Ok line → (b : Bool) → is_finished counts ≡ b → b ≡ true
by_finish counts line is true e = refl
by_finish counts line is false e = absurd (
    let both : Err (unfinished_line counts) ≡ Ok line =
    sym (ap {B = Result (List ℕ) (List ℕ)} (λ (b : Bool). if b then Ok (well_line counts) else Err (unfinished_line counts)) e) ∙ is in cc)

-- a check that is well found no bad delivery, and all is finished
by_bad : (deliveries : List Delivery) (counts : CheckCounts) (line : List ℕ) → checked_by deliveries counts ≡ Ok line → (found : Option Delivery) →
    find (λ (delivery : Delivery). is_bad (fate_of delivery)) deliveries ≡ found → (found ≡ None) × (finished counts ≡ Ok line)
by_bad deliveries counts line is None e =
    (refl, sym (ap {B = Result (List ℕ) (List ℕ)} (λ (o : Option Delivery). refuse o complaint_line (finished counts)) e) ∙ is)
by_bad deliveries counts line is (Some bad) e = absurd (
    let both : Err (complaint_line bad) ≡ Ok line =
    sym (ap {B = Result (List ℕ) (List ℕ)} (λ (o : Option Delivery). refuse o complaint_line (finished counts)) e) ∙ is in cc)

module _ (run : Run) (streams : List PlannedText) (book : Contents) (says : SaysTheShift run book) where
  -- of an offer of a cycle that is run
  pub of_run : (x : Offered) → offer_cycle run.domain x < length run.tables →
      deliveries_of_offer run streams book x ≡ deliveries_unless run streams book x (drop_of book.drops x.frame)
  of_run x within =
      ap (λ (b : Bool). if b then deliveries_unless run streams book x (drop_of book.drops x.frame) else [])
      (lt-ltb (offer_cycle run.domain x) (length run.tables) within)

  -- the deliveries of a covered offer are those to the listeners of its row
  pub of_covered : (x : Offered) → Contains (numbered run.offers) x → offer_cycle run.domain x < length run.tables → (row : Row) → IsCovered run x row →
      deliveries_of_offer run streams book x
      ≡ deliveries_to run.domain (whole_on run.domain book.starts x.frame) (deadline_named streams x.offer.stream) x row
  of_covered x inside within row covered =
      of_run x within
      ∙ ap (deliveries_unless run streams book x) (covered_no_drop run book says x inside row covered)
      ∙ ap (deliveries_by run.domain (whole_on run.domain book.starts x.frame) (deadline_named streams x.offer.stream) x) covered.named

  -- and the delivery of an uncovered one is its drop
  pub of_uncovered : (x : Offered) → Contains (numbered run.offers) x → offer_cycle run.domain x < length run.tables → (reason : Reason) →
      IsUncovered run x reason → deliveries_of_offer run streams book x ≡ delivery_of run.domain x (passage.Dropped reason) ∷ []
  of_uncovered x inside within reason uncovered =
      let drop = uncovered_drop run book says x inside reason within uncovered in
      of_run x within ∙ ap (deliveries_unless run streams book x) drop.1
      ∙ ap (λ (r : Reason). delivery_of run.domain x (passage.Dropped r) ∷ []) drop.2

  -- all deliveries
  abbrev all : List Delivery
  all = deliveries_of run streams book

  -- if each delivery has arrived in time, an offer of a cycle that is run goes well
  module _ (there : (delivery : Delivery) → Contains all delivery → fate_of delivery ≡ fate.Delivered)
      (within : (x : Offered) → Contains (numbered run.offers) x → offer_cycle run.domain x < length run.tables) where
    comes : (x : Offered) (hop : Hop) →
        end_of_journey x.offer.at.0 (whole_on run.domain book.starts x.frame hop.link) (deadline_named streams x.offer.stream) ≡ fate.Delivered →
        (found : Option Started) → start_on book.starts x.frame hop.link ≡ found → ComesInTime run streams book x hop
    comes x hop is None e = absurd (
        let both : fate.UnderWay ≡ fate.Delivered =
        sym (ap (λ (o : Option Started). end_of_journey x.offer.at.0 (option_map (whole_instant run.domain) o) (deadline_named streams x.offer.stream)) e)
        ∙ is in cc)
    comes x hop is (Some start) e = record {
      start = start;
      starts = e;
      in_time =
          sym (ap (λ (o : Option Started). end_of_journey x.offer.at.0 (option_map (whole_instant run.domain) o) (deadline_named streams x.offer.stream)) e)
          ∙ is;
    }

    by_verdict : (x : Offered) → Contains (numbered run.offers) x → (v : Verdict) → IsDecided run x v → GoesWell run streams book x
    by_verdict x inside (Queued row) covered = record {
      within = within x inside;
      row = row;
      covered = covered;
      each = λ hop among.
          let whole = whole_on run.domain book.starts x.frame in
          let deadline = deadline_named streams x.offer.stream in
          let delivery = delivery_to run.domain whole deadline x hop in
          let own : Contains (deliveries_of_offer run streams book x) delivery =
          subst (λ (ds : List Delivery). Contains ds delivery) (sym (of_covered x inside (within x inside) row covered))
          (contains_map (delivery_to run.domain whole deadline x) (listeners_of run.domain row) hop among) in
          comes x hop (there delivery (contains_flat (deliveries_of_offer run streams book) (numbered run.offers) x delivery inside own))
          (start_on book.starts x.frame hop.link) refl;
    }
    by_verdict x inside (DroppedFor reason) uncovered = absurd (
        let delivery = delivery_of run.domain x (passage.Dropped reason) in
        let own : Contains (deliveries_of_offer run streams book x) delivery =
        subst (λ (ds : List Delivery). Contains ds delivery) (sym (of_uncovered x inside (within x inside) reason uncovered)) (contains_here delivery []) in
        let is : fate.Dropped reason ≡ fate.Delivered =
        there delivery (contains_flat (deliveries_of_offer run streams book) (numbered run.offers) x delivery inside own) in cc)
    by_verdict x inside LacksRow never = absurd never
    by_verdict x inside ExceedsGate never = absurd never

    goes_well : AllOffersGoWell run streams book
    goes_well x inside = by_verdict x inside (judged run x) (is_decided run x inside)

  -- if all goes well, each delivery has arrived in time
  each_there : AllOffersGoWell run streams book → (delivery : Delivery) → Contains all delivery → fate_of delivery ≡ fate.Delivered
  each_there well delivery among =
      let from = contains_from_flat (deliveries_of_offer run streams book) (numbered run.offers) delivery among in
      let x = from.0 in
      let good = well x from.1 in
      let whole = whole_on run.domain book.starts x.frame in
      let deadline = deadline_named streams x.offer.stream in
      let own : Contains (deliveries_to run.domain whole deadline x good.row) delivery =
      subst (λ (ds : List Delivery). Contains ds delivery) (of_covered x from.1 good.within good.row good.covered) from.2 in
      let hop = contains_from_map (delivery_to run.domain whole deadline x) (listeners_of run.domain good.row) delivery own in
      let comes = good.each hop.0 hop.1 in
      ap fate_of (sym hop.2)
      ∙ ap (λ (o : Option Started). end_of_journey x.offer.at.0 (option_map (whole_instant run.domain) o) deadline) comes.starts
      ∙ comes.in_time

  -- the counts, if the history granted the given rows
  abbrev counted : List Row → CheckCounts
  counted rows = counts_of (run_offers rows run) all

  only_well : (rows : List Row) (line : List ℕ) → checked_deliveries rows run streams book ≡ Ok line →
      (0 < length run.offers) × AllOffersGoWell run streams book
  only_well rows line is =
      let bad : Delivery → Bool = λ delivery. is_bad (fate_of delivery) in
      let waits : Delivery → Bool = λ delivery. is_under_way (fate_of delivery) in
      let late : Offered → Bool = λ x. nat_le (length run.tables) (offer_cycle run.domain x) in
      let counts = counted rows in
      let steps = by_bad all counts line is (find bad all) refl in
      let offered = by_offered counts line steps.1 (length run.offers == 0) refl in
      let done : is_finished counts ≡ true = by_finish counts line offered.1 (is_finished counts) refl in
      let first : (counts.under_way == 0) ≡ true = first_passes (counts.under_way == 0) (counts.offers.later == 0) done in
      let second : (counts.offers.later == 0) ≡ true = second_passes (counts.under_way == 0) (counts.offers.later == 0) done in
      let none_waits : counts.under_way ≡ 0 = grind (arith, nat_tests) in
      let none_late : counts.offers.later ≡ 0 = grind (arith, nat_tests) in (
        not_none (length run.offers) offered.0,
        goes_well
            (λ delivery among. is_there (fate_of delivery) (none_passes bad all steps.0 delivery among) (none_counted waits all none_waits delivery among))
            (λ x inside. leb-false (length run.tables) (offer_cycle run.domain x) (none_counted late (numbered run.offers) none_late x inside)),
      )
    where
      -- a number that isn't 0
      not_none : (n : ℕ) → (n == 0) ≡ false → 0 < n
      not_none n differs = grind (arith, nat_tests)

  where_all_well : (rows : List Row) → 0 < length run.offers → AllOffersGoWell run streams book →
      checked_deliveries rows run streams book ≡ Ok (line_of_well rows run streams book)
  where_all_well rows some well =
      let counts = counted rows in
      let bad : Delivery → Bool = λ delivery. is_bad (fate_of delivery) in
      let waits : Delivery → Bool = λ delivery. is_under_way (fate_of delivery) in
      let late : Offered → Bool = λ x. nat_le (length run.tables) (offer_cycle run.domain x) in
      let found : find bad all ≡ None = none_found bad all (λ delivery among. ap is_bad (each_there well delivery among)) in
      let none_waits : counts.under_way ≡ 0 = count_none waits all (λ delivery among. ap is_under_way (each_there well delivery among)) in
      let none_late : counts.offers.later ≡ 0 =
      count_none late (numbered run.offers) (λ x inside. lt-leb (length run.tables) (offer_cycle run.domain x) (well x inside).within) in
      ap {B = Result (List ℕ) (List ℕ)} (λ (o : Option Delivery). refuse o complaint_line (finished counts)) found
      ∙ ap {B = Result (List ℕ) (List ℕ)} (λ (b : Bool). if b then Err none_offered_line else rest counts) (is_some (length run.offers) some)
      ∙ ap {B = Result (List ℕ) (List ℕ)} (λ (b : Bool). if b then Ok (well_line counts) else Err (unfinished_line counts))
      (done counts.under_way counts.offers.later none_waits none_late)
    where
      -- some are offered
      is_some : (n : ℕ) → 0 < n → (n == 0) ≡ false
      is_some n more = grind (arith, nat_tests)

      -- nothing is left
      done : (a b : ℕ) → a ≡ 0 → b ≡ 0 → ((a == 0) && (b == 0)) ≡ true
      done a b first second = ap (λ (n : ℕ). (n == 0) && (b == 0)) first ∙ ap (λ (n : ℕ). (0 == 0) && (n == 0)) second

  pub is_well_exactly : (entries : List Recorded) → IsWellExactly entries run streams book
  is_well_exactly entries = record {
    only = λ line is.
        let parts = by_refused (first_refused entries) (checked_deliveries (streams_of run.domain entries) run streams book) line is in
        let well = only_well (streams_of run.domain entries) line parts.1 in
        record { some = well.0; calls = none_is_refused entries parts.0; offers = well.1 };
    where_well = λ well.
        ap {B = Result (List ℕ) (List ℕ)} (λ (first : Option (ℕ × Recorded)). refuse first refused_call_line
        (checked_deliveries (streams_of run.domain entries) run streams book)) (none_refused entries well.calls)
        ∙ where_all_well (streams_of run.domain entries) well.some well.offers;
  }
