-- Each offer that a row counts ends in exactly one of four ways.
use Rattle.std.proofs.Common.{◌≡◌, ◌∙◌, ◌+◌, ◌∷◌, ◌<◌, [], ℕ, Bool, true, false, Contains, List, Some, None, Option, ap, arith, count_by, if◌then◌else◌, length, nat_lt, refl, sum_by, sym}
use Rattle.std.specs.Prelude.{◌&&◌}
use Rattle.std.proofs.lemmas.Bool.Decides.{nat_tests}
use Rattle.cqf_lists.proofs.EachBelow.{fold_same}
use Rattle.cqf_lists.proofs.Members.{contains_from_map, contains_none, contains_one}
use Rattle.cqf_lists.proofs.Sums.{sum_filter, sum_flat, sum_none, sum_plus}
use Rattle.cqf_units.specs.declared.timing.Nanos.{Nanos}
use Rattle.cqf_model.specs.declared.frames.Offered.{Offered}
use Rattle.cqf_model.specs.declared.frames.Reason.{Reason}
use Rattle.cqf_model.specs.declared.topology.Hop.{Hop}
use Rattle.cqf_model.specs.declared.topology.Row.{Row}
use Rattle.cqf_program_runs.specs.declared.deliveries.delivery.Delivery.{Delivery}
use Rattle.cqf_program_runs.specs.declared.deliveries.delivery.Fate.{Fate}
use Rattle.cqf_program_runs.specs.declared.deliveries.delivery.Fate.TheVariants as fate
use Rattle.cqf_program_runs.specs.declared.deliveries.delivery.Journey.{Journey}
use Rattle.cqf_program_runs.specs.declared.deliveries.delivery.Passage.{Passage}
use Rattle.cqf_program_runs.specs.declared.deliveries.delivery.Passage.TheVariants as passage
use Rattle.cqf_program_runs.specs.Check.Checked.{is_delivered, is_under_way}
use Rattle.cqf_program_runs.specs.Deliveries.{end_of_journey, end_of_passage, fate_of, latency_of}
use Rattle.cqf_model.specs.declared.frames.Dropped.{Dropped}
use Rattle.cqf_model.specs.Book.{Contents}
use Rattle.cqf_model.specs.Domain.{is_text}
use Rattle.cqf_model.specs.Promise.{IsDecided, SaysTheShift}
use Rattle.cqf_model.specs.Run.{Run}
use Rattle.cqf_model.specs.Shift.{IsCovered, IsUncovered, offer_cycle, row_for}
use Rattle.cqf_model.specs.Table.{AreOrderly}
use Rattle.cqf_model.specs.Policing.{DroppedFor, ExceedsGate, LacksRow, Queued, Verdict, numbered}
use Rattle.cqf_laws_shift.proofs.Decided.{is_decided, judged}
use Rattle.cqf_topology.specs.DomainText.{IsDomain}
use Rattle.cqf_topology.specs.PlannedText.{PlannedText}
use Rattle.cqf_program_plans.specs.EndNames.{name_of_end}
use Rattle.cqf_program_plans.specs.Latency.Text.{listeners_of}
use Rattle.cqf_program_runs.specs.Deliveries.ArrivalLaws.{EachIsWrittenOnce, EachListenerIsWrittenOnce, goes_to}
use Rattle.cqf_program_runs.specs.Deliveries.{deadline_named, deliveries_by, deliveries_of, deliveries_of_offer, deliveries_to, deliveries_unless, delivery_of, delivery_to, drop_of, whole_on}
use Rattle.cqf_program_runs.proofs.Well.{of_covered, of_uncovered}
use Rattle.cqf_program_summary.specs.Summary.{deliveries_named, offers_named, offers_within}
use Rattle.cqf_program_summary.specs.Summary.Tallies.{count_to, is_dropped, is_late, reaches}

-- sums of members that agree
pub sum_same : {X : Type 0} (f g : X → ℕ) (xs : List X) → ((x : X) → Contains xs x → f x ≡ g x) → sum_by f xs ≡ sum_by g xs
sum_same {X} f g xs same = fold_same (λ (n : ℕ) (x : X). n + f x) (λ (n : ℕ) (x : X). n + g x) 0 xs (λ n x c. ap (λ (k : ℕ). n + k) (same x c))

-- 1 if a test passes
abbrev pub one_if : Bool → ℕ
one_if b = if b then 1 else 0

-- in how many of the four ways a delivery counts at a listener
abbrev pub counts_at : Option (List ℕ) → Delivery → ℕ
counts_at listener y =
    one_if (reaches listener y.passage && is_delivered (fate_of y)) + one_if (reaches listener y.passage && is_late (fate_of y))
    + one_if (is_dropped (fate_of y)) + one_if (reaches listener y.passage && is_under_way (fate_of y))

-- the fate of a frame on a journey is one of three
journey_counts : (b : Bool) (f : Fate) → is_dropped f ≡ false →
    one_if (b && is_delivered f) + one_if (b && is_late f) + one_if (is_dropped f) + one_if (b && is_under_way f) ≡ one_if b
journey_counts true fate.Delivered e = refl
journey_counts true fate.Late e = refl
journey_counts true fate.UnderWay e = refl
journey_counts true (fate.Dropped reason) e = absurd cc
journey_counts false fate.Delivered e = refl
journey_counts false fate.Late e = refl
journey_counts false fate.UnderWay e = refl
journey_counts false (fate.Dropped reason) e = absurd cc

not_dropped : (at : ℕ) (journey : Journey) → is_dropped (end_of_journey at journey.whole journey.deadline) ≡ false
not_dropped at journey = by (journey.whole) (journey.deadline)
  where
    late_or_not : (b : Bool) → is_dropped (if b then fate.Late else fate.Delivered) ≡ false
    late_or_not true = refl
    late_or_not false = refl

    by : (whole : Option Nanos) (deadline : Option ℕ) → is_dropped (end_of_journey at whole deadline) ≡ false
    by None deadline = refl
    by (Some whole) None = refl
    by (Some whole) (Some deadline) = late_or_not (nat_lt deadline (latency_of at whole))

pub goes_counts : (listener : Option (List ℕ)) (y : Delivery) (journey : Journey) → y.passage ≡ passage.Goes journey →
    counts_at listener y ≡ one_if (reaches listener y.passage)
goes_counts listener y journey goes =
    journey_counts (reaches listener y.passage) (fate_of y)
    (ap (λ (p : Passage). is_dropped (end_of_passage y.at.0 p)) goes ∙ not_dropped y.at.0 journey)

-- a drop counts once
drop_reaches : (listener : Option (List ℕ)) (reason : Reason) → reaches listener (passage.Dropped reason) ≡ false
drop_reaches None reason = refl
drop_reaches (Some name) reason = refl

pub drop_counts : (listener : Option (List ℕ)) (y : Delivery) (reason : Reason) → y.passage ≡ passage.Dropped reason → counts_at listener y ≡ 1
drop_counts listener y reason drops =
    let nowhere : reaches listener y.passage ≡ false = ap (reaches listener) drops ∙ drop_reaches listener reason in
    let f : fate_of y ≡ fate.Dropped reason = ap (end_of_passage y.at.0) drops in
    λ i. one_if (nowhere i && is_delivered (f i)) + one_if (nowhere i && is_late (f i)) + one_if (is_dropped (f i)) + one_if (nowhere i && is_under_way (f i))

-- the four counts together
pub four_counts : (listener : Option (List ℕ)) (ds : List Delivery) →
    count_to listener is_delivered ds + count_to listener is_late ds + count_by (λ (y : Delivery). is_dropped (fate_of y)) ds
    + count_to listener is_under_way ds ≡ sum_by (counts_at listener) ds
four_counts listener ds =
    let a : Delivery → ℕ = λ y. one_if (reaches listener y.passage && is_delivered (fate_of y)) in
    let b : Delivery → ℕ = λ y. one_if (reaches listener y.passage && is_late (fate_of y)) in
    let c : Delivery → ℕ = λ y. one_if (is_dropped (fate_of y)) in
    let e : Delivery → ℕ = λ y. one_if (reaches listener y.passage && is_under_way (fate_of y)) in
    omega (arith, sum_plus (λ y. a y + b y + c y) e ds, sum_plus (λ y. a y + b y) c ds, sum_plus a b ds)

module _ (run : Run) (streams : List PlannedText) (book : Contents) (says : SaysTheShift run book) (domain : IsDomain run.domain)
    (orderly : AreOrderly run.domain run.tables) (once : EachIsWrittenOnce) (listeners : EachListenerIsWrittenOnce) where
  -- the deliveries of an offer have its name
  stream_by : (x : Offered) (y : Delivery) (found : Option Row) →
      Contains (deliveries_by run.domain (whole_on run.domain book.starts x.frame) (deadline_named streams x.offer.stream) x found) y →
      y.stream ≡ x.offer.stream
  stream_by x y None c = absurd (contains_none y c)
  stream_by x y (Some row) c =
      let hop = contains_from_map (delivery_to run.domain (whole_on run.domain book.starts x.frame) (deadline_named streams x.offer.stream) x)
      (listeners_of run.domain row) y c in
      ap (λ (z : Delivery). z.stream) (sym hop.2)

  stream_unless : (x : Offered) (y : Delivery) (found : Option Dropped) → Contains (deliveries_unless run streams book x found) y →
      y.stream ≡ x.offer.stream
  stream_unless x y None c = stream_by x y (row_for run.domain run.tables x) c
  stream_unless x y (Some dropped) c =
      ap (λ (z : Delivery). z.stream) (sym (contains_one (delivery_of run.domain x (passage.Dropped dropped.reason)) y c))

  pub stream_of : (x : Offered) (y : Delivery) → Contains (deliveries_of_offer run streams book x) y → y.stream ≡ x.offer.stream
  stream_of x y c = by (nat_lt (offer_cycle run.domain x) (length run.tables)) c
    where
      by : (b : Bool) → Contains (if b then deliveries_unless run streams book x (drop_of book.drops x.frame) else []) y → y.stream ≡ x.offer.stream
      by true k = stream_unless x y (drop_of book.drops x.frame) k
      by false k = absurd (contains_none y k)

  module _ (n : List ℕ) (to : Option (List ℕ))
      (leads : (x : Offered) (row : Row) → IsCovered run x row → is_text x.offer.stream n ≡ true →
      (hop : Hop) × Contains (listeners_of run.domain row) hop × (to ≡ Some (name_of_end run.domain hop.link))) where
    -- an offer of the name that is covered goes to the listener once
    covered_counts : (x : Offered) → Contains (numbered run.offers) x → offer_cycle run.domain x < length run.tables → is_text x.offer.stream n ≡ true →
        (row : Row) → IsCovered run x row → sum_by (counts_at to) (deliveries_of_offer run streams book x) ≡ 1
    covered_counts x inside within own row covered =
        let whole = whole_on run.domain book.starts x.frame in
        let deadline = deadline_named streams x.offer.stream in
        let there = leads x row covered own in
        let hop : Hop = there.0 in
        let reported = (once run streams book x says inside within).as_covered row covered in
        ap (sum_by (counts_at to)) (of_covered run streams book says x inside within row covered)
        ∙ sum_same (counts_at to) (λ (y : Delivery). one_if (reaches to y.passage)) (deliveries_to run.domain whole deadline x row)
        (λ y c.
        let from = contains_from_map (delivery_to run.domain whole deadline x) (listeners_of run.domain row) y c in
        goes_counts to y (record { listener = name_of_end run.domain from.0.link; whole = whole from.0.link; deadline = deadline })
        (ap (λ (z : Delivery). z.passage) (sym from.2)))
        ∙ ap (λ (o : Option (List ℕ)). sum_by (λ (y : Delivery). one_if (reaches o y.passage)) (deliveries_to run.domain whole deadline x row)) there.2
        ∙ ap (λ (ds : List Delivery). count_by (λ (y : Delivery). goes_to (name_of_end run.domain hop.link) y.passage) ds) (sym reported)
        ∙ listeners run streams book x row hop domain orderly says inside within covered there.1

    -- and one that isn't covered is dropped once
    uncovered_counts : (x : Offered) → Contains (numbered run.offers) x → offer_cycle run.domain x < length run.tables → (reason : Reason) →
        IsUncovered run x reason → sum_by (counts_at to) (deliveries_of_offer run streams book x) ≡ 1
    uncovered_counts x inside within reason uncovered =
        let one = drop_counts to (delivery_of run.domain x (passage.Dropped reason)) reason refl in
        let alone : sum_by (counts_at to) (delivery_of run.domain x (passage.Dropped reason) ∷ []) ≡ 1 = omega (arith, one) in
        ap (sum_by (counts_at to)) (of_uncovered run streams book says x inside within reason uncovered) ∙ alone

    pub by_verdict : (x : Offered) → Contains (numbered run.offers) x → offer_cycle run.domain x < length run.tables → is_text x.offer.stream n ≡ true →
        (v : Verdict) → IsDecided run x v → sum_by (counts_at to) (deliveries_of_offer run streams book x) ≡ 1
    by_verdict x inside within own (Queued row) covered = covered_counts x inside within own row covered
    by_verdict x inside within own (DroppedFor reason) uncovered = uncovered_counts x inside within reason uncovered
    by_verdict x inside within own LacksRow never = absurd never
    by_verdict x inside within own ExceedsGate never = absurd never

    -- so it counts as often as it is offered
    offer_counts : (x : Offered) → Contains (numbered run.offers) x →
        sum_by (λ (y : Delivery). if is_text y.stream n then counts_at to y else 0) (deliveries_of_offer run streams book x)
        ≡ (if nat_lt (offer_cycle run.domain x) (length run.tables) then one_if (is_text x.offer.stream n) else 0)
    offer_counts x inside =
        sum_same (λ (y : Delivery). if is_text y.stream n then counts_at to y else 0) (λ (y : Delivery). if is_text x.offer.stream n then counts_at to y else 0)
        (deliveries_of_offer run streams book x)
        (λ y c. ap (λ (m : List ℕ). if is_text m n then counts_at to y else 0) (stream_of x y c))
        ∙ by (is_text x.offer.stream n) refl (nat_lt (offer_cycle run.domain x) (length run.tables)) refl
      where
        by : (own : Bool) → is_text x.offer.stream n ≡ own → (ran : Bool) → nat_lt (offer_cycle run.domain x) (length run.tables) ≡ ran →
            sum_by (λ (y : Delivery). if own then counts_at to y else 0) (deliveries_of_offer run streams book x) ≡ (if ran then one_if own else 0)
        by own is false late =
            ap (λ (ds : List Delivery). sum_by (λ (y : Delivery). if own then counts_at to y else 0) ds)
            (ap (λ (b : Bool). if b then deliveries_unless run streams book x (drop_of book.drops x.frame) else []) late)
        by true is true ran =
            let within : offer_cycle run.domain x < length run.tables = grind (arith, nat_tests) in
            by_verdict x inside within is (judged run x) (is_decided run x inside)
        by false is true ran = sum_none (λ (y : Delivery). 0) (deliveries_of_offer run streams book x) (λ y c. refl)

    pub row_adds_up : sum_by (counts_at to) (deliveries_named n (deliveries_of run streams book))
        ≡ offers_named n (offers_within run.domain (length run.tables) (numbered run.offers))
    row_adds_up =
        sum_filter (counts_at to) (λ (y : Delivery). is_text y.stream n) (deliveries_of run streams book)
        ∙ sum_flat (λ (y : Delivery). if is_text y.stream n then counts_at to y else 0) (deliveries_of_offer run streams book) (numbered run.offers)
        ∙ sum_same (λ (x : Offered). sum_by (λ (y : Delivery). if is_text y.stream n then counts_at to y else 0) (deliveries_of_offer run streams book x))
        (λ (x : Offered). if nat_lt (offer_cycle run.domain x) (length run.tables) then one_if (is_text x.offer.stream n) else 0) (numbered run.offers)
        (λ x c. offer_counts x c)
        ∙ sym (sum_filter (λ (x : Offered). one_if (is_text x.offer.stream n)) (λ (x : Offered). nat_lt (offer_cycle run.domain x) (length run.tables))
        (numbered run.offers))
