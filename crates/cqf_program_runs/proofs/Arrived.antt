-- The deliveries that have arrived are the shift's frames on links to stations.
use Rattle.std.proofs.Common.{◌≡◌, ◌∙◌, ◌<◌, ◌-◌, ◌==◌, ◌&&◌, [], ℕ, Bool, true, false, List, Option, Some, None}
use Rattle.std.proofs.Common.{Contains, ap, arith, if◌then◌else◌, length, nat_lt, option_map, refl, subst, subst₂, sym}
use Rattle.std.proofs.lemmas.Bool.{false≢true}
use Rattle.std.proofs.lemmas.Bool.Decides.{nat_tests}
use Rattle.cqf_lists.proofs.Members.{contains_filter, contains_flat, contains_from_flat, contains_from_map}
use Rattle.cqf_lists.proofs.Members.{contains_map, contains_none, contains_one, find_member, find_some}
use Rattle.cqf_units.specs.declared.timing.Nanos.{Nanos}
use Rattle.cqf_model.specs.declared.frames.Offered.{Offered}
use Rattle.cqf_model.specs.declared.frames.Started.{Started}
use Rattle.cqf_model.specs.declared.topology.Hop.{Hop}
use Rattle.cqf_model.specs.declared.topology.Row.{Row}
use Rattle.cqf_model.specs.Book.{Contents}
use Rattle.cqf_model.specs.Domain.{end_of}
use Rattle.cqf_model.specs.Run.{Run}
use Rattle.cqf_model.specs.Shift.{InShift, IsCovered, offer_cycle}
use Rattle.cqf_model.specs.Policing.{DroppedFor, ExceedsGate, LacksRow, Queued, Verdict, numbered}
use Rattle.cqf_model.specs.Promise.{SaysTheShift, IsDecided}
use Rattle.cqf_topology.specs.PlannedText.{PlannedText}
use Rattle.cqf_laws_shift.proofs.Decided.{is_decided, judged}
use Rattle.cqf_program_plans.specs.EndNames.{name_of_end}
use Rattle.cqf_program_plans.specs.Latency.Text.{is_station, listeners_of}
use Rattle.cqf_program_runs.specs.declared.deliveries.delivery.Passage.TheVariants as passage
use Rattle.cqf_program_runs.specs.declared.deliveries.delivery.Delivery.{Delivery}
use Rattle.cqf_program_runs.specs.declared.deliveries.delivery.Fate.TheVariants as fate
use Rattle.cqf_program_runs.specs.Deliveries.ArrivalLaws.{AreTheShift, HasArrived, IsArrivalOfOffer, has_come}
use Rattle.cqf_program_runs.specs.Deliveries.{arrival_at_listener, deadline_named, deliveries_of_offer, deliveries_to}
use Rattle.cqf_program_runs.specs.Deliveries.{deliveries_unless, delivery_of, delivery_to, drop_of, fate_of, start_on}
use Rattle.cqf_program_runs.specs.Deliveries.{whole_instant, whole_on}
use Rattle.cqf_program_runs.proofs.Fates.{first_passes, second_passes}
use Rattle.cqf_program_runs.proofs.Well.{of_covered, of_uncovered}

-- a frame that is whole has arrived, regardless of its deadline
pub come_by : (at : ℕ) (whole : Nanos) (deadline : Option ℕ) → has_come (arrival_at_listener at whole deadline) ≡ true
come_by at whole None = refl
come_by at whole (Some deadline) = either (nat_lt deadline (whole.0 - at))
  where
    -- in time or late
    either : (b : Bool) → has_come (if b then fate.Late else fate.Delivered) ≡ true
    either true = refl
    either false = refl

-- a start on a link, by its frame and link
pub at_start : (starts : List Started) (frame link : ℕ) (start : Started) → start_on starts frame link ≡ Some start →
    Contains starts start × (start.frame ≡ frame) × (start.link ≡ link)
at_start starts frame link start is =
    let member = find_member (λ (s : Started). (s.frame == frame) && (s.link == link)) starts start is in
    let first : (start.frame == frame) ≡ true = first_passes (start.frame == frame) (start.link == link) member.1 in
    let second : (start.link == link) ≡ true = second_passes (start.frame == frame) (start.link == link) member.1 in
    let own : start.frame ≡ frame = grind (arith, nat_tests) in
    let on : start.link ≡ link = grind (arith, nat_tests) in
    (member.0, own, on)

module _ (run : Run) (streams : List PlannedText) (book : Contents) (says : SaysTheShift run book) where
  -- the delivery of a frame to the end of a hop, given its start there
  abbrev path : Offered → Hop → Option Started → Delivery
  path x hop start = delivery_of run.domain x (passage.Goes (record {
    listener = name_of_end run.domain hop.link;
    whole = option_map (whole_instant run.domain) start;
    deadline = deadline_named streams x.offer.stream;
  }))

  -- a start is in the shift
  shifted : (x : Offered) (hop : Hop) (start : Started) → Contains book.starts start × (start.frame ≡ x.frame) × (start.link ≡ hop.link) →
      InShift run (length run.tables) x.frame hop.link start.cycle.0
  shifted x hop start at = subst₂ (λ (frame link : ℕ). InShift run (length run.tables) frame link start.cycle.0) at.1 at.2 (says.only start at.0)

  -- a delivery to a listener, if the frame starts on the link there
  abbrev by_start : (x : Offered) (row : Row) (hop : Hop) (delivery : Delivery) → IsCovered run x row → Contains (listeners_of run.domain row) hop →
      path x hop (start_on book.starts x.frame hop.link) ≡ delivery → (start : Started) → start_on book.starts x.frame hop.link ≡ Some start →
      IsArrivalOfOffer run streams book delivery
  by_start x row hop delivery covered among is start e = record {
    x = x;
    row = row;
    hop = hop;
    start = start;
    covered = covered;
    among = among;
    starts = e;
    in_shift = shifted x hop start (at_start book.starts x.frame hop.link start e);
    is = sym is ∙ ap (path x hop) e;
  }

  -- a delivery to a listener that has arrived
  to_listener : (x : Offered) (row : Row) (hop : Hop) (delivery : Delivery) → IsCovered run x row → Contains (listeners_of run.domain row) hop →
      path x hop (start_on book.starts x.frame hop.link) ≡ delivery → has_come (fate_of delivery) ≡ true →
      (found : Option Started) → start_on book.starts x.frame hop.link ≡ found → IsArrivalOfOffer run streams book delivery
  to_listener x row hop delivery covered among is come None e = absurd (false≢true (
      ap (λ (o : Option Started). has_come (fate_of (path x hop o))) (sym e) ∙ ap (λ (z : Delivery). has_come (fate_of z)) is ∙ come))
  to_listener x row hop delivery covered among is come (Some start) e = by_start x row hop delivery covered among is start e

  -- of an offer of a cycle that is run
  of_verdict : (x : Offered) (delivery : Delivery) → Contains (numbered run.offers) x → offer_cycle run.domain x < length run.tables →
      Contains (deliveries_of_offer run streams book x) delivery → has_come (fate_of delivery) ≡ true → (v : Verdict) → IsDecided run x v →
      IsArrivalOfOffer run streams book delivery
  of_verdict x delivery inside within own come (Queued row) covered =
      let whole = whole_on run.domain book.starts x.frame in
      let deadline = deadline_named streams x.offer.stream in
      let to : Contains (deliveries_to run.domain whole deadline x row) delivery =
      subst (λ (ds : List Delivery). Contains ds delivery) (of_covered run streams book says x inside within row covered) own in
      let hop = contains_from_map (delivery_to run.domain whole deadline x) (listeners_of run.domain row) delivery to in
      to_listener x row hop.0 delivery covered hop.1 hop.2 come (start_on book.starts x.frame hop.0.link) refl
  of_verdict x delivery inside within own come (DroppedFor reason) uncovered = absurd (
      let dropped = delivery_of run.domain x (passage.Dropped reason) in
      let is : dropped ≡ delivery =
      contains_one dropped delivery
      (subst (λ (ds : List Delivery). Contains ds delivery) (of_uncovered run streams book says x inside within reason uncovered) own) in
      false≢true (ap (λ (z : Delivery). has_come (fate_of z)) is ∙ come))
  of_verdict x delivery inside within own come LacksRow never = absurd never
  of_verdict x delivery inside within own come ExceedsGate never = absurd never

  -- of any offer
  of_offer : (x : Offered) (delivery : Delivery) → Contains (numbered run.offers) x → Contains (deliveries_of_offer run streams book x) delivery →
      has_come (fate_of delivery) ≡ true → (b : Bool) → nat_lt (offer_cycle run.domain x) (length run.tables) ≡ b → IsArrivalOfOffer run streams book delivery
  of_offer x delivery inside own come true e =
      let within : offer_cycle run.domain x < length run.tables = grind (arith, nat_tests) in
      of_verdict x delivery inside within own come (judged run x) (is_decided run x inside)
  of_offer x delivery inside own come false e = absurd (contains_none delivery (
      subst (λ (b : Bool). Contains (if b then deliveries_unless run streams book x (drop_of book.drops x.frame) else []) delivery) e own))

  -- and each frame of the shift has arrived
  each_arrives : (frame link cycle : ℕ) → InShift run (length run.tables) frame link cycle → is_station (end_of run.domain link) ≡ true →
      HasArrived run streams book frame link
  each_arrives frame link cycle shift station =
      let x = shift.x in
      let row = shift.row in
      let hop = shift.is_hop.hop in
      let whole = whole_on run.domain book.starts x.frame in
      let deadline = deadline_named streams x.offer.stream in
      let delivery = delivery_to run.domain whole deadline x hop in
      let within : offer_cycle run.domain x < length run.tables = omega (arith, shift.is_cycle, shift.within_run) in
      let among : Contains (listeners_of run.domain row) hop =
      contains_filter (λ (h : Hop). is_station (end_of run.domain h.link)) row.tree.items hop shift.is_hop.of_tree
      (ap (λ (l : ℕ). is_station (end_of run.domain l)) shift.is_hop.is_link ∙ station) in
      let own : Contains (deliveries_of_offer run streams book x) delivery =
      subst (λ (ds : List Delivery). Contains ds delivery) (sym (of_covered run streams book says x shift.covered.offered within row shift.covered))
      (contains_map (delivery_to run.domain whole deadline x) (listeners_of run.domain row) hop among) in
      let reported = says.each frame link cycle shift in
      let start = reported.0 in
      let same_frame : start.frame ≡ x.frame = reported.2 ∙ shift.is_frame in
      let same_link : start.link ≡ hop.link = reported.3 ∙ sym shift.is_hop.is_link in
      let passes : ((start.frame == x.frame) && (start.link == hop.link)) ≡ true = both start x hop same_frame same_link in
      let found = find_some (λ (s : Started). (s.frame == x.frame) && (s.link == hop.link)) book.starts start reported.1 passes in
      let come : has_come (fate_of delivery) ≡ true =
      ap (λ (o : Option Started). has_come (fate_of (path x hop o))) found.1 ∙ come_by x.offer.at.0 (whole_instant run.domain found.0) deadline in
      record {
        delivery = delivery;
        listed = contains_flat (deliveries_of_offer run streams book) (numbered run.offers) x delivery shift.covered.offered own;
        come = come;
        arrival = by_start x row hop delivery shift.covered among refl found.0 found.1;
        of_frame = sym shift.is_frame;
        on_link = shift.is_hop.is_link;
      }
    where
      -- both are the same
      both : (start : Started) (x : Offered) (hop : Hop) → start.frame ≡ x.frame → start.link ≡ hop.link →
          ((start.frame == x.frame) && (start.link == hop.link)) ≡ true
      both start x hop own on =
          let first : (start.frame == x.frame) ≡ true = grind (arith, nat_tests) in
          let second : (start.link == hop.link) ≡ true = grind (arith, nat_tests) in
          ap (λ (b : Bool). b && (start.link == hop.link)) first ∙ second

  pub are_the_shift : AreTheShift run streams book
  are_the_shift = record {
    only = λ delivery among come.
        let from = contains_from_flat (deliveries_of_offer run streams book) (numbered run.offers) delivery among in
        of_offer from.0 delivery from.1 from.2 come (nat_lt (offer_cycle run.domain from.0) (length run.tables)) refl;
    each = each_arrives;
  }
