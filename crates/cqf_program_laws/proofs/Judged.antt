-- What the verdicts of `latency` say about deliveries.
use Rattle.std.proofs.Common.{◌≡◌, ◌≢◌, ◌∙◌, ◌+◌, ◌-◌, ◌≤◌, ◌∷◌, [], ℕ, Bool, true, false, List, Option, Some, None, Ok}
use Rattle.std.proofs.Common.{arith, ap, sym, subst, subst₂, refl, Contains, length, if◌then◌else◌, lt-ltb, nat_lt}
use Rattle.std.specs.Prelude.{option_map}
use Rattle.std.proofs.lemmas.Bool.{ltb-true}
use Rattle.std.proofs.lemmas.Option.{same_Some}
use Rattle.cqf_lists.proofs.Members.{contains_from_filter, contains_from_flat, contains_from_map, find_member}
use Rattle.cqf_lists.proofs.Pairs.{one_of_pairs}
use Rattle.cqf_units.specs.declared.timing.Nanos.{Nanos}
use Rattle.cqf_model.specs.declared.frames.Background.{Background}
use Rattle.cqf_model.specs.declared.frames.Offer.{Offer}
use Rattle.cqf_model.specs.declared.frames.Offered.{Offered}
use Rattle.cqf_model.specs.declared.topology.Hop.{Hop}
use Rattle.cqf_model.specs.declared.topology.Row.{Row}
use Rattle.cqf_model.specs.Book.{Contents}
use Rattle.cqf_model.specs.Domain.{Domain, end_of, is_text}
use Rattle.cqf_model.specs.History.{Asked, IsLegalHistory, Recorded, held_in, most_beside, refusal_of, seals, tables_of}
use Rattle.cqf_model.specs.HistoryBook.{IsBookOfHistory, run_of_history}
use Rattle.cqf_model.specs.Run.{AreBackground, AreOffers, Run}
use Rattle.cqf_model.specs.Shift.{InShift, offer_cycle}
use Rattle.cqf_model.specs.Table.{SameStream, table_of}
use Rattle.cqf_model.proofs.Texts.{is_text_same}
use Rattle.cqf_laws_history.specs.HistoryLaws.{TablesAreOrderly}
use Rattle.cqf_laws_shift.specs.BookOfHistory.{BookOfHistorySaysTheShift}
use Rattle.cqf_laws_shift.proofs.Came.{one_number}
use Rattle.cqf_laws_timing.specs.Latency.{whole_of}
use Rattle.cqf_laws_timing.specs.Streams.{AdmitsOnly, AdmittedHaveNames, AreGranted, with_all}
use Rattle.cqf_laws_timing.specs.Verdicts.{InTime, IsAsSaid, Late, MayBeLate, Sure, sure_of}
use Rattle.cqf_laws_timing.specs.Reported.{IsAsReportedAt, NamesIdentifyStreams, ReportedBoundsHold, RowsArePlanned, planned_rows, reported_cost}
use Rattle.cqf_topology.specs.DomainText.{IsDomain}
use Rattle.cqf_topology.specs.PlannedText.{PlannedText}
use Rattle.cqf_program_scenario.specs.Calls.{history_of}
use Rattle.cqf_program_plans.specs.declared.latency.latencies.Latency.{Latency}
use Rattle.cqf_program_plans.specs.declared.latency.latencies.Verdict.TheVariants as reported
use Rattle.cqf_program_plans.specs.Compile.Output.{admitted_from, stream_line, with_asked}
use Rattle.cqf_program_plans.specs.EndNames.{name_of_end}
use Rattle.cqf_program_plans.specs.Latency.Input.{asked_in, deadlines_in}
use Rattle.cqf_program_plans.specs.Latency.Text.{deadline_of, is_station, latencies_of_row, latency_to, listeners_of, said_of_latency}
use Rattle.cqf_program_plans.proofs.CompileLemmas.{refuse_ok, same_ok}
use Rattle.cqf_program_runs.specs.declared.deliveries.delivery.Delivery.{Delivery}
use Rattle.cqf_program_runs.specs.declared.deliveries.delivery.Fate.TheVariants as fate
use Rattle.cqf_program_runs.specs.declared.deliveries.delivery.Journey.{Journey}
use Rattle.cqf_program_runs.specs.declared.deliveries.delivery.Passage.{Passage}
use Rattle.cqf_program_runs.specs.declared.deliveries.delivery.Passage.TheVariants as passage
use Rattle.cqf_program_runs.specs.Deliveries.ArrivalLaws.{ArrivalsAreTheShift, IsArrivalOfOffer, has_come}
use Rattle.cqf_program_runs.specs.Deliveries.{arrival_at_listener, deadline_named, end_of_journey, end_of_passage, fate_of}
use Rattle.cqf_program_runs.specs.Deliveries.{latency_of, whole_instant}
use Rattle.cqf_program_runs.proofs.Arrived.{at_start, come_by}
use Rattle.cqf_program_runs.proofs.Listeners.{one_listener}
use Rattle.cqf_program_laws.specs.ScriptLaws.{AccountsAdmitOnly, HistoriesAdmitOnly, HistoriesAreLegal, PlannedScenariosAskOnly}
use Rattle.cqf_program_laws.specs.VerdictLaws.{IsAsJudged, VerdictsHoldOfAccounts, VerdictsHoldOfDeliveries, VerdictsHoldOfScripts, printed_latencies}
use Rattle.cqf_program_laws.proofs.Deadlines.{deadline_is}

-- ---- verdicts by numbers

pub said_in_time : (sure : Sure) → said_of_latency sure ≡ reported.InTime → sure ≡ InTime
said_in_time InTime e = refl
said_in_time Late e = absurd (cc)
said_in_time MayBeLate e = absurd (cc)

pub said_late : (sure : Sure) → said_of_latency sure ≡ reported.Late → sure ≡ Late
said_late InTime e = absurd (cc)
said_late Late e = refl
said_late MayBeLate e = absurd (cc)

-- a frame that is whole within its deadline isn't late
not_late : (at : ℕ) (whole : Nanos) (deadline : ℕ) → whole.0 ≤ at + deadline → (b : Bool) → nat_lt deadline (whole.0 - at) ≡ b →
    (if b then fate.Late else fate.Delivered) ≡ fate.Late → ⊥
not_late at whole deadline within true e is = omega (arith, within, ltb-true deadline (whole.0 - at) e)
not_late at whole deadline within false e is = cc

-- what is known of a delivery that has arrived: when its frame was offered and when it was whole, and that the latency's bounds hold for it
record HasBounds (latency : Latency) (delivery : Delivery) : Type 0 where
  at : ℕ
  whole : Nanos
  at_is : delivery.at.0 ≡ at
  whole_is : (journey : Journey) → delivery.passage ≡ passage.Goes journey → journey.whole ≡ Some whole
  fate_is : fate_of delivery ≡ arrival_at_listener at whole latency.deadline
  least : at + latency.least ≤ whole.0
  most : whole.0 ≤ at + latency.most
  said : (deadline : ℕ) → IsAsSaid at whole.0 deadline (sure_of latency.least latency.most deadline)

-- the bounds, by the instants
within_by : (latency : Latency) (from at : ℕ) (whole other : Nanos) → from ≡ at → other ≡ whole → at + latency.least ≤ whole.0 →
    whole.0 ≤ at + latency.most → (latency.least ≤ latency_of from other) × (latency_of from other ≤ latency.most)
within_by latency from at whole other same is least most =
    let instant : other.0 ≡ whole.0 = ap (λ (n : Nanos). n.0) is in
    (omega (arith, same, instant, least), omega (arith, same, instant, most))

in_time_by : (at least most : ℕ) (whole : Nanos) (deadline : Option ℕ) →
    ((end : ℕ) → IsAsSaid at whole.0 end (sure_of least most end)) →
    option_map (λ (end : ℕ). said_of_latency (sure_of least most end)) deadline ≡ Some reported.InTime →
    arrival_at_listener at whole deadline ≡ fate.Late → ⊥
in_time_by at least most whole None said verdict late = absurd (cc)
in_time_by at least most whole (Some end) said verdict late =
    let sure = said_in_time (sure_of least most end) (same_Some (said_of_latency (sure_of least most end)) reported.InTime verdict) in
    not_late at whole end ((said end).in_time sure) (nat_lt end (whole.0 - at)) refl late

late_by : (at least most : ℕ) (whole : Nanos) (deadline : Option ℕ) →
    ((end : ℕ) → IsAsSaid at whole.0 end (sure_of least most end)) →
    option_map (λ (end : ℕ). said_of_latency (sure_of least most end)) deadline ≡ Some reported.Late →
    arrival_at_listener at whole deadline ≡ fate.Late
late_by at least most whole None said verdict = absurd (cc)
late_by at least most whole (Some end) said verdict =
    let sure = said_late (sure_of least most end) (same_Some (said_of_latency (sure_of least most end)) reported.Late verdict) in
    let over = (said end).late sure in
    ap (λ (b : Bool). if b then fate.Late else fate.Delivered) (lt-ltb end (whole.0 - at) (omega (arith, over)))

-- so the verdict is true of it
judged_by : (latency : Latency) (delivery : Delivery) → (has_come (fate_of delivery) ≡ true → HasBounds latency delivery) → IsAsJudged latency delivery
judged_by latency delivery bounds = record {
  within = λ journey whole goes is.
      let come : has_come (fate_of delivery) ≡ true =
      ap (λ (p : Passage). has_come (end_of_passage delivery.at.0 p)) goes
      ∙ ap (λ (o : Option Nanos). has_come (end_of_journey delivery.at.0 o journey.deadline)) is
      ∙ come_by delivery.at.0 whole journey.deadline in
      let b = bounds come in
      within_by latency delivery.at.0 b.at b.whole whole b.at_is (same_Some whole b.whole (sym is ∙ b.whole_is journey goes)) b.least b.most;
  in_time = λ verdict late.
      let b = bounds (ap has_come late) in
      in_time_by b.at latency.least latency.most b.whole latency.deadline b.said verdict (sym b.fate_is ∙ late);
  late = λ verdict come.
      let b = bounds come in
      b.fate_is ∙ late_by b.at latency.least latency.most b.whole latency.deadline b.said verdict;
}

-- ---- plans

-- if all streams are admitted, they are granted, and the history is that of all
pub all_granted : (d : Domain) (entries all : List Recorded) (index : ℕ) (streams : List Asked) → admitted_from d entries index streams ≡ Ok all →
    AreGranted d entries streams × (all ≡ with_all d entries streams)
all_granted d entries all index [] h = (tt, sym (same_ok entries all h))
all_granted d entries all index (asked ∷ more) h =
    let parts = refuse_ok (refusal_of d (held_in d entries (seals entries)) asked) (stream_line index)
    (admitted_from d (with_asked d entries asked) (index + 1) more) all h in
    let rest = all_granted d (with_asked d entries asked) all (index + 1) more parts.1 in
    ((parts.0, rest.0), rest.1)

-- ---- deliveries

-- a passage has only one journey
one_journey : (a b : Journey) → passage.Goes a ≡ passage.Goes b → a ≡ b
one_journey a b e = cc

module _ (planned : RowsArePlanned) (names : NamesIdentifyStreams) (holds : ReportedBoundsHold) (apart : AdmittedHaveNames) (orderly : TablesAreOrderly)
    (d : Domain) (streams : List PlannedText) (entries : List Recorded) (offers : List Offer) (background : List Background) (cycles : ℕ)
    (book : Contents) (domain : IsDomain d) (granted : AreGranted d [] (asked_in streams)) (legal : IsLegalHistory d entries)
    (only : AdmitsOnly (asked_in streams) entries) (offered : AreOffers d offers) (following : AreBackground d background)
    (is : IsBookOfHistory d entries offers background cycles book) where
  abbrev run : Run
  run = run_of_history d entries offers background cycles

  -- a row of the plan, a hop to one of its listeners, and a delivery that has arrived of a frame of the row's name at that hop's listener
  module _ (row : Row) (hop : Hop) (c : Contains (planned_rows d (asked_in streams)) row) (among : Contains (listeners_of d row) hop)
      (delivery : Delivery) (a : IsArrivalOfOffer run streams book delivery) (stream : a.x.offer.stream ≡ row.name)
      (listener : name_of_end d a.hop.link ≡ name_of_end d hop.link) where
    abbrev cycle : ℕ
    cycle = offer_cycle d a.x

    -- the row that covers the offer is of the same stream
    member : Contains (table_of (tables_of d entries cycles) cycle) a.row × (is_text a.row.name a.x.offer.stream ≡ true)
    member = find_member (λ (r : Row). is_text r.name a.x.offer.stream) (table_of (tables_of d entries cycles) cycle) a.row a.covered.named

    same : SameStream row a.row
    same = names d (asked_in streams) entries cycles cycle row a.row granted only c member.0
        (sym stream ∙ sym (is_text_same a.row.name a.x.offer.stream member.1))

    -- and the hop is the one to the listener
    one_hop : a.hop ≡ hop
    one_hop =
        let own = contains_from_filter (λ (h : Hop). is_station (end_of d h.link)) a.row.tree.items a.hop a.among in
        let other = contains_from_filter (λ (h : Hop). is_station (end_of d h.link)) row.tree.items hop among in
        let ends : end_of d a.hop.link ≡ end_of d hop.link = one_listener d a.hop.link hop.link domain own.1 other.1 listener in
        one_of_pairs (λ (x y : Hop). end_of d x.link ≢ end_of d y.link) a.row.tree.items a.hop hop
        ((orderly d entries cycles legal is.sealed).trees cycle a.row member.0).reached_once own.0
        (subst (λ (items : List Hop). Contains items hop) same.tree other.0) (λ differ. differ ends) (λ differ. differ (sym ends))

    -- so the start there is as `latency` says of the hop
    as_written : IsAsReportedAt d (asked_in streams) row hop a.x.offer.at.0 (whole_of d a.start)
    as_written =
        let at = at_start book.starts a.x.frame a.hop.link a.start a.starts in
        let shift : InShift run (length run.tables) a.start.frame a.start.link a.start.cycle.0 =
        subst₂ (λ (frame link : ℕ). InShift run (length run.tables) frame link a.start.cycle.0) (sym at.1) (sym at.2) a.in_shift in
        let one : shift.x ≡ a.x = one_number offers shift.x a.x shift.covered.offered a.covered.offered (sym shift.is_frame ∙ at.1) in
        let other = contains_from_filter (λ (h : Hop). is_station (end_of d h.link)) row.tree.items hop among in
        subst (λ (x : Offered). IsAsReportedAt d (asked_in streams) row hop x.offer.at.0 (whole_of d a.start)) one
        (holds d (asked_in streams) entries offers background cycles book row hop domain.accepted granted legal only offered following is c other.0 a.start at.0
        (at.2 ∙ ap (λ (h : Hop). h.link) one_hop) shift (ap (λ (x : Offered). x.offer.stream) one ∙ stream))

    -- and the deadline is the row's
    same_deadline : deadline_named streams a.x.offer.stream ≡ deadline_of (deadlines_in streams) row.no
    same_deadline =
        let p = planned d (asked_in streams) row granted c in
        deadline_is streams row.no p.asked a.x.offer.stream (apart d (asked_in streams) granted) p.stands (stream ∙ p.name)

    has_bounds : HasBounds (latency_to d (reported_cost d (asked_in streams) row hop.link) row (deadline_of (deadlines_in streams) row.no) hop) delivery
    has_bounds = record {
      at = a.x.offer.at.0;
      whole = whole_instant d a.start;
      at_is = ap (λ (z : Delivery). z.at.0) a.is;
      whole_is = λ journey goes.
          ap (λ (j : Journey). j.whole) (sym (one_journey _ journey (sym (ap (λ (z : Delivery). z.passage) a.is) ∙ goes)));
      fate_is = ap fate_of a.is ∙ ap (arrival_at_listener a.x.offer.at.0 (whole_instant d a.start)) same_deadline;
      least = as_written.timely.least;
      most = as_written.timely.most;
      said = as_written.verdict;
    }

-- in each history that admits streams of the plan alone
pub verdicts_hold_of_deliveries : RowsArePlanned → NamesIdentifyStreams → ReportedBoundsHold → AdmittedHaveNames → TablesAreOrderly → BookOfHistorySaysTheShift →
    ArrivalsAreTheShift → VerdictsHoldOfDeliveries
verdicts_hold_of_deliveries planned names holds apart orderly says arrivals d streams plan entries offers background cycles book domain admitted legal only
    offered following is latency delivery listed among to =
    let g = all_granted d [] plan 1 (asked_in streams) admitted in
    let rows = planned_rows d (asked_in streams) in
    let deadlines = deadlines_in streams in
    let run = run_of_history d entries offers background cycles in
    let written_of : Contains (printed_latencies d (with_all d [] (asked_in streams)) streams) latency =
    subst (λ (p : List Recorded). Contains (printed_latencies d p streams) latency) g.1 listed in
    let r = contains_from_flat (λ (row : Row). latencies_of_row d rows row (deadline_of deadlines row.no)) rows latency written_of in
    let row : Row = r.0 in
    let to_hop : Hop → Latency = λ hop. latency_to d (most_beside rows row.tree.items row.pace hop.link) row (deadline_of deadlines row.no) hop in
    let h = contains_from_map to_hop (listeners_of d row) latency r.2 in
    let shift = arrivals run streams book
    (says d entries offers background cycles book domain.accepted legal offered following is).says in
    judged_by latency delivery (λ come.
    let a = shift.only delivery among come in
    let stream : a.x.offer.stream ≡ row.name =
    sym (ap (λ (z : Delivery). z.stream) a.is) ∙ to.stream ∙ sym (ap (λ (z : Latency). z.stream) h.2) in
    let journey = one_journey _ to.journey (sym (ap (λ (z : Delivery). z.passage) a.is) ∙ to.goes) in
    let listener : name_of_end d a.hop.link ≡ name_of_end d h.0.link =
    ap (λ (j : Journey). j.listener) journey ∙ to.listener ∙ sym (ap (λ (z : Latency). z.listener) h.2) in
    subst (λ (z : Latency). HasBounds z delivery) h.2
    (has_bounds planned names holds apart orderly d streams entries offers background cycles book domain g.0 legal only offered following is row h.0 r.1 h.1
    delivery a stream listener))

-- so in a script
pub verdicts_hold_of_scripts : VerdictsHoldOfDeliveries → PlannedScenariosAskOnly → HistoriesAdmitOnly → HistoriesAreLegal → VerdictsHoldOfScripts
verdicts_hold_of_scripts verdicts asks histories legal limits cycles input s streams plan book short holds domain may admitted is =
    verdicts s.domain streams plan (history_of cycles s) s.offers s.background cycles book domain admitted (legal cycles s short may.room)
    (histories cycles s (asked_in streams) (asks limits cycles input s streams holds)) may.offers may.background is.is_book

-- and in each account
pub verdicts_hold_of_accounts : VerdictsHoldOfDeliveries → PlannedScenariosAskOnly → AccountsAdmitOnly → VerdictsHoldOfAccounts
verdicts_hold_of_accounts verdicts asks accounts limits cycles input s streams plan entries asked book holds domain may admitted commands account =
    verdicts s.domain streams plan entries s.offers s.background cycles book domain admitted account.history.legal
    (accounts cycles s (asked_in streams) asked entries (asks limits cycles input s streams holds) commands account.history) may.offers may.background
    (record { sealed = account.sealed; is_book = account.keeps.is_book })
