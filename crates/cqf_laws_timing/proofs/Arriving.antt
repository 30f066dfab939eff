-- A covered offer of a history's book isn't dropped, and arrives in time.
use Rattle.std.proofs.Common.{◌≡◌, ◌≢◌, ℕ, zero, suc, ◌+◌, ◌<◌, ◌≤◌, ◌∷◌, [], List, Option, Some, None, inl, inr, refl, sym, ap, ◌∙◌, subst, arith, Contains, length}
use Rattle.std.proofs.Common.{fold, max, take, slice_get, if◌then◌else◌}
use Rattle.std.specs.Prelude.{slice_index_or}
use Rattle.std.specs.Option.{option_map_or}
use Rattle.std.proofs.lemmas.Bool.{cases_lt}
use Rattle.std.proofs.lemmas.List.{get_or_past}
use Rattle.cqf_lists.proofs.EachBelow.{contains_from_below, get_or-singles, length-singles}
use Rattle.cqf_lists.proofs.Members.{contains_at, contains_from_filter, contains_from_take, contains_none, contains_one, find_member}
use Rattle.cqf_lists.proofs.Pairs.{one_of_pairs}
use Rattle.cqf_model.specs.declared.frames.Background.{Background}
use Rattle.cqf_model.specs.declared.frames.Dropped.{Dropped}
use Rattle.cqf_model.specs.declared.frames.Offer.{Offer}
use Rattle.cqf_model.specs.declared.frames.Offered.{Offered}
use Rattle.cqf_model.specs.declared.history.Refused.{Refused}
use Rattle.cqf_model.specs.declared.history.Receipt.{Receipt}
use Rattle.cqf_model.specs.declared.history.Reply.{Reply}
use Rattle.cqf_model.specs.declared.history.Reply.TheVariants.{Accepted, Sealed, Refused as RefusedFor}
use Rattle.cqf_model.specs.declared.topology.Row.{Row}
use Rattle.cqf_model.specs.Book.{Contents}
use Rattle.cqf_model.specs.Domain.{Domain, is_text}
use Rattle.cqf_model.specs.Headline.{KeepsThePromise}
use Rattle.cqf_model.specs.History.{Act, Admits, Asked, Branch, IsLegalHistory, Recorded, Seals, Withdraws, admit_reply, held_in, next_number, pace_of, refusal_of}
use Rattle.cqf_model.specs.History.{reply_to, seal_indices, seals, stream_by, streams_of, table_at, tables_of}
use Rattle.cqf_model.specs.HistoryBook.{run_of_history}
use Rattle.cqf_model.specs.Run.{Run}
use Rattle.cqf_model.specs.Shift.{InShift, IsCovered, offer_cycle}
use Rattle.cqf_lists.specs.Lists.{each_below}
use Rattle.cqf_model.specs.Limits.{most_every}
use Rattle.cqf_model.specs.Paces.{is_active}
use Rattle.cqf_model.specs.Table.{IsHop, is_held, reserved_in, table_of, uses}
use Rattle.cqf_laws_timing.specs.Streams.{cost_of_all}
use Rattle.cqf_model.specs.Policing.{DroppedFor, Queued}
use Rattle.cqf_laws_history.specs.StateLaws.{granted_row}
use Rattle.cqf_laws_shift.specs.BookOfHistory.{BookOfHistorySaysTheShift}
use Rattle.cqf_laws_shift.proofs.Came.{one_number}
use Rattle.cqf_laws_shift.proofs.Decided.{covered_judged, judged, uncovered_judged}
use Rattle.cqf_laws_shift.proofs.Trees.{same_hop}
use Rattle.cqf_laws_timing.specs.Latency.{IsTimely, least_of, most_of, whole_of}
use Rattle.cqf_laws_timing.specs.Listeners.{BranchesEnd}
use Rattle.cqf_laws_timing.specs.Streams.{AdmitsOnly, AdmittedHaveNames, AreGranted, HistoryIsTimely, IsOfList, most_beside_all}
use Rattle.cqf_laws_timing.specs.Verdicts.{VerdictsHold, sure_of, sure_on}
use Rattle.cqf_laws_timing.specs.InTime.{ArrivesInTime, ConformingOwnIsInTime, ConformingStreamIsInTime, IsBookOverList, ListenerIsServed, ComesThrough}
use Rattle.cqf_laws_timing.specs.InTime.{PlannedStreamIsInTime}
use Rattle.cqf_laws_timing.specs.Covered.{IsAtItsEdge}
use Rattle.cqf_laws_timing.specs.Traffic.{Conforms, IsTraffic, Traffic, needed, offers_named}
use Rattle.cqf_laws_timing.proofs.Taking.{conforming_own_is_covered, conforming_stream_is_covered}

-- if a row is that of two streams of the list, the bounds are the same
pub bounds_alike : (d : Domain) (streams : List Asked) (row : Row) (of other : IsOfList d streams row) (link : ℕ) →
    most_beside_all d streams of.asked link ≡ most_beside_all d streams other.asked link
bounds_alike d streams row of other link =
    λ i. fold max 0 (each_below (λ cycle.
    if uses ((sym of.tree ∙ other.tree) i) ((sym of.pace ∙ other.pace) i) link cycle then cost_of_all d streams link cycle ∷ [] else []) most_every)

-- a covered offer is in the shift
abbrev pub in_shift : (d : Domain) (entries : List Recorded) (offers : List Offer) (background : List Background) (cycles : ℕ) (x : Offered) (row : Row) →
    IsCovered (run_of_history d entries offers background cycles) x row → (frame hop_number link cycle : ℕ) → frame ≡ x.frame → IsHop row hop_number link →
    cycle ≡ offer_cycle d x + hop_number → offer_cycle d x + hop_number < cycles →
    InShift (run_of_history d entries offers background cycles) (length (tables_of d entries cycles)) frame link cycle
in_shift d entries offers background cycles x row covered frame hop_number link cycle is_frame hop is_cycle lasts = record {
  x = x;
  row = row;
  hop_number = hop_number;
  covered = covered;
  is_frame = is_frame;
  is_hop = hop;
  is_cycle = is_cycle;
  within_run = omega (arith, lasts, is_cycle, length-singles (table_at d entries) cycles);
}

-- ---- one offer

module _ (says : BookOfHistorySaysTheShift) (timely : HistoryIsTimely) (verdicts : VerdictsHold) (d : Domain) (streams : List Asked)
    (entries : List Recorded) (offers : List Offer) (background : List Background) (cycles : ℕ) (book : Contents)
    (over : IsBookOverList d streams entries offers background cycles book) (x : Offered) (row : Row)
    (covered : IsCovered (run_of_history d entries offers background cycles) x row) where
  -- the run
  abbrev run : Run
  run = run_of_history d entries offers background cycles

  -- what the book says
  kept : KeepsThePromise run book
  kept = says d entries offers background cycles book over.accepted over.legal over.offered over.beside over.is_book

  -- no drop is of the offer
  pub not_dropped : (dropped : Dropped) → Contains book.drops dropped → dropped.frame ≢ x.frame
  not_dropped dropped c same =
      let of = kept.says.only_drops dropped c in
      let one : of.x ≡ x = one_number offers of.x x of.uncovered.offered covered.offered (sym of.frame ∙ same) in
      let dropped_for : judged run x ≡ DroppedFor dropped.reason =
      subst (λ (z : Offered). judged run z ≡ DroppedFor dropped.reason) one (uncovered_judged run of.x dropped.reason of.uncovered) in
      let both : DroppedFor dropped.reason ≡ Queued row = sym dropped_for ∙ covered_judged run x row covered in
      absurd cc

  -- so it leaves on each link of its tree, and arrives in time
  pub arrives : (of : IsOfList d streams row) (hop_number link : ℕ) → IsHop row hop_number link → offer_cycle d x + hop_number < cycles →
      ArrivesInTime d streams of.asked book x hop_number link
  arrives of hop_number link hop lasts =
      let cycle = offer_cycle d x + hop_number in
      let s = kept.says.each x.frame link cycle
      (in_shift d entries offers background cycles x row covered x.frame hop_number link cycle refl hop refl lasts) in
      let start = s.0 in
      let shift = in_shift d entries offers background cycles x row covered start.frame hop_number start.link start.cycle.0 s.2
      (subst (λ (l : ℕ). IsHop row hop_number l) (sym s.3) hop) s.4 lasts in
      record {
        start = start;
        is_start = s.1;
        is_frame = s.2;
        is_link = s.3;
        is_cycle = s.4;
        octets = kept.says.octets start x s.1 covered.offered s.2;
        timely =
            let reported = timely d entries offers background cycles book streams over.accepted over.legal over.offered over.beside over.is_book over.only over.paced
            start s.1 shift in
            subst (λ (l : ℕ). IsTimely d l hop_number (most_beside_all d streams of.asked l) x.offer.at.0 (whole_of d start)) s.3
            (subst (λ (n : ℕ). IsTimely d start.link hop_number n x.offer.at.0 (whole_of d start)) (bounds_alike d streams row reported.0 of start.link) reported.1);
        in_time = λ deadline sure.
            let reported = verdicts d entries offers background cycles book streams over.accepted over.legal over.offered over.beside over.is_book over.only over.paced
            start s.1 shift in
            (reported.1 deadline).in_time (ap (λ (n : ℕ). sure_of (least_of d start.link hop_number) (most_of d start.link hop_number n) deadline)
            (bounds_alike d streams row reported.0 of start.link) ∙ ap (λ (l : ℕ). sure_on d streams of.asked l hop_number deadline) s.3 ∙ sure);
      }

  -- and at the listener of each branch of a request that makes the row's tree
  pub served_by : BranchesEnd → (rows : List Row) (of : IsOfList d streams row) (branch : Branch) → refusal_of d rows of.asked ≡ None →
      Contains of.asked.paths branch → ListenerIsServed d streams of.asked cycles book x branch
  served_by ends rows of branch free c =
      let has = ends d rows of.asked branch free c in
      record {
        bridges = has.bridges;
        link = has.link;
        station = has.station;
        ends_at = has.ends_at;
        arrives = arrives of has.bridges has.link (same_hop (granted_row d 0 0 of.asked) row has.bridges has.link (sym of.tree) has.is_hop);
      }

-- ---- which request a row is of

-- a row of a table is that of a stream of the list that was granted
pub record IsGrantedOfList (d : Domain) (streams : List Asked) (row : Row) : Type 0 where
  pub of : IsOfList d streams row
  pub rows : List Row
  pub free : refusal_of d rows of.asked ≡ None

-- a reply that accepts refuses nothing
none_refused : (number effect : ℕ) (receipt : Receipt) (o : Option Refused) → admit_reply number effect o ≡ Accepted receipt → o ≡ None
none_refused number effect receipt None e = refl
none_refused number effect receipt (Some refused) e = absurd cc

module _ (d : Domain) (entries : List Recorded) (streams : List Asked) (legal : IsLegalHistory d entries) (only : AdmitsOnly streams entries) (row : Row) where
  -- by the entry that admits it
  by_act : (index : ℕ) (effect : ℕ) (front : List Recorded) (e : Recorded) (act : Act) (reply : Reply) → slice_get entries index ≡ Some e →
      e.act ≡ act → e.reply ≡ reply → Contains (stream_by d front effect act reply) row → IsGrantedOfList d streams row
  by_act index effect front e (Withdraws name) reply is acts replies c = absurd (contains_none row c)
  by_act index effect front e Seals reply is acts replies c = absurd (contains_none row c)
  by_act index effect front e (Admits asked) (RefusedFor refused) is acts replies c = absurd (contains_none row c)
  by_act index effect front e (Admits asked) Sealed is acts replies c = absurd (contains_none row c)
  by_act index effect front e (Admits asked) (Accepted receipt) is acts replies c =
      let same = contains_one _ row c in
      let before = take index entries in
      let due : reply_to d before (Admits asked) ≡ Accepted receipt =
      ap (reply_to d before) (sym acts) ∙ sym (legal.replies index e is) ∙ replies in
      record {
        of = record {
          asked = asked;
          listed = only e asked receipt (contains_at entries index e is) acts replies;
          name = ap (λ (r : Row). r.name) (sym same);
          octets = ap (λ (r : Row). r.octets) (sym same);
          overhead = ap (λ (r : Row). r.overhead) (sym same);
          pace = ap (λ (r : Row). r.pace) (sym same);
          tree = ap (λ (r : Row). r.tree.items) (sym same);
        };
        rows = held_in d before (seals before);
        free = none_refused (next_number d before) (seals before) receipt (refusal_of d (held_in d before (seals before)) asked) due;
      }

  -- an entry of a prefix is in the whole history
  in_whole : (n index : ℕ) (e : Recorded) → slice_get (take n entries) index ≡ Some e → slice_get entries index ≡ Some e
  in_whole n index e is = in_front entries n index is
    where
      -- in any list
      in_front : (xs : List Recorded) (n index : ℕ) → slice_get (take n xs) index ≡ Some e → slice_get xs index ≡ Some e
      in_front [] n index is = absurd (contains_none e (contains_from_take [] n e (contains_at (take n []) index e is)))
      in_front (x ∷ xs) zero index is = absurd (contains_none e (contains_at [] index e is))
      in_front (x ∷ xs) (suc n) zero is = is
      in_front (x ∷ xs) (suc n) (suc index) is = in_front xs n index is

  -- by its index in a prefix of the history
  granted_in : (n : ℕ) → Contains (streams_of d (take n entries)) row → IsGrantedOfList d streams row
  granted_in n c =
      let front = take n entries in
      let at = contains_from_below
      (λ index. option_map_or (λ (e : Recorded). stream_by d front (seals (take index front)) e.act e.reply) (slice_get front index) []) (length front) row c in
      by_entry at.0 (slice_get front at.0) refl at.2
    where
      -- the stream of the entry there
      by_entry : (index : ℕ) (o : Option Recorded) → slice_get (take n entries) index ≡ o →
          Contains (option_map_or (λ (e : Recorded). stream_by d (take n entries) (seals (take index (take n entries))) e.act e.reply) o []) row →
          IsGrantedOfList d streams row
      by_entry index None is k = absurd (contains_none row k)
      by_entry index (Some e) is k =
          by_act index (seals (take index (take n entries))) (take n entries) e e.act e.reply (in_whole n index e is) refl refl k

  -- this holds for each row of a table
  pub granted_row_of : (cycles cycle : ℕ) → Contains (table_of (tables_of d entries cycles) cycle) row → IsGrantedOfList d streams row
  granted_row_of cycles cycle c =
      elim (cases_lt cycle cycles) [
        | inl less ↦
            let index = slice_index_or (seal_indices entries) cycle (length entries) in
            let there = subst (λ (xs : List Row). Contains xs row) (get_or-singles (table_at d entries) cycles cycle [] less) c in
            granted_in index (contains_from_filter (λ (r : Row). is_held r cycle) (streams_of d (take index entries)) row there).0
        | inr past ↦
            let none : table_of (tables_of d entries cycles) cycle ≡ [] =
            get_or_past (tables_of d entries cycles) cycle [] (omega (arith, past, length-singles (table_at d entries) cycles)) in
            absurd (contains_none row (subst (λ (xs : List Row). Contains xs row) none c))
      ]

-- ---- a plan

module _ (names : AdmittedHaveNames) (d : Domain) (streams : List Asked) (asked : Asked) (row : Row) (granted : AreGranted d [] streams)
    (listed : Contains streams asked) (name : row.name ≡ asked.name) where
  -- the row's stream in the list is the one of the same name
  pub one_asked : (of : IsOfList d streams row) → of.asked ≡ asked
  one_asked of =
      let alike : of.asked.name ≡ asked.name = sym of.name ∙ name in
      one_of_pairs (λ (a b : Asked). a.name ≢ b.name) streams of.asked asked (names d streams granted) of.listed listed (λ differ. differ alike)
      (λ differ. differ (sym alike))

  -- so what a conforming talker offers is covered, if the plan has enough for it
  pub planned_covered : (entries : List Recorded) (offers : List Offer) (background : List Background) (cycles : ℕ) (t : Traffic) (x : Offered) →
      IsLegalHistory d entries → AdmitsOnly streams entries → 0 < d.cycle_time → IsTraffic t →
      needed d.overhead d.cycle_time t ≤ reserved_in (granted_row d 0 0 asked) 0 (offer_cycle d x) → Conforms t (offers_named asked.name offers) →
      IsAtItsEdge (run_of_history d entries offers background cycles) x row → IsCovered (run_of_history d entries offers background cycles) x row
  planned_covered entries offers background cycles t x legal only some is enough c at =
      let member = (find_member (λ (r : Row). is_text r.name x.offer.stream) (table_of (tables_of d entries cycles) (offer_cycle d x)) row at.named).0 in
      let of = (granted_row_of d entries streams legal only row cycles (offer_cycle d x) member).of in
      let same = one_asked of in
      let reserved : reserved_in (granted_row d 0 0 asked) 0 (offer_cycle d x) ≡ reserved_in row 0 (offer_cycle d x) =
      λ i. if is_active ((sym (of.pace ∙ ap pace_of same)) i) 0 (offer_cycle d x) then (sym (of.octets ∙ ap (λ (a : Asked). a.octets) same)) i else 0 in
      conforming_stream_is_covered (run_of_history d entries offers background cycles) t x row some is
      (subst (λ (n : List ℕ). Conforms t (offers_named n offers)) (sym name) c) (omega (arith, enough, reserved)) at

-- ---- the laws

module _ (says : BookOfHistorySaysTheShift) (timely : HistoryIsTimely) (verdicts : VerdictsHold) (ends : BranchesEnd) where
  -- a covered offer comes through
  pub covered_comes_through : (d : Domain) (streams : List Asked) (entries : List Recorded) (offers : List Offer) (background : List Background)
      (cycles : ℕ) (book : Contents) (x : Offered) (row : Row) → IsBookOverList d streams entries offers background cycles book →
      IsCovered (run_of_history d entries offers background cycles) x row → ComesThrough d streams cycles book x row
  covered_comes_through d streams entries offers background cycles book x row over covered =
      let member = (find_member (λ (r : Row). is_text r.name x.offer.stream) (table_of (tables_of d entries cycles) (offer_cycle d x)) row covered.named).0 in
      let g = granted_row_of d entries streams over.legal over.only row cycles (offer_cycle d x) member in
      record {
        not_dropped = not_dropped says timely verdicts d streams entries offers background cycles book over x row covered;
        of_list = g.of;
        arrives = arrives says timely verdicts d streams entries offers background cycles book over x row covered g.of;
        served = λ branch c. served_by says timely verdicts d streams entries offers background cycles book over x row covered ends g.rows g.of branch g.free c;
      }

  pub conforming_stream_is_in_time : ConformingStreamIsInTime
  conforming_stream_is_in_time d streams entries offers background cycles book t x row over is c enough at =
      covered_comes_through d streams entries offers background cycles book x row over
      (conforming_stream_is_covered (run_of_history d entries offers background cycles) t x row (omega (arith, over.accepted.cycle_least)) is c enough at)

  pub conforming_own_is_in_time : ConformingOwnIsInTime
  conforming_own_is_in_time d streams entries offers background cycles book t x row over is c enough at =
      covered_comes_through d streams entries offers background cycles book x row over
      (conforming_own_is_covered (run_of_history d entries offers background cycles) t x row (omega (arith, over.accepted.cycle_least)) is c enough at)

  -- for a plan
  pub planned_stream_is_in_time : AdmittedHaveNames → PlannedStreamIsInTime
  planned_stream_is_in_time names d streams entries offers background cycles book t asked x row over granted listed is enough c name at =
      let covered = planned_covered names d streams asked row granted listed name entries offers background cycles t x over.legal over.only
      (omega (arith, over.accepted.cycle_least)) is enough c at in
      let through = covered_comes_through d streams entries offers background cycles book x row over covered in
      let same = one_asked names d streams asked row granted listed name through.of_list in (
        through,
        λ branch k. subst (λ (a : Asked). ListenerIsServed d streams a cycles book x branch) same
            (through.served branch (subst (λ (a : Asked). Contains a.paths branch) (sym same) k)),
      )
