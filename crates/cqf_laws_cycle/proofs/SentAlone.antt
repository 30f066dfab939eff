-- What a link sends of streams beside background frames is what it may send if only the streams' frames arrive.
use Rattle.std.proofs.Common.{◌≡◌, ℕ, ◌*◌, ◌<◌, All, Bool, true, false, Contains, List, [], None, Option, Some, filter, get_or, is_some, length, inl, inr, sym}
use Rattle.std.proofs.Common.{ap, ◌∙◌, subst, arith, refl, le-leb}
use Rattle.std.proofs.lemmas.Bool.{cases_lt, leb-false, leb-true, lt-leb}
use Rattle.std.proofs.lemmas.List.{get_or-map, length-map}
use Rattle.std.proofs.lemmas.List.Elements.{All-contains, Contains-get_or}
use Rattle.cqf_model.specs.declared.frames.Sent.{Sent}
use Rattle.cqf_model.specs.declared.ports.Arrival.{Arrival}
use Rattle.cqf_model.specs.declared.ports.Start.{Start}
use Rattle.cqf_model.specs.Domain.{Domain, guard_of, octet_time_of}
use Rattle.cqf_model.specs.GateList.{port_list}
use Rattle.cqf_model.specs.Network.{QueuedFrame, Sends, arrivals_of, backed_by, backed_of, no_frame, sent_by, sent_of}
use Rattle.cqf_model.specs.Port.{Transmission, class_of, no_arrival}
use Rattle.cqf_model.specs.Due.{is_streams}
use Rattle.cqf_lists.proofs.Filters.{filter-map, filter_alike}
use Rattle.cqf_lists.proofs.Kept.{flat_kept, flat_none}
use Rattle.cqf_lists.proofs.Members.{contains_from_filter}
use Rattle.cqf_lists.proofs.Ranks.{kept_at_rank, rank, rank_map}
use Rattle.cqf_laws_cycle.specs.Beside.{IsReportedByClass, StreamsAreSentAsAlone, index_alone, is_of_stream, is_start_of_streams, start_alone, starts_alone}
use Rattle.cqf_laws_cycle.specs.OnePort.{AreSent, IsWithinBudget}
use Rattle.cqf_laws_cycle.proofs.Besides.{streams_start_as_alone}

-- an option that isn't `None` has a value
is_there : (stream : Option ℕ) → (stream ≡ None → ⊥) → is_some stream ≡ true
is_there None some = absurd (some refl)
is_there (Some stream) some = refl

-- a stream's frame is no background frame
not_backed : (t : ℕ) (x : Arrival) (stream : Option ℕ) → (stream ≡ None → ⊥) → backed_by t x stream ≡ []
not_backed t x None some = absurd (some refl)
not_backed t x (Some stream) some = refl

-- a frame with the class of a stream's
abbrev has_stream_class : QueuedFrame → Bool
has_stream_class x = is_streams x.arrival

-- if the class tells streams' frames apart, both tests are the same
same_test : (x : QueuedFrame) → IsReportedByClass x → has_stream_class x ≡ is_of_stream x
same_test x reported = elim (cases_lt x.arrival.class 6) [
  | inl low ↦ lt-leb 6 x.arrival.class low ∙ sym (ap is_some (reported.1 low))
  | inr high ↦ le-leb 6 x.arrival.class high ∙ sym (is_there x.stream (λ none. omega (arith, reported.0 none, high)))
]

module _ (queued : List QueuedFrame) (reported : All IsReportedByClass queued) where
  -- the streams' frames
  abbrev alone : List QueuedFrame
  alone = filter has_stream_class queued

  -- by either test they are the same
  same_alone : alone ≡ filter is_of_stream queued
  same_alone = filter_alike has_stream_class is_of_stream queued (λ x c. same_test x (All-contains IsReportedByClass queued x reported c))

  -- the frame at an index and its arrival
  arrival_at : (p : ℕ) → p < length queued → get_or (arrivals_of queued) p no_arrival ≡ (get_or queued p no_frame).arrival
  arrival_at p inside = get_or-map (λ (x : QueuedFrame). x.arrival) queued p no_frame no_arrival inside

  -- a start of a stream's frame sends the same alone
  kept_sent : (start : Transmission) → start.0 < length queued → is_start_of_streams (arrivals_of queued) start ≡ true →
      sent_of queued start ≡ sent_of alone (start_alone (arrivals_of queued) start)
  kept_sent start inside passes =
      let kept = kept_at_rank has_stream_class queued start.0 no_frame inside (sym (ap is_streams (arrival_at start.0 inside)) ∙ passes) in
      let index : index_alone (arrivals_of queued) start.0 ≡ rank has_stream_class queued start.0 =
      rank_map is_streams (λ (x : QueuedFrame). x.arrival) queued start.0 in
      let frame : get_or alone (index_alone (arrivals_of queued) start.0) no_frame ≡ get_or queued start.0 no_frame = ap (λ z. get_or alone z no_frame) index
      ∙ kept.same in
      ap (λ (x : QueuedFrame). sent_by start.1 x.arrival x.stream) (sym frame)

  -- a start of a background frame sends no stream's frame
  left_sent : (start : Transmission) → start.0 < length queued → is_start_of_streams (arrivals_of queued) start ≡ false → sent_of queued start ≡ []
  left_sent start inside fails =
      let low = leb-false 6 (class_of (arrivals_of queued) start.0) fails in
      let x = get_or queued start.0 no_frame in
      let none : x.stream ≡ None = (reported start.0 no_frame inside).1 (subst (λ (a : Arrival). a.class < 6) (arrival_at start.0 inside) low) in
      ap (λ z. sent_by start.1 x.arrival z) none

  -- alone there is no background frame
  none_backed : (start : Transmission) → start.0 < length alone → backed_of alone start ≡ []
  none_backed start inside =
      let x = get_or alone start.0 no_frame in
      let kept = contains_from_filter has_stream_class queued x (Contains-get_or alone start.0 no_frame inside) in
      let high = leb-true 6 x.arrival.class kept.1 in
      not_backed start.1 x.arrival x.stream (λ none. omega (arith, (All-contains IsReportedByClass queued x reported kept.0).0 none, high))

  -- so what is sent beside background frames is sent alone
  sent_alone : (d : Domain) (cycles l : ℕ) (sents : List Sent) (backed : List Start) →
      IsWithinBudget d.cycle_time (guard_of d l) (octet_time_of d l) (arrivals_of queued) cycles →
      Sends d (port_list d.cycle_time (guard_of d l)) (cycles * d.cycle_time) l queued sents backed →
      Sends d (port_list d.cycle_time (guard_of d l)) (cycles * d.cycle_time) l alone sents []
  sent_alone d cycles l sents backed port sends = record {
    starts = starts_alone (arrivals_of queued) sends.starts;
    legal = legal;
    are_sent = sends.are_sent ∙ flat_kept (is_start_of_streams (arrivals_of queued)) (start_alone (arrivals_of queued)) (sent_of queued)
        (sent_of alone) sends.starts (λ start c. kept_sent start (has_index start c)) (λ start c. left_sent start (has_index start c));
    are_backed = sym (flat_none (backed_of alone) (starts_alone (arrivals_of queued) sends.starts) (λ start c. none_backed start (has_index_alone start c)));
  }
    where
      has_index : (start : Transmission) → Contains sends.starts start → start.0 < length queued
      has_index start c = subst (λ z. start.0 < z) (length-map queued (λ (x : QueuedFrame). x.arrival)) (sends.legal.first start.0 start.1 c).waits.inside

      legal : AreSent d.cycle_time (guard_of d l) (octet_time_of d l) (arrivals_of alone) cycles (starts_alone (arrivals_of queued) sends.starts)
      legal = subst (λ z. AreSent d.cycle_time (guard_of d l) (octet_time_of d l) z cycles (starts_alone (arrivals_of queued) sends.starts))
          (filter-map (λ (x : QueuedFrame). x.arrival) is_streams queued)
          (streams_start_as_alone d.cycle_time (guard_of d l) (octet_time_of d l) (arrivals_of queued) cycles sends.starts port sends.legal)

      has_index_alone : (start : Transmission) → Contains (starts_alone (arrivals_of queued) sends.starts) start → start.0 < length alone
      has_index_alone start c = subst (λ z. start.0 < z) (length-map alone (λ (x : QueuedFrame). x.arrival)) (legal.first start.0 start.1 c).waits.inside

-- the law
pub streams_are_sent_as_alone : StreamsAreSentAsAlone
streams_are_sent_as_alone d cycles l queued sents backed reported port sends =
    subst (λ z. Sends d (port_list d.cycle_time (guard_of d l)) (cycles * d.cycle_time) l z sents []) (same_alone queued reported)
    (sent_alone queued reported d cycles l sents backed port sends)
