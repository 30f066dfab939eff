-- The account of a run, from what its parts promise.
use Rattle.std.proofs.Common.{ℕ, ◌≡◌, ◌+◌, ◌*◌, ◌≤◌, ◌<◌, [], List, length, get_or, map, sym, ap, subst, subst₂, ◌∙◌, arith}
use Rattle.std.specs.Prelude.{All, slice_index_or}
use Rattle.std.proofs.lemmas.List.{get_or-map, length-map}
use Rattle.cqf_lists.proofs.EachBelow.{get_or-singles}
use Rattle.cqf_model.specs.declared.frames.Background.{Background}
use Rattle.cqf_model.specs.declared.frames.Offer.{Offer}
use Rattle.cqf_model.specs.Book.{Contents, contents_of}
use Rattle.cqf_model.specs.Domain.{Domain, IsAccepted}
use Rattle.cqf_model.specs.Headline.{IsAccountOf}
use Rattle.cqf_model.specs.History.{Recorded, seals}
use Rattle.cqf_model.specs.Run.{AreBackground, AreOffers}
use Rattle.cqf_model.specs.HistoryBook.{run_of_history}
use Rattle.cqf_model.specs.Network.{Network}
use Rattle.cqf_model.specs.Calls.{IsHistoryOf}
use Rattle.cqf_admission.specs.declared.entries.Command.{Command}
use Rattle.cqf_trace.specs.BridgeTraces.{AreBridgeTracesOf}
use Rattle.cqf_trace.specs.declared.traces.Traces.{Traces}
use Rattle.cqf_trace.specs.Traces.{reported_from}
use Rattle.cqf_desk.specs.Closing.{IsOfSeats}
use Rattle.cqf_desk.specs.Desk.{Counter, Sitting, fresh_seats}
use Rattle.cqf_desk.specs.declared.history.History.{History}
use Rattle.cqf_laws_account.specs.Traced.{TracesGiveTheBook}
use Rattle.cqf_laws_account.specs.Sealing.{cycle_tables}
use Rattle.cqf_laws_account.specs.Seated.{AreSeated, ClosesItsCycles, ConductorHasTheTables, SeatsGiveTheHistory}
use Rattle.cqf_laws_network.specs.NetworkLaws.{LegalNetworkExists}
use Rattle.cqf_laws_shift.specs.BookOfHistory.{BookOfHistorySaysTheShift}
use Rattle.cqf_laws_shift.specs.Run.{IsLegalRun}
use Rattle.cqf_laws_relay.specs.Following.{TablesMayCome}
use Rattle.cqf_laws_relay.specs.Traced.{BackedTracesAreTheBooks, HaveTheStreams, RelaysKeepTheTraces}
use Rattle.cqf_instants_run.specs.Taping.{BacksTheTraces, SomeTracedRun}
use Rattle.cqf_worker.specs.declared.account.Account.{Account}
use Rattle.cqf_worker.specs.declared.account.TracedAccount.{TracedAccount}
use Rattle.cqf_worker_loops.specs.declared.carried.Carried.TheVariants.{Item}
use Rattle.cqf_worker.specs.declared.conducting.PreparedRun.{PreparedRun}
use Rattle.cqf_worker.specs.declared.threads.Administrator.{Administrator}
use Rattle.cqf_worker.specs.declared.threads.EndedRun.{EndedRun}
use Rattle.cqf_worker.specs.Account.{IsAccount, IsOutcomeOf, IsTracedAccount, all_asked, entries_of}
use Rattle.cqf_worker.specs.Closing.{bridge_trace_at}
use Rattle.cqf_worker.specs.Conducting.{IsPrepared, IsSettled, all_seats, seat_of}
use Rattle.cqf_worker_loops.specs.Handing.{TableEnd}
use Rattle.cqf_worker.specs.Laying.{traffic_of}
use Rattle.cqf_worker.specs.Running.{IsEnded, IsReadyWorker}
use Rattle.cqf_worker.specs.Wires.{AreWired, Wiring, pipe_of_tables, tables_pipe}
use Rattle.cqf_worker.proofs.Apart.{still_bridge_traces, still_tables, still_wired}
use Rattle.cqf_worker.proofs.Come.{HaveRun, all_come, all_sends, have_gone}
use Rattle.cqf_worker.proofs.Traced.{book_on_traces, have_traced, legal_run, some_traced}
use Rattle.cqf_worker.proofs.Seating.{are_seated, asked_count, asks_no_seal, fresh_seat, seats_count}

-- a fresh seat has no calls
no_calls_yet : (count : ℕ) (administrators : List Administrator) → map seat_of administrators ≡ fresh_seats count →
    All (λ (a : Administrator). a.seat.calls ≡ []) administrators
no_calls_yet count administrators seats index a below =
    let many : length administrators ≡ count = sym (length-map administrators seat_of) ∙ ap length seats ∙ seats_count count in
    let its : (get_or administrators index a).seat ≡ fresh_seat index =
    sym (get_or-map seat_of administrators index a a.seat below)
    ∙ ap (λ (xs : List Sitting). get_or xs index a.seat) seats
    ∙ get_or-singles fresh_seat count index a.seat (omega (arith, below, many)) in
    ap (λ (s : Sitting). s.calls) its

module _ (d : Domain) (opening : List Recorded) (offers : List Offer) (background : List Background) (cycles : ℕ) (admins : List (List Command))
    (p : PreparedRun) (is : IsPrepared d opening offers cycles admins p) where
  -- what is prepared is ready
  pub is_ready : cycles ≤ 100000 → IsReadyWorker cycles p.ready
  is_ready few = record {
    few = few;
    workers = is.laid.may_work;
    fresh = no_calls_yet (length admins) p.ready.administrators.items is.seated.seats;
    no_calls = ap (λ (s : Sitting). s.calls) is.seated.next;
    no_tables = ap (λ (s : Sitting). s.tables) is.seated.next;
    nothing_put = is.laid.nothing_put;
  }

  module _ (e : EndedRun) (ended : IsEnded cycles p.ready e) where
    -- each end is still of the pipe on its link
    pub wired_in_the_end : (wiring : Wiring) × AreWired wiring e.workers.items
    wired_in_the_end = still_wired cycles p.ready.workers.items e.workers.items ended.worked is.laid.wired

    -- and the ends for tables are still of one pipe, index by index
    pub tables_in_the_end : map pipe_of_tables e.sealed.tables.items ≡ map tables_pipe e.workers.items
    tables_in_the_end = ended.sealed.pipes ∙ is.laid.tables ∙ sym (still_tables cycles p.ready.workers.items e.workers.items ended.worked)

    -- and the bridge traces are of the bridges
    pub bridge_traces_in_the_end : AreBridgeTracesOf d (map bridge_trace_at e.workers.items)
    bridge_traces_in_the_end =
        still_bridge_traces (traffic_of d offers) cycles p.ready.workers.items e.workers.items is.laid.workers is.laid.many ended.worked

    -- the seats in the end; the conductor's is the sealing one
    pub seated_so : (s : AreSeated (all_asked admins) cycles (all_seats e)) × (s.conductor ≡ e.sealed.seat)
    seated_so =
        are_seated admins p.ready.administrators.items p.ready.conductor e.seats.items e.sealed.seat cycles p.ready.tables.items e.sealed.tables.items
        is.seated ended.called ended.sealed

    module _ (account : TracedAccount) (settled : IsSettled d p.desk e account) where
      -- the history is of the seats: one per administrator and one more
      of_seats : IsOfSeats opening d (length (all_asked admins) + 1) (all_seats e) (entries_of account.history)
      of_seats =
          subst (λ (count : ℕ). IsOfSeats opening d (count + 1) (all_seats e) (entries_of account.history)) (sym (asked_count admins))
          (subst (λ (desk : Counter). IsOfSeats desk.opening.entries desk.opening.domain desk.seats (all_seats e) (entries_of account.history)) is.desk
          settled.history.entries)

      -- so it is of what was requested
      history_is : SeatsGiveTheHistory → IsHistoryOf d opening (all_asked admins) cycles (entries_of account.history)
      history_is law = law d opening (all_asked admins) cycles (all_seats e) (entries_of account.history) of_seats seated_so.0

      -- and the conductor has its tables
      closes_so : ConductorHasTheTables → seals opening ≡ 0 → ClosesItsCycles d (entries_of account.history) cycles e.sealed.seat
      closes_so law unsealed =
          subst (ClosesItsCycles d (entries_of account.history) cycles) seated_so.1
          (law d opening (all_asked admins) cycles (all_seats e) (entries_of account.history) of_seats seated_so.0 (asks_no_seal admins) unsealed)

      -- the ends of the workers' pipes carried the tables of the history's cycles
      given_so : ClosesItsCycles d (entries_of account.history) cycles e.sealed.seat → (index : ℕ) (end : TableEnd) →
          index < length e.sealed.tables.items →
          (slice_index_or e.sealed.tables.items index end).items ≡ map Item (cycle_tables d (entries_of account.history) cycles)
      given_so closes index end inside = ended.sealed.given index end inside ∙ ap (map Item) closes.tables

      module _ (accepted : IsAccepted d) (unsealed : seals opening ≡ 0) (good_offers : AreOffers d offers) (few_offers : length offers ≤ 16777215)
          (good_background : AreBackground d background) (seats : SeatsGiveTheHistory) (has_tables : ConductorHasTheTables)
          (exists : LegalNetworkExists) (come : TablesMayCome) (keep : RelaysKeepTheTraces) where
        abbrev entries : List Recorded
        entries = entries_of account.history

        history : IsHistoryOf d opening (all_asked admins) cycles entries
        history = history_is seats

        closes : ClosesItsCycles d entries cycles e.sealed.seat
        closes = closes_so has_tables unsealed

        all_sealed : cycles ≤ seals entries
        all_sealed = omega (arith, closes.sealed)

        -- what its workers have done
        have_run : HaveRun (traffic_of d offers) entries cycles p.ready.workers.items e.workers.items e.sealed.tables.items
        have_run = record {
          accepted = accepted;
          may_come = come d entries cycles history.legal all_sealed;
          of_bridges = is.laid.workers;
          many = is.laid.many;
          worked = ended.worked;
          fed = settled.fed;
          pipes = tables_in_the_end;
          given = settled.given;
          put = given_so closes;
        }

        -- the run of its history is legal
        its_net : (net : Network) × IsLegalRun (run_of_history d entries offers background cycles) net
        its_net = legal_run d entries offers background cycles exists come accepted history.legal all_sealed good_offers good_background

        -- and its traces have what the streams send
        streams : HaveTheStreams (run_of_history d entries offers background cycles) its_net.0 account.traces
        streams =
            keep (run_of_history d entries offers background cycles) its_net.0
            (all_sends (traffic_of d offers) entries cycles p.ready.workers.items e.workers.items e.sealed.tables.items have_run)
            (all_come (traffic_of d offers) entries cycles p.ready.workers.items e.workers.items e.sealed.tables.items have_run)
            (map bridge_trace_at e.workers.items) account.traces its_net.1 (omega (arith, few_offers))
            (have_gone (traffic_of d offers) entries cycles p.ready.workers.items e.workers.items e.sealed.tables.items have_run background)
            (have_traced (traffic_of d offers) entries cycles p.ready.workers.items e.workers.items e.sealed.tables.items have_run background)
            settled.gathered

        -- so the background frames can be added to them
        pub may_back : cycles ≤ 100000 → SomeTracedRun d (cycles * d.cycle_time) background account.traces.links.items
        may_back short = some_traced d entries offers background cycles its_net.0 its_net.1 account.traces streams short

        -- and with these the account is that of the run
        pub account_is : cycles ≤ 100000 → BackedTracesAreTheBooks → BookOfHistorySaysTheShift → (traces : Traces) → traces.drops ≡ account.traces.drops →
            BacksTheTraces d (cycles * d.cycle_time) background account.traces.links.items traces.links.items →
            IsTracedAccount d opening offers background cycles admins (record { history = account.history; traces = traces })
        account_is short law promise traces same backs =
            let has = book_on_traces d entries offers background cycles its_net.0 its_net.1 account.traces streams short law all_sealed traces same backs in
            let is_account : IsAccountOf d opening offers background cycles (all_asked admins) entries has.0 = record {
              history = history;
              sealed = has.1.of_history.sealed;
              keeps = promise d entries offers background cycles has.0 accepted history.legal good_offers good_background has.1.of_history;
            } in
            record {
              book = has.0;
              run = record { opens = settled.history.opening ∙ ap (λ (desk : Counter). length desk.opening.entries) is.desk; is = is_account };
              some = has.1.some;
              its_traces = has.1.traces_of;
            }

-- an account by traces, with the book read from them, is an account
pub reported_account : (d : Domain) (opening : List Recorded) (offers : List Offer) (background : List Background) (cycles : ℕ)
    (admins : List (List Command)) (paged : TracedAccount) (account : Account) → TracesGiveTheBook → IsAccepted d →
    IsTracedAccount d opening offers background cycles admins paged → account.history ≡ paged.history →
    contents_of account.book ≡ reported_from d cycles paged.traces → IsAccount d opening offers background cycles admins account
reported_account d opening offers background cycles admins paged account law accepted is same reported =
    subst₂ (λ (history : History) (book : Contents). IsOutcomeOf d opening offers background cycles admins history book) (sym same)
    ((law d cycles paged.traces is.book accepted is.some is.its_traces).reported ∙ sym reported) is.run
