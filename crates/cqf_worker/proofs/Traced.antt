-- From the bridge traces of workers that are done to the traces of the single-threaded book.
use Rattle.std.proofs.Common.{ℕ, ◌≡◌, ◌*◌, ◌^◌, ◌<◌, ◌≤◌, List, [], length, map, sym, ap, ◌∙◌, arith, subst, refl}
use Rattle.std.proofs.lemmas.List.{length-map}
use Rattle.std.proofs.lemmas.Nat.{mul-le}
use Rattle.std.specs.Prelude.{Some, option_map, slice_get}
use Rattle.std.specs.List.{flat_map}
use Rattle.std.specs.List.Sorted.{IsPermutation}
use Rattle.std.proofs.lemmas.Option.{same_Some, slice_get-map, slice_get_within}
use Rattle.cqf_model.specs.declared.frames.Background.{Background}
use Rattle.cqf_model.specs.declared.frames.Offer.{Offer}
use Rattle.cqf_model.specs.declared.frames.Offered.{Offered}
use Rattle.cqf_model.specs.declared.frames.Sent.{Sent}
use Rattle.cqf_model.specs.declared.topology.Row.{Row}
use Rattle.cqf_lists.specs.Lists.{each_below}
use Rattle.cqf_model.specs.Book.{Contents, IsBook}
use Rattle.cqf_model.specs.Domain.{Domain, IsAccepted}
use Rattle.cqf_model.specs.History.{IsLegalHistory, Recorded, seals, tables_of}
use Rattle.cqf_model.specs.HistoryBook.{run_of_history}
use Rattle.cqf_model.specs.Network.{Network, compiled_lists}
use Rattle.cqf_model.specs.Run.{AreBackground, AreOffers, Run}
use Rattle.cqf_model.specs.Table.{table_of}
use Rattle.cqf_laws_shift.specs.Run.{IsLegalRun}
use Rattle.cqf_laws_network.specs.NetworkLaws.{LegalNetworkExists}
use Rattle.cqf_trace.specs.declared.traces.Traces.{Traces}
use Rattle.cqf_trace.specs.Traces.{mark_of_sent}
use Rattle.cqf_instants_run.specs.Taping.{BacksTheTraces, IsTracedRun, SomeTracedRun}
use Rattle.cqf_laws_cycle.specs.Gathered.{offered_for}
use Rattle.cqf_laws_account.specs.Traced.{HasTheTraces}
use Rattle.cqf_trace.proofs.Leaving.{leaves_one}
use Rattle.cqf_laws_relay.specs.Following.{TablesMayCome}
use Rattle.cqf_laws_relay.specs.Traced.{BackedTracesAreTheBooks, HasTraced, HaveTraced, HaveTheStreams, book_of_run}
use Rattle.cqf_relay.specs.Segments.{Sendings}
use Rattle.cqf_relay.specs.Offering.{dropped_after}
use Rattle.cqf_relay.specs.Standing.{offers_in}
use Rattle.cqf_worker_loops.specs.declared.worker.Worker.{Worker}
use Rattle.cqf_worker_loops.specs.Handing.{TableEnd}
use Rattle.cqf_worker_loops.specs.Workers.{HasSentAll, Offering, come_to}
use Rattle.cqf_worker.specs.Closing.{bridge_trace_at}
use Rattle.cqf_worker.proofs.Apart.{element_at}
use Rattle.cqf_worker.proofs.Come.{HaveRun, all_sends, as_many, gone_at, its_run, offers_are, own_sends, sent_all, sent_by, tables_are, tables_count}

-- a run within the limits of cycles and cycle time ends before 2^62 ns
early_end : (cycles cycle_time : ℕ) → cycles ≤ 100000 → cycle_time ≤ 10000000 → cycles * cycle_time < 2 ^ 62
early_end cycles cycle_time short less =
    let most : cycles * cycle_time ≤ 100000 * 10000000 = mul-le cycles cycle_time 100000 10000000 short less in
    omega (arith, most)

module _ (t : Offering) (entries : List Recorded) (cycles : ℕ) (workers dones : List Worker) (ends : List TableEnd)
    (run : HaveRun t entries cycles workers dones ends) (background : List Background) where
  abbrev the_run : Run
  the_run = its_run t entries cycles workers dones ends run background

  abbrev the_sends : Sendings
  the_sends = all_sends t entries cycles workers dones ends run

  count : length the_run.tables ≡ cycles
  count = tables_count t.domain entries cycles

  module _ (index : ℕ) (done : Worker) (there : slice_get dones index ≡ Some done) where
    all : HasSentAll t index cycles done
    all = sent_all t entries cycles workers dones ends run index done there

    -- what the bridge dropped of a cycle are the run's offers that weren't covered
    are_drops_so : (cycle : ℕ) → cycle < cycles → IsPermutation (dropped_after t.domain index cycle
        (table_of (tables_of t.domain entries cycles) cycle) [] (offered_for t.domain t.offers index cycle)) (all.drops.fresh cycle)
    are_drops_so cycle within =
        subst (λ (xs : List Offered). IsPermutation (dropped_after t.domain index cycle
        (table_of (tables_of t.domain entries cycles) cycle) [] xs) (all.drops.fresh cycle))
        (offers_are t entries cycles workers dones ends run index done there cycle within)
        (subst (λ (tables : List (List Row)). IsPermutation (dropped_after t.domain index cycle
        (table_of tables cycle) [] (offers_in (come_to done) cycle)) (all.drops.fresh cycle))
        (tables_are t entries cycles workers dones ends run index done there)
        (all.drops.each cycle within))

    -- what a worker's links have sent, and what it dropped, is on its bridge trace
    traced_there : HasTraced the_run the_sends index done.bridge_trace
    traced_there = record {
      links = (gone_at t entries cycles workers dones ends run index done there).links;
      starts = λ l leaving. (sent_by t entries cycles workers dones ends run index done there).starts l leaving
          ∙ ap (λ (b : ℕ). map mark_of_sent (flat_map (λ (batch : List Sent). batch) (own_sends t entries cycles workers dones ends run b l)))
          (sym (leaves_one t.domain l index leaving));
      no_background = all.no_background;
      fresh = all.drops.fresh;
      drops = all.drops.are ∙ ap (each_below all.drops.fresh) (sym count);
      are_drops = λ cycle within. are_drops_so cycle (omega (arith, within, count));
      by_frame = λ cycle within. all.drops.by_frame cycle (omega (arith, within, count));
    }

  -- and so it is on all bridge traces
  pub have_traced : HaveTraced the_run the_sends (map bridge_trace_at dones)
  have_traced = record {
    many = length-map dones bridge_trace_at ∙ as_many t entries cycles workers dones ends run;
    each = λ bridge bridge_trace there. (let inside : bridge < length dones =
        omega (arith, slice_get_within (map bridge_trace_at dones) bridge bridge_trace there, length-map dones bridge_trace_at) in
        let w = element_at dones bridge inside in
        let same : bridge_trace_at w.0 ≡ bridge_trace =
        same_Some (bridge_trace_at w.0) bridge_trace (sym (slice_get-map bridge_trace_at dones bridge ∙ ap (option_map bridge_trace_at) w.1) ∙ there) in
        subst (HasTraced the_run the_sends bridge) same (traced_there bridge w.0 w.1));
  }

module _ (d : Domain) (entries : List Recorded) (offers : List Offer) (background : List Background) (cycles : ℕ) where
  abbrev run_of_it : Run
  run_of_it = run_of_history d entries offers background cycles

  -- the run of a legal history has a legal network
  pub legal_run : LegalNetworkExists → TablesMayCome → IsAccepted d → IsLegalHistory d entries → cycles ≤ seals entries → AreOffers d offers →
      AreBackground d background → (net : Network) × IsLegalRun run_of_it net
  legal_run exists come accepted legal closed good_offers good_background =
      let net = exists run_of_it (compiled_lists d) (length (tables_of d entries cycles)) in (
        net.0,
        record {
          accepted = accepted;
          orderly = (come d entries cycles legal closed).orderly;
          offered = good_offers;
          background = good_background;
          legal = net.1;
        },
      )

  module _ (net : Network) (legal : IsLegalRun run_of_it net) (before : Traces) (streams : HaveTheStreams run_of_it net before) where
    -- traces with the frames of its streams are those of a traced run
    pub is_traced : cycles ≤ 100000 → IsTracedRun d (cycles * d.cycle_time) background before.links.items run_of_it net
    is_traced short = record {
      legal = legal;
      of_domain = refl;
      backed = refl;
      ends = ap (λ (n : ℕ). n * d.cycle_time) (sym (tables_count d entries cycles));
      early = early_end cycles d.cycle_time short legal.accepted.cycle_most;
      links = streams.each_link;
      starts = streams.starts;
    }

    pub some_traced : cycles ≤ 100000 → SomeTracedRun d (cycles * d.cycle_time) background before.links.items
    some_traced short = record { run = run_of_it; net = net; is = is_traced short }

    -- and with its background frames they are those of the single-threaded book of the history
    pub book_on_traces : cycles ≤ 100000 → BackedTracesAreTheBooks → cycles ≤ seals entries → (after : Traces) → after.drops ≡ before.drops →
        BacksTheTraces d (cycles * d.cycle_time) background before.links.items after.links.items →
        (book : Contents) × HasTheTraces d entries offers background cycles after book
    book_on_traces short law closed after same backs =
        let book = book_of_run run_of_it net in
        let is_book : IsBook run_of_it (compiled_lists d) (length (tables_of d entries cycles)) book =
        record { net = net; legal = legal.legal; are_starts = refl; are_background = refl; are_drops = refl } in (
          book,
          record {
            of_history = record { sealed = closed; is_book = is_book };
            some = record {
              tables = tables_of d entries cycles;
              offers = offers;
              background = background;
              lists = compiled_lists d;
              is_book = subst (λ (n : ℕ). IsBook run_of_it (compiled_lists d) n book) (tables_count d entries cycles) is_book;
            };
            traces_of = law run_of_it net before after legal streams
                (record { links = backs.links; starts = backs.starts; background = backs.background run_of_it net (is_traced short); drops = same });
          },
        )
