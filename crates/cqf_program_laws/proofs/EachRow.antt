-- Each row of a summary counts each of its offers once, and each listener has its row.
use Rattle.std.proofs.Common.{◌∙◌, Contains, List, Some, Option, filter, length, refl, subst, sym}
use Rattle.cqf_lists.proofs.Members.{contains_from_filter, contains_from_map, contains_map, find_member}
use Rattle.cqf_model.specs.declared.topology.Hop.{Hop}
use Rattle.cqf_model.specs.declared.topology.Row.{Row}
use Rattle.cqf_model.specs.Domain.{end_of, is_text}
use Rattle.cqf_model.specs.History.{Asked}
use Rattle.cqf_model.specs.Shift.{offer_cycle}
use Rattle.cqf_model.specs.Table.{table_of}
use Rattle.cqf_model.specs.Policing.{numbered}
use Rattle.cqf_model.proofs.Texts.{is_text_same}
use Rattle.cqf_laws_history.specs.HistoryLaws.{TablesAreOrderly}
use Rattle.cqf_laws_history.specs.StateLaws.{granted_row}
use Rattle.cqf_laws_timing.specs.Streams.{RowsAreOfList}
use Rattle.cqf_program_scenario.specs.Calls.{history_of}
use Rattle.cqf_program_plans.specs.Latency.Input.{asked_in}
use Rattle.cqf_program_plans.specs.Latency.Text.{is_station, listeners_of}
use Rattle.cqf_program_runs.specs.Deliveries.ArrivalLaws.{EachIsWrittenOnce, EachListenerIsWrittenOnce}
use Rattle.cqf_program_runs.specs.Deliveries.{deadline_named, deliveries_of}
use Rattle.cqf_program_runs.specs.Deliveries.PlannedScenario.{run_of_scenario}
use Rattle.cqf_program_summary.specs.declared.summary.fares.Listener.{Listener}
use Rattle.cqf_program_summary.specs.declared.summary.fares.ListenerPath.{ListenerPath}
use Rattle.cqf_program_summary.specs.Summary.{Fare, deliveries_named, fare_of, listener_to, listeners_by, offers_within, path_to, paths_of}
use Rattle.cqf_program_summary.specs.Summary.Written.{is_good, row_of_stream, written_cost, written_streams}
use Rattle.cqf_program_laws.specs.ScriptLaws.{HistoriesAdmitOnly, HistoriesAreLegal, ScriptsAskOnly}
use Rattle.cqf_program_laws.specs.SummaryLaws.{CountsEachOnce, EachListenerHasARow, EachOfferCountsOnce}
use Rattle.cqf_program_laws.proofs.EachOffer.{counts_each}
use Rattle.cqf_program_laws.proofs.RowLaws.{admits_written, good_row, leads_by, own_row}

module _ (asks : ScriptsAskOnly) (histories : HistoriesAdmitOnly) (legal_of : HistoriesAreLegal) (rows : RowsAreOfList) where
  pub each_offer_counts : TablesAreOrderly → EachIsWrittenOnce → EachListenerIsWrittenOnce → EachOfferCountsOnce
  each_offer_counts orderly once listeners limits cycles input s streams book fare path is of =
      let d = s.domain in
      let requests = asked_in streams in
      let run = run_of_scenario cycles s in
      let reported = written_streams requests in
      let cost = written_cost d reported in
      let offers = offers_within d (length run.tables) (numbered run.offers) in
      let ds = deliveries_of run streams book in
      let only = admits_written asks histories legal_of limits cycles input s streams book is in
      let stream = contains_from_map (fare_of d cost (deadline_named streams) offers ds) reported fare of.0 in
      let asked : Asked = stream.0 in
      let of_it : Contains (paths_of d (cost asked) (deliveries_named asked.name ds) (row_of_stream d asked)) path =
      subst (λ (f : Fare). Contains f.paths path) (sym stream.2) of.1 in
      let listener = contains_from_map (path_to (deliveries_named asked.name ds)) (listeners_by d (cost asked) (row_of_stream d asked)) path of_it in
      let to : Option Listener = listener.0 in
      let counts = counts_each run streams book is.is_book.promise.says is.domain
      (orderly d (history_of cycles s) cycles (legal_of cycles s is.short is.may.room) is.is_book.is_book.sealed) once listeners cost asked to
      (λ x row covered own. leads_by rows cycles s requests only asked row to (own_row rows cycles s requests only asked stream.1 x row covered own) listener.1) in
      subst (λ (f : Fare). CountsEachOnce run streams book f path) stream.2
      (subst (λ (w : ListenerPath). CountsEachOnce run streams book (fare_of d cost (deadline_named streams) offers ds asked) w) listener.2 counts)

  -- the row that covers an offer is that of a listed stream, whose listeners have rows
  pub each_listener_has_a_row : EachListenerHasARow
  each_listener_has_a_row limits cycles input s streams book x row hop is covered among =
      let d = s.domain in
      let run = run_of_scenario cycles s in
      let reported = written_streams (asked_in streams) in
      let cost = written_cost d reported in
      let offers = offers_within d (length run.tables) (numbered run.offers) in
      let ds = deliveries_of run streams book in
      let only = admits_written asks histories legal_of limits cycles input s streams book is in
      let named = find_member (λ (r : Row). is_text r.name x.offer.stream) (table_of run.tables (offer_cycle d x)) row covered.named in
      let of = rows d (history_of cycles s) (filter (is_good d) reported) cycles (offer_cycle d x) row only named.0 in
      let asked : Asked = of.asked in
      let listed = contains_from_filter (is_good d) reported asked of.listed in
      let there : Contains (listeners_of d (granted_row d 0 0 asked)) hop =
      subst (λ (items : List Hop). Contains (filter (λ (hop : Hop). is_station (end_of d hop.link)) items) hop) of.tree among in
      let to : Option Listener = Some (listener_to d (cost asked) hop) in
      let by : Contains (listeners_by d (cost asked) (Some (granted_row d 0 0 asked))) to =
      contains_map (λ (hop : Hop). Some (listener_to d (cost asked) hop)) (listeners_of d (granted_row d 0 0 asked)) hop there in
      let leads : Contains (listeners_by d (cost asked) (row_of_stream d asked)) to =
      subst (λ (o : Option Row). Contains (listeners_by d (cost asked) o) to) (sym (good_row d asked listed.1)) by in
      record {
        fare = fare_of d cost (deadline_named streams) offers ds asked;
        path = path_to (deliveries_named asked.name ds) to;
        is_row = (
          contains_map (fare_of d cost (deadline_named streams) offers ds) reported asked listed.0,
          contains_map (path_to (deliveries_named asked.name ds)) (listeners_by d (cost asked) (row_of_stream d asked)) to leads,
        );
        of_stream = sym of.name ∙ is_text_same row.name x.offer.stream named.1;
        to_listener = refl;
      }
