-- Rows of a summary add up.
use Rattle.std.proofs.Common.{◌≡◌, ◌∙◌, ◌+◌, ℕ, true, false, Contains, List, Some, None, Option, ap, filter, is_none, length, refl, subst, sym}
use Rattle.std.specs.Prelude.{is_none}
use Rattle.cqf_lists.proofs.Members.{contains_from_filter, contains_from_map, find_member}
use Rattle.cqf_lists.proofs.Pairs.{one_of_pairs}
use Rattle.cqf_model.specs.declared.frames.Offered.{Offered}
use Rattle.cqf_model.specs.declared.history.Refused.{Refused}
use Rattle.cqf_model.specs.declared.limits.Limits.{Limits}
use Rattle.cqf_model.specs.declared.topology.Hop.{Hop}
use Rattle.cqf_model.specs.declared.topology.Row.{Row}
use Rattle.cqf_model.specs.Book.{Contents}
use Rattle.cqf_model.specs.Domain.{Domain, end_of, is_text}
use Rattle.cqf_model.specs.History.{Asked, pace_of, tree_of}
use Rattle.cqf_model.specs.Run.{Run}
use Rattle.cqf_model.specs.Shift.{IsCovered, offer_cycle}
use Rattle.cqf_model.specs.Table.{table_of}
use Rattle.cqf_model.specs.Policing.{numbered}
use Rattle.cqf_model.proofs.Texts.{is_text_itself, is_text_same}
use Rattle.cqf_laws_history.specs.HistoryLaws.{TablesAreOrderly}
use Rattle.cqf_laws_history.specs.StateLaws.{granted_row}
use Rattle.cqf_laws_timing.specs.Streams.{AdmitsOnly, RowsAreOfList}
use Rattle.cqf_topology.specs.PlannedText.{PlannedText}
use Rattle.cqf_admission.specs.Judging.{form_refusal}
use Rattle.cqf_program_scenario.specs.Calls.{history_of}
use Rattle.cqf_program_scenario.specs.Scenario.{Scenario}
use Rattle.cqf_program_plans.specs.EndNames.{name_of_end}
use Rattle.cqf_program_plans.specs.Latency.Input.{asked_in}
use Rattle.cqf_program_plans.specs.Latency.Text.{is_station, listeners_of}
use Rattle.cqf_program_runs.specs.Deliveries.ArrivalLaws.{EachIsWrittenOnce, EachListenerIsWrittenOnce}
use Rattle.cqf_program_runs.specs.Deliveries.{deadline_named, deliveries_of}
use Rattle.cqf_program_runs.specs.Deliveries.PlannedScenario.{run_of_scenario}
use Rattle.cqf_program_laws.specs.ScriptLaws.{HistoriesAdmitOnly, HistoriesAreLegal, ScriptsAskOnly}
use Rattle.cqf_program_summary.specs.declared.summary.fares.Listener.{Listener}
use Rattle.cqf_program_summary.specs.declared.summary.fares.ListenerPath.{ListenerPath}
use Rattle.cqf_program_summary.specs.Summary.{Fare, deliveries_named, fare_of, listener_to, listeners_by, name_of_listener, offers_named, offers_within, path_to, paths_of}
use Rattle.cqf_program_laws.specs.SummaryLaws.{IsReadRun, RowsAddUp}
use Rattle.cqf_program_summary.specs.Summary.Written.{is_good, row_of_stream, row_unless, written_cost, written_streams}
use Rattle.cqf_program_laws.proofs.Admitted.{admits_good, asks_firsts}
use Rattle.cqf_program_laws.proofs.Balance.{four_counts, row_adds_up}
use Rattle.cqf_program_laws.proofs.Firsts.{firsts}
use Rattle.cqf_program_summary.proofs.OneMore.{written_apart}

-- if there is none, nothing is refused
pub no_refusal : (o : Option Refused) → is_none o ≡ true → o ≡ None
no_refusal None e = refl
no_refusal (Some refused) e = absurd cc

-- a good stream has its row
pub good_row : (d : Domain) (asked : Asked) → is_good d asked ≡ true → row_of_stream d asked ≡ Some (granted_row d 0 0 asked)
good_row d asked good = ap (row_unless d asked) (no_refusal (form_refusal d asked) good)

-- the row that covers an offer of a listed stream is that stream's
pub record IsOwnRow (d : Domain) (asked : Asked) (row : Row) : Type 0 where
  pub good : is_good d asked ≡ true
  pub tree : row.tree.items ≡ tree_of d asked.paths
  pub pace : row.pace ≡ pace_of asked

-- streams of one name are the same
clash : (m n : List ℕ) → m ≡ n → is_text m n ≡ false → ⊥
clash m n same differs = not_both (sym (is_text_itself m) ∙ ap (is_text m) same ∙ differs)
  where
    not_both : true ≡ false → ⊥
    not_both e = absurd cc

pub same_written : (requests : List Asked) (a b : Asked) → Contains (written_streams requests) a → Contains (written_streams requests) b → a.name ≡ b.name → a ≡ b
same_written requests a b ca cb name =
    one_of_pairs (λ (y z : Asked). is_text y.name z.name ≡ false) (written_streams requests) a b (written_apart requests) ca cb
    (clash a.name b.name name) (clash b.name a.name (sym name))

module _ (rows : RowsAreOfList) (cycles : ℕ) (s : Scenario) (requests : List Asked)
    (only : AdmitsOnly (filter (is_good s.domain) (written_streams requests)) (history_of cycles s)) where
  abbrev d : Domain
  d = s.domain

  abbrev run : Run
  run = run_of_scenario cycles s

  pub own_row : (asked : Asked) → Contains (written_streams requests) asked → (x : Offered) (row : Row) → IsCovered run x row →
      is_text x.offer.stream asked.name ≡ true → IsOwnRow d asked row
  own_row asked reported x row covered own =
      let named = find_member (λ (r : Row). is_text r.name x.offer.stream) (table_of run.tables (offer_cycle d x)) row covered.named in
      let of = rows d (history_of cycles s) (filter (is_good d) (written_streams requests)) cycles (offer_cycle d x) row only named.0 in
      let listed = contains_from_filter (is_good d) (written_streams requests) of.asked of.listed in
      let name : of.asked.name ≡ asked.name =
      sym of.name ∙ is_text_same row.name x.offer.stream named.1 ∙ is_text_same x.offer.stream asked.name own in
      let one : of.asked ≡ asked = same_written requests of.asked asked listed.0 reported name in
      record {
        good = ap (is_good d) (sym one) ∙ listed.1;
        tree = of.tree ∙ ap (λ (a : Asked). tree_of d a.paths) one;
        pace = of.pace ∙ ap pace_of one;
      }

  -- so it leads to each listed listener
  pub leads_by : (asked : Asked) (row : Row) (to : Option Listener) → IsOwnRow d asked row →
      Contains (listeners_by d (written_cost d (written_streams requests) asked) (row_of_stream d asked)) to →
      (hop : Hop) × Contains (listeners_of d row) hop × (name_of_listener to ≡ Some (name_of_end d hop.link))
  leads_by asked row to own among =
      let cost = written_cost d (written_streams requests) asked in
      let there : Contains (listeners_by d cost (Some (granted_row d 0 0 asked))) to =
      subst (λ (o : Option Row). Contains (listeners_by d cost o) to) (good_row d asked own.good) among in
      let found = contains_from_map (λ (hop : Hop). Some (listener_to d cost hop)) (listeners_of d (granted_row d 0 0 asked)) to there in (
        found.0,
        subst (λ (items : List Hop). Contains (filter (λ (hop : Hop). is_station (end_of d hop.link)) items) found.0) (sym own.tree) found.1,
        ap name_of_listener (sym found.2),
      )

-- of a script over its streams
module _ (asks : ScriptsAskOnly) (histories : HistoriesAdmitOnly) (legal_of : HistoriesAreLegal) where
  pub admits_written : (limits : Limits) (cycles : ℕ) (input : List ℕ) (s : Scenario) (streams : List PlannedText) (book : Contents) →
      IsReadRun limits cycles input s streams book → AdmitsOnly (filter (is_good s.domain) (written_streams (asked_in streams))) (history_of cycles s)
  admits_written limits cycles input s streams book is =
      admits_good s.domain (history_of cycles s) (asked_in streams) (legal_of cycles s is.short is.may.room)
      (histories cycles s (firsts (asked_in streams)) (asks_firsts asks limits cycles input (s, streams) is.read))

  pub rows_add_up : RowsAreOfList → TablesAreOrderly → EachIsWrittenOnce → EachListenerIsWrittenOnce → RowsAddUp
  rows_add_up rows orderly once listeners limits cycles input s streams book fare path is of =
      let d = s.domain in
      let requests = asked_in streams in
      let run = run_of_scenario cycles s in
      let entries = history_of cycles s in
      let reported = written_streams requests in
      let cost = written_cost d reported in
      let offers = offers_within d (length run.tables) (numbered run.offers) in
      let ds = deliveries_of run streams book in
      let only = admits_written limits cycles input s streams book is in
      let stream = contains_from_map (fare_of d cost (deadline_named streams) offers ds) reported fare of.0 in
      let asked : Asked = stream.0 in
      let of_it : Contains (paths_of d (cost asked) (deliveries_named asked.name ds) (row_of_stream d asked)) path =
      subst (λ (f : Fare). Contains f.paths path) (sym stream.2) of.1 in
      let listener = contains_from_map (path_to (deliveries_named asked.name ds)) (listeners_by d (cost asked) (row_of_stream d asked)) path of_it in
      let to : Option Listener = listener.0 in
      let whole = row_adds_up run streams book is.is_book.promise.says is.domain
      (orderly d entries cycles (legal_of cycles s is.short is.may.room) is.is_book.is_book.sealed) once listeners asked.name (name_of_listener to)
      (λ x row covered own. leads_by rows cycles s requests only asked row to (own_row rows cycles s requests only asked stream.1 x row covered own) listener.1) in
      let four = four_counts (name_of_listener to) (deliveries_named asked.name ds) in
      subst (λ (f : Fare). f.offered ≡ path.tally.delivered + path.tally.late + f.dropped + path.tally.under_way) stream.2
      (subst (λ (w : ListenerPath). offers_named asked.name offers ≡ w.tally.delivered + w.tally.late
      + (fare_of d cost (deadline_named streams) offers ds asked).dropped + w.tally.under_way) listener.2 (sym (four ∙ whole)))
