-- A written plan keeps its word.
use Rattle.std.proofs.Common.{◌≡◌, ◌∙◌, ◌<◌, ◌≤◌, ◌∷◌, [], ℕ, List, Some, inl, inr, arith, ap, sym, subst, refl, Contains, map}
use Rattle.std.specs.Prelude.{slice_get}
use Rattle.cqf_model.specs.declared.frames.Background.{Background}
use Rattle.cqf_model.specs.declared.frames.Offer.{Offer}
use Rattle.cqf_model.specs.declared.frames.Offered.{Offered}
use Rattle.cqf_model.specs.declared.topology.Row.{Row}
use Rattle.cqf_model.specs.Book.{Contents}
use Rattle.cqf_model.specs.Domain.{Domain}
use Rattle.cqf_model.specs.History.{Asked, Branch, Recorded, tree_of}
use Rattle.cqf_model.specs.HistoryBook.{run_of_history}
use Rattle.cqf_model.specs.Run.{Run}
use Rattle.cqf_model.specs.Shift.{IsCovered, offer_cycle}
use Rattle.cqf_model.specs.Table.{reserved_in}
use Rattle.cqf_laws_history.specs.StateLaws.{GrantedFindsRoom, GrantedIsHeld, HistoryGoesOn, SealsAreCounted, granted_row}
use Rattle.cqf_laws_shift.proofs.Trees.{same_hop}
use Rattle.cqf_laws_timing.specs.Listeners.{BranchesEnd}
use Rattle.cqf_laws_timing.specs.Streams.{AdmittedHaveNames, AreGranted, IsOfList, ListCostsItsTable, RowsAreOfList}
use Rattle.cqf_laws_timing.specs.Covered.{ConformingOwnIsCovered, ConformingStreamIsCovered}
use Rattle.cqf_laws_timing.specs.InTime.{ArrivesInTime, ComesThrough, ConformingOwnIsInTime, ConformingStreamIsInTime, IsBookOverList}
use Rattle.cqf_laws_timing.specs.Traffic.{Conforms, needed, offers_named}
use Rattle.cqf_laws_timing.specs.Reported.{planned_rows}
use Rattle.cqf_traffic.specs.FlowsText.{FlowText}
use Rattle.cqf_traffic.specs.TrafficText.{TrafficText, promise_of}
use Rattle.cqf_admission.specs.Asking.{asked_by}
use Rattle.cqf_program_scenario.specs.Calls.{history_of}
use Rattle.cqf_program_plans.specs.Latency.Input.{asked_in as asked_in_plan}
use Rattle.cqf_program_plans.proofs.GrantedPlans.{plan_paced}
use Rattle.cqf_program_offers.specs.OffersOutput.{asked_in}
use Rattle.cqf_program_laws.specs.PlanLaws.{ComesAsPromised, IsHeardWithin, IsKeptPlan, IsPromised}
use Rattle.cqf_program_laws.specs.PlanLaws.{PlansKeepTheirWord, PlansKeepTheirWordOnThreads, PlansKeepTheirWordToScripts}
use Rattle.cqf_program_laws.specs.ScriptLaws.{AccountsAdmitOnly, AskOnly, HistoriesAdmitOnly, HistoriesAreLegal, PlannedScenariosAskOnly}
use Rattle.cqf_program_laws.proofs.PlannedRows.{HasItsRow}
use Rattle.cqf_program_laws.proofs.InPlan.{all_are_granted, enough, is_sure, its_index, its_row, one_asked}

-- ---- a promised frame

module _ (held : GrantedIsHeld) (goes_on : HistoryGoesOn) (counted : SealsAreCounted) (room : GrantedFindsRoom) (of_list : RowsAreOfList)
    (names : AdmittedHaveNames) (costs : ListCostsItsTable) (ends : BranchesEnd) (covers : ConformingStreamIsCovered) (covers_own : ConformingOwnIsCovered)
    (comes : ConformingStreamIsInTime) (comes_own : ConformingOwnIsInTime) (d : Domain) (flows : List FlowText) (entries : List Recorded)
    (offers : List Offer) (background : List Background) (cycles : ℕ) (book : Contents) (plan : IsKeptPlan d flows)
    (over : IsBookOverList d (map asked_in flows) entries offers background cycles book) where
  abbrev run : Run
  run = run_of_history d entries offers background cycles

  abbrev all : List Asked
  all = map asked_in flows

  granted : AreGranted d [] all
  granted = all_are_granted held goes_on counted room of_list names d flows entries offers background cycles plan over.only

  module _ (flow : FlowText) (t : TrafficText) (x : Offered) (row : Row) (promised : IsPromised run flows flow t x row) where
    -- its index and its row in the plan, its request, and that its row in the run reserves enough
    abbrev index_there : (index : ℕ) × (slice_get flows index ≡ Some flow)
    index_there = its_index held goes_on counted room of_list names d flows entries offers background cycles plan over.only flow t x row promised

    abbrev row_there : HasItsRow d (planned_rows d all) index_there.0 (asked_in flow)
    row_there = its_row held goes_on counted room of_list names d flows entries offers background cycles plan over.only flow t x row promised

    one_there : (of : IsOfList d all row) → of.asked ≡ asked_in flow
    one_there of = one_asked held goes_on counted room of_list names d flows entries offers background cycles plan over.only flow t x row promised of

    enough_there : needed d.overhead d.cycle_time (promise_of t) ≤ reserved_in row 0 (offer_cycle d x)
    enough_there = enough held goes_on counted room of_list names d flows entries offers background cycles plan over.only flow t x row promised

    -- so it is covered, and passes all links
    comes_through : IsCovered run x row × ComesThrough d all cycles book x row
    comes_through =
        let some : 0 < d.cycle_time = omega (arith, over.accepted.cycle_least) in
        elim promised.keeps [
          | inl c ↦
              let keeps = subst (λ (name : List ℕ). Conforms (promise_of t) (offers_named name offers)) (sym promised.name) c in (
                covers run (promise_of t) x row some promised.is_traffic keeps enough_there promised.at_edge,
                comes d all entries offers background cycles book (promise_of t) x row over promised.is_traffic keeps enough_there promised.at_edge,
              )
          | inr c ↦ (
            covers_own run (promise_of t) x row some promised.is_traffic c enough_there promised.at_edge,
            comes_own d all entries offers background cycles book (promise_of t) x row over promised.is_traffic c enough_there promised.at_edge,
          )
        ]

    -- at each listener
    heard : (branch : Branch) → Contains flow.0.0.paths branch → IsHeardWithin d all (asked_in flow) cycles book x branch x.offer.at.0 flow.0.1
    heard branch c =
        let through = comes_through.1 in
        let listener = ends d row_there.beside (asked_in flow) branch row_there.free c in
        let tree : row.tree.items ≡ tree_of d flow.0.0.paths =
        through.of_list.tree ∙ ap (λ (a : Asked). tree_of d a.paths) (one_there through.of_list) in
        let in_run = same_hop (granted_row d 0 0 (asked_in flow)) row listener.bridges listener.link (sym tree) listener.is_hop in
        let in_plan = same_hop (granted_row d 0 0 (asked_in flow)) row_there.row listener.bridges listener.link (sym row_there.tree) listener.is_hop in
        record {
          bridges = listener.bridges;
          link = listener.link;
          station = listener.station;
          ends_at = listener.ends_at;
          arrives = λ lasts.
              let arrival = subst (λ (a : Asked). ArrivesInTime d all a book x listener.bridges listener.link) (one_there through.of_list)
              (through.arrives listener.bridges listener.link in_run lasts) in
              record {
                arrival = arrival;
                within = λ most is.
                    arrival.in_time most
                    (is_sure costs d flows plan granted index_there.0 flow index_there.1 row_there listener.bridges listener.link listener.station in_plan
                    listener.ends_at.ends most is);
              };
        }

    pub comes_as_promised : ComesAsPromised run flows flow cycles book x row x.offer.at.0 flow.0.1
    comes_as_promised = record { covered = comes_through.0; through = comes_through.1; heard = heard }

-- ---- the laws

pub plans_keep_their_word : GrantedIsHeld → HistoryGoesOn → SealsAreCounted → GrantedFindsRoom → RowsAreOfList → AdmittedHaveNames → ListCostsItsTable →
    BranchesEnd → ConformingStreamIsCovered → ConformingOwnIsCovered → ConformingStreamIsInTime → ConformingOwnIsInTime → PlansKeepTheirWord
plans_keep_their_word held goes_on counted room of_list names costs ends covers covers_own comes comes_own d flows entries offers background cycles book
    plan over flow t x row promised =
    comes_as_promised held goes_on counted room of_list names costs ends covers covers_own comes comes_own d flows entries offers background cycles book plan
    over flow t x row promised

-- the streams of a plan, with their traffic and without
asked_without : (flows : List FlowText) → asked_in_plan (map (λ (flow : FlowText). flow.0) flows) ≡ map asked_in flows
asked_without [] = refl
asked_without (flow ∷ flows) = ap (λ (rest : List Asked). asked_by flow.0.0 ∷ rest) (asked_without flows)

-- in a script
pub plans_keep_their_word_to_scripts : PlansKeepTheirWord → PlannedScenariosAskOnly → HistoriesAdmitOnly → HistoriesAreLegal → PlansKeepTheirWordToScripts
plans_keep_their_word_to_scripts keep asks histories legal limits cycles input s flows book short holds accepted may plan is =
    let only = subst (λ (streams : List Asked). AskOnly streams s.calls) (asked_without flows)
    (asks limits cycles input s (map (λ (flow : FlowText). flow.0) flows) holds) in
    keep s.domain flows (history_of cycles s) s.offers s.background cycles book plan (record {
      accepted = accepted;
      legal = legal cycles s short may.room;
      only = histories cycles s (map asked_in flows) only;
      paced = plan_paced s.domain (map asked_in flows) plan.entries plan.admitted;
      offered = may.offers;
      beside = may.background;
      is_book = is.is_book;
    })

-- and in each account
pub plans_keep_their_word_on_threads : PlansKeepTheirWord → PlannedScenariosAskOnly → AccountsAdmitOnly → PlansKeepTheirWordOnThreads
plans_keep_their_word_on_threads keep asks accounts limits cycles input s flows entries asked book holds accepted may plan commands account =
    let only = subst (λ (streams : List Asked). AskOnly streams s.calls) (asked_without flows)
    (asks limits cycles input s (map (λ (flow : FlowText). flow.0) flows) holds) in
    keep s.domain flows entries s.offers s.background cycles book plan (record {
      accepted = accepted;
      legal = account.history.legal;
      only = accounts cycles s (map asked_in flows) asked entries only commands account.history;
      paced = plan_paced s.domain (map asked_in flows) plan.entries plan.admitted;
      offered = may.offers;
      beside = may.background;
      is_book = record { sealed = account.sealed; is_book = account.keeps.is_book };
    })
