-- A written plan keeps its word in every loose network.
use Rattle.std.proofs.Common.{◌≡◌, ◌∙◌, ℕ, List, Contains, ap, map, subst, sym}
use Rattle.cqf_model.specs.declared.frames.Background.{Background}
use Rattle.cqf_model.specs.declared.frames.Offer.{Offer}
use Rattle.cqf_model.specs.declared.frames.Offered.{Offered}
use Rattle.cqf_model.specs.declared.topology.Row.{Row}
use Rattle.cqf_model.specs.Domain.{Domain}
use Rattle.cqf_model.specs.History.{Asked, Branch, Recorded, tree_of}
use Rattle.cqf_model.specs.HistoryBook.{run_of_history}
use Rattle.cqf_model.specs.Loose.{slack_of}
use Rattle.cqf_model.specs.Network.{Network}
use Rattle.cqf_model.specs.Policing.{Carried}
use Rattle.cqf_laws_history.specs.StateLaws.{GrantedFindsRoom, GrantedIsHeld, HistoryGoesOn, SealsAreCounted, granted_row}
use Rattle.cqf_laws_shift.proofs.Trees.{same_hop}
use Rattle.cqf_laws_timing.specs.Listeners.{BranchesEnd}
use Rattle.cqf_laws_timing.specs.LooseInTime.{ComesThroughLoosely, IsHeardInTime, LooseConformingIsInTime}
use Rattle.cqf_laws_timing.specs.LooseStreams.{IsLooseHistory}
use Rattle.cqf_laws_timing.specs.Streams.{AdmitsOnly, AdmittedHaveNames, IsOfList, ListCostsItsTable, RowsAreOfList}
use Rattle.cqf_laws_timing.specs.Reported.{planned_rows}
use Rattle.cqf_laws_timing.specs.Traffic.{Conforms, offers_named}
use Rattle.cqf_traffic.specs.FlowsText.{FlowText}
use Rattle.cqf_traffic.specs.TrafficText.{TrafficText, promise_of}
use Rattle.cqf_program_plans.proofs.GrantedPlans.{plan_paced}
use Rattle.cqf_program_offers.specs.OffersOutput.{asked_in}
use Rattle.cqf_program_laws.specs.PlanLaws.{IsHeardLoosely, IsKeptPlan, IsPromised, PlansKeepTheirWordLoosely}
use Rattle.cqf_program_laws.proofs.PlannedRows.{HasItsRow}
use Rattle.cqf_program_laws.proofs.InPlan.{all_are_granted, enough, is_sure, its_index, its_row, one_asked}

module _ (held : GrantedIsHeld) (goes_on : HistoryGoesOn) (counted : SealsAreCounted) (room : GrantedFindsRoom) (of_list : RowsAreOfList)
    (names : AdmittedHaveNames) (costs : ListCostsItsTable) (ends : BranchesEnd) (comes : LooseConformingIsInTime) (d : Domain) (flows : List FlowText)
    (entries : List Recorded) (offers : List Offer) (background : List Background) (cycles : ℕ) (net : Network) (carries : Carried) (plan : IsKeptPlan d flows)
    (loose : IsLooseHistory d entries offers background cycles (slack_of d) net carries) (only : AdmitsOnly (map asked_in flows) entries) (flow : FlowText)
    (t : TrafficText) (x : Offered) (row : Row) (promised : IsPromised (run_of_history d entries offers background cycles) flows flow t x row)
    (keeps : Conforms (promise_of t) (offers_named flow.0.0.name offers)) where
  abbrev all : List Asked
  all = map asked_in flows

  -- the stream's row in the plan
  row_there : HasItsRow d (planned_rows d all)
      (its_index held goes_on counted room of_list names d flows entries offers background cycles plan only flow t x row promised).0 (asked_in flow)
  row_there = its_row held goes_on counted room of_list names d flows entries offers background cycles plan only flow t x row promised

  one_there : (of : IsOfList d all row) → of.asked ≡ asked_in flow
  one_there of = one_asked held goes_on counted room of_list names d flows entries offers background cycles plan only flow t x row promised of

  -- its frame passes all links
  comes_through : ComesThroughLoosely d all cycles net carries x row
  comes_through =
      comes d all entries offers background cycles net carries (promise_of t) x row loose only (plan_paced d all plan.entries plan.admitted)
      promised.is_traffic (subst (λ (name : List ℕ). Conforms (promise_of t) (offers_named name offers)) (sym promised.name) keeps)
      (enough held goes_on counted room of_list names d flows entries offers background cycles plan only flow t x row promised) promised.at_edge

  -- and is heard in time
  pub is_heard : (branch : Branch) → Contains flow.0.0.paths branch → IsHeardLoosely d all (asked_in flow) cycles net carries x branch x.offer.at.0 flow.0.1
  is_heard branch c =
      let index = its_index held goes_on counted room of_list names d flows entries offers background cycles plan only flow t x row promised in
      let listener = ends d row_there.beside (asked_in flow) branch row_there.free c in
      let tree : row.tree.items ≡ tree_of d flow.0.0.paths =
      comes_through.of_list.tree ∙ ap (λ (a : Asked). tree_of d a.paths) (one_there comes_through.of_list) in
      let in_run = same_hop (granted_row d 0 0 (asked_in flow)) row listener.bridges listener.link (sym tree) listener.is_hop in
      let in_plan = same_hop (granted_row d 0 0 (asked_in flow)) row_there.row listener.bridges listener.link (sym row_there.tree) listener.is_hop in
      record {
        bridges = listener.bridges;
        link = listener.link;
        station = listener.station;
        ends_at = listener.ends_at;
        hears = λ lasts.
            let hearing = subst (λ (a : Asked). IsHeardInTime d all a net carries x listener.bridges listener.link) (one_there comes_through.of_list)
            (comes_through.hears listener.bridges listener.link in_run lasts) in
            record {
              hearing = hearing;
              within = λ most is.
                  hearing.in_time most
                  (is_sure costs d flows plan (all_are_granted held goes_on counted room of_list names d flows entries offers background cycles plan only)
                  index.0 flow index.1 row_there listener.bridges listener.link listener.station in_plan listener.ends_at.ends most is);
            };
      }

pub plans_keep_their_word_loosely : GrantedIsHeld → HistoryGoesOn → SealsAreCounted → GrantedFindsRoom → RowsAreOfList → AdmittedHaveNames →
    ListCostsItsTable → BranchesEnd → LooseConformingIsInTime → PlansKeepTheirWordLoosely
plans_keep_their_word_loosely held goes_on counted room of_list names costs ends comes d flows entries offers background cycles net carries plan loose only flow t
    x row promised keeps branch c =
    is_heard held goes_on counted room of_list names costs ends comes d flows entries offers background cycles net carries plan loose only flow t x row promised
    keeps branch c
