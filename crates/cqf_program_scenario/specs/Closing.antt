-- A scenario that was read.
use Rattle.std.specs.Prelude.{ℕ, ◌≤◌, [], length, map}
use Rattle.cqf_model.specs.Run.{AreBackground, AreOffers}
use Rattle.cqf_laws_coverage.specs.Judged.{StandInOrder}
use Rattle.cqf_admission.specs.Orders.{ordered_in}
use Rattle.cqf_admission.specs.Asking.{asked_paced}
use Rattle.cqf_program_scenario.specs.declared.given.RunInput.{RunInput}
use Rattle.cqf_program_scenario.specs.Calls.{HasRoom}
use Rattle.cqf_program_scenario.specs.Scenario.{Scenario}
use Rattle.cqf_model.specs.Limits.{most_offers}

-- the scenario of what was read
abbrev pub scenario_given : RunInput → Scenario
scenario_given given = record {
  domain = given.domain;
  calls = map (ordered_in (map asked_paced given.requests.items) given.script.items) given.orders.items;
  sealer = given.sealer;
  offers = given.offers.items;
  background = given.background.items;
}

-- the scenario may be run over this number of cycles: there is room for its calls, its frames are frames of its domain, and its offers are
-- in order of instant
pub record MayBeRun (cycles : ℕ) (s : Scenario) : Type 0 where
  pub room : HasRoom cycles [] s.calls
  pub offers : AreOffers s.domain s.offers
  pub background : AreBackground s.domain s.background
  pub few_offers : length s.offers ≤ most_offers
  pub few_background : length s.background ≤ most_offers
  pub in_order : StandInOrder s.offers
