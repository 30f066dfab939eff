-- The line's scenario may be run.
use Rattle.std.proofs.Common.{ℕ, ◌≡◌, ◌≤◌, List, length, arith, sym, subst}
use Rattle.cqf_model.specs.declared.frames.Offer.{Offer}
use Rattle.cqf_model.specs.Run.{AreOffers}
use Rattle.cqf_laws_coverage.specs.Judged.{StandInOrder}
use Rattle.cqf_program_scenario.specs.Closing.{MayBeRun}
use Rattle.cqf_program_scenario.specs.Scenario.{Scenario}
use Rattle.cqf_program_runs.specs.Line.{line_domain, line_scenario}

-- it has one call, which isn't a Seal, and the offers that were read
pub MayBeRun-line : (cycles : ℕ) (offers : List Offer) (s : Scenario) → s ≡ line_scenario offers → AreOffers line_domain offers →
    length offers ≤ 16777215 → StandInOrder offers → MayBeRun cycles s
MayBeRun-line cycles offers s same good few ordered = subst (λ (t : Scenario). MayBeRun cycles t) (sym same) (record {
  room = record { for_seals = omega arith; for_others = omega arith };
  offers = good;
  background = λ k d inside. omega (arith, inside);
  few_offers = few;
  few_background = omega arith;
  in_order = ordered;
})
