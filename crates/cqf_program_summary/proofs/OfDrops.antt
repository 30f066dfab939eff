-- The drops of a scenario's book.
use Rattle.std.proofs.Common.{◌≡◌, ℕ, List, subst}
use Rattle.cqf_instants_run.specs.Drops.{AreDropsBy}
use Rattle.cqf_instants_run.specs.declared.judged.EdgeVerdict.{EdgeVerdict}
use Rattle.cqf_model.specs.declared.frames.Dropped.{Dropped}
use Rattle.cqf_model.specs.declared.frames.Offer.{Offer}
use Rattle.cqf_model.specs.Book.{Contents}
use Rattle.cqf_program_scenario.specs.Books.{IsBookOfScenario}
use Rattle.cqf_program_scenario.specs.Calls.{history_of}
use Rattle.cqf_program_scenario.specs.Closing.{MayBeRun, scenario_given}
use Rattle.cqf_program_scenario.specs.declared.given.RunInput.{RunInput}
use Rattle.cqf_program_scenario.specs.declared.outcomes.ScenarioOutcome.{ScenarioOutcome}
use Rattle.cqf_program_scenario.specs.Outcomes.{IsOutcomeOf}

-- the drops that were found by its outcome are those of the book
pub drops_are : (cycles : ℕ) (given : RunInput) (outcome : ScenarioOutcome) (offers : List Offer) (edge_verdicts : List EdgeVerdict) (drops : List Dropped) →
    MayBeRun cycles (scenario_given given) → IsOutcomeOf cycles given outcome → offers ≡ given.offers.items → edge_verdicts ≡ outcome.edge_verdicts.items →
    AreDropsBy given.domain offers cycles edge_verdicts drops → (book : Contents) → IsBookOfScenario cycles (scenario_given given) book → drops ≡ book.drops
drops_are cycles given outcome offers edge_verdicts drops may is same_offers same_verdicts by book is_book =
    let s = scenario_given given in
    let found : AreDropsBy given.domain given.offers.items cycles outcome.edge_verdicts.items drops =
    subst (λ (os : List Offer). AreDropsBy given.domain os cycles outcome.edge_verdicts.items drops) same_offers
    (subst (λ (vs : List EdgeVerdict). AreDropsBy given.domain offers cycles vs drops) same_verdicts by) in
    found (history_of cycles s) outcome.rows.items is.history.legal is.history.judged s.background book may.background is_book.is_book
