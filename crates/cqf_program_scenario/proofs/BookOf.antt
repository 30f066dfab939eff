-- The book of a scenario.
use Rattle.std.proofs.Common.{◌≡◌, ◌≤◌, ℕ, List, refl, subst}
use Rattle.cqf_model.specs.declared.frames.Background.{Background}
use Rattle.cqf_model.specs.declared.frames.Offer.{Offer}
use Rattle.cqf_model.specs.Book.{Contents}
use Rattle.cqf_model.specs.Domain.{Domain, IsAccepted}
use Rattle.cqf_model.specs.History.{IsLegalHistory, Recorded, seals}
use Rattle.cqf_laws_coverage.specs.Reported.{BookOfHistoryIsThere, IsThere}
use Rattle.cqf_program_scenario.specs.Books.{IsBookOfScenario}
use Rattle.cqf_program_scenario.specs.Calls.{history_of}
use Rattle.cqf_program_scenario.specs.Closing.{MayBeRun}
use Rattle.cqf_program_scenario.specs.Scenario.{Scenario}

-- a book that exists is the scenario's book
pub IsBookOfScenario-there : (cycles : ℕ) (s : Scenario) (d : Domain) (entries : List Recorded) (offers : List Offer) (background : List Background)
    (book : Contents) → d ≡ s.domain → entries ≡ history_of cycles s → offers ≡ s.offers → background ≡ s.background →
    IsThere d entries offers background cycles book → IsBookOfScenario cycles s book
IsBookOfScenario-there cycles s d entries offers background book domain history offered following there =
    let at : IsThere s.domain (history_of cycles s) s.offers s.background cycles book =
    subst (λ (bs : List Background). IsThere s.domain (history_of cycles s) s.offers bs cycles book) following
    (subst (λ (os : List Offer). IsThere s.domain (history_of cycles s) os background cycles book) offered
    (subst (λ (es : List Recorded). IsThere s.domain es offers background cycles book) history
    (subst (λ (x : Domain). IsThere x entries offers background cycles book) domain there))) in
    record {
      is_book = at.is_book;
      only = at.only;
      promise = at.keeps;
    }

-- and such a book exists
pub scenario_has_book : BookOfHistoryIsThere → (cycles : ℕ) (s : Scenario) → IsAccepted s.domain → MayBeRun cycles s →
    IsLegalHistory s.domain (history_of cycles s) → cycles ≤ seals (history_of cycles s) → (book : Contents) × IsBookOfScenario cycles s book
scenario_has_book is_there cycles s accepted may legal closed =
    let there = is_there s.domain (history_of cycles s) s.offers s.background cycles accepted legal may.offers may.background closed in
    (there.0, IsBookOfScenario-there cycles s s.domain (history_of cycles s) s.offers s.background there.0 refl refl refl refl there.1)
