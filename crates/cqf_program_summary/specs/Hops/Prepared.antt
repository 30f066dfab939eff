-- What is prepared to write the frames of a scenario.
use Rattle.std.specs.Prelude.{ℕ, ◌≡◌, ◌<◌, AllPairs, IsPermutation, List}
use Rattle.cqf_model.specs.declared.frames.Dropped.{Dropped}
use Rattle.cqf_model.specs.declared.frames.Offer.{Offer}
use Rattle.cqf_model.specs.Book.{Contents}
use Rattle.cqf_model.specs.Domain.{Domain}
use Rattle.cqf_program_scenario.specs.Books.{IsBookOfScenario}
use Rattle.cqf_program_scenario.specs.Scenario.{Scenario}
use Rattle.cqf_program_summary.specs.declared.hops.preparing.Prepared.{Prepared}
use Rattle.cqf_program_summary.specs.Hops.Legs.{Wanted}
use Rattle.cqf_program_summary.specs.Hops.Rounds.{CanBeWritten, WrittenHops, written_by}

-- a scenario has a book
abbrev pub SomeBook : ℕ → Scenario → Type 0
SomeBook cycles s = (book : Contents) × IsBookOfScenario cycles s book

-- the drops are those of a book, by frame
pub record AreDropsByFrame (book : Contents) (drops : List Dropped) : Type 0 where
  pub same : IsPermutation book.drops drops
  pub rise : AllPairs (λ (a b : Dropped). a.frame < b.frame) drops

-- an output from a domain, offers and what was prepared
abbrev pub written_with : Domain → List Offer → Prepared → WrittenHops
written_with d offers prepared =
    written_by d (record { offers = offers; wanted = prepared.wanted; drops = prepared.drops.items }) prepared.rounds.items prepared.pass prepared.kept
    prepared.here

-- what was prepared is for the wanted frames of a scenario: it can be written by the scenario's book
pub record IsPreparedFor (cycles : ℕ) (s : Scenario) (wanted : Wanted) (prepared : Prepared) : Type 0 where
  pub book : Contents
  pub is_book : IsBookOfScenario cycles s book
  pub can : CanBeWritten book.starts (written_with s.domain s.offers prepared)
  pub is_wanted : prepared.wanted ≡ wanted
  pub drops : AreDropsByFrame book prepared.drops.items
