-- The one-thread book of a history.
use Rattle.std.specs.Prelude.{ℕ, ◌≤◌, List}
use Rattle.cqf_model.specs.declared.frames.Background.{Background}
use Rattle.cqf_model.specs.declared.frames.Offer.{Offer}
use Rattle.cqf_model.specs.Domain.{Domain}
use Rattle.cqf_model.specs.Run.{Run}
use Rattle.cqf_model.specs.Book.{Contents, IsOneThreadBook}
use Rattle.cqf_model.specs.History.{Recorded, seals, tables_of}

-- the run over the first cycles of a history
abbrev pub run_of_history : Domain → List Recorded → List Offer → List Background → ℕ → Run
run_of_history d entries offers background cycles =
    record { domain = d; tables = tables_of d entries cycles; offers = offers; background = background }

-- the book over the first cycles of the history, which are all sealed
pub record IsBookOfHistory (d : Domain) (entries : List Recorded) (offers : List Offer) (background : List Background) (cycles : ℕ)
    (book : Contents) : Type 0 where
  pub sealed : cycles ≤ seals entries
  pub is_book : IsOneThreadBook (run_of_history d entries offers background cycles) book
