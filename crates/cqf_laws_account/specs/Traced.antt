-- A book and its traces.
use Rattle.std.specs.Prelude.{ℕ, ◌≡◌, List}
use Rattle.cqf_model.specs.declared.frames.Background.{Background}
use Rattle.cqf_model.specs.declared.frames.Offer.{Offer}
use Rattle.cqf_model.specs.Book.{Contents}
use Rattle.cqf_model.specs.Domain.{Domain, IsAccepted}
use Rattle.cqf_model.specs.History.{Recorded}
use Rattle.cqf_model.specs.HistoryBook.{IsBookOfHistory}
use Rattle.cqf_laws_cycle.specs.PageLaws.{IsSomeBook}
use Rattle.cqf_trace.specs.declared.traces.Traces.{Traces}
use Rattle.cqf_trace.specs.Traces.{AreTracesOf, MayBeReported, reported_from}

-- the one-thread book of a history over the first `cycles` cycles, and its traces
pub record HasTheTraces (d : Domain) (entries : List Recorded) (offers : List Offer) (background : List Background) (cycles : ℕ)
    (traces : Traces) (book : Contents) : Type 0 where
  pub of_history : IsBookOfHistory d entries offers background cycles book
  pub some : IsSomeBook d cycles book
  pub traces_of : AreTracesOf d traces book

-- the traces of a book determine it, without sorting
pub record TracesGive (d : Domain) (cycles : ℕ) (traces : Traces) (book : Contents) : Type 0 where
  pub reported : book ≡ reported_from d cycles traces
  pub may : MayBeReported d traces

abbrev pub TracesGiveTheBook : Type 0
TracesGiveTheBook = (d : Domain) (cycles : ℕ) (traces : Traces) (book : Contents) → IsAccepted d →
    IsSomeBook d cycles book → AreTracesOf d traces book → TracesGive d cycles traces book
