-- What a book says.
use Rattle.std.specs.Prelude.{◌≡◌, List}
use Rattle.cqf_model.specs.declared.frames.Background.{Background}
use Rattle.cqf_model.specs.Book.{Contents, IsOneThreadBook}
use Rattle.cqf_model.specs.Domain.{IsAccepted}
use Rattle.cqf_model.specs.Headline.{KeepsThePromise}
use Rattle.cqf_model.specs.Run.{AreBackground, AreOffers, Run}
use Rattle.cqf_model.specs.Table.{AreOrderly}
use Rattle.cqf_laws_shift.specs.Run.{with_background}

-- for every accepted domain, the tables of a history and any offers, beside any background frames, the one-thread book says the
-- shift and keeps all else that is promised of it and of its network
abbrev pub BookSaysTheShift : Type 0
BookSaysTheShift = (run : Run) (book : Contents) → IsAccepted run.domain → AreOrderly run.domain run.tables → AreOffers run.domain run.offers →
    AreBackground run.domain run.background → IsOneThreadBook run book → KeepsThePromise run book

-- background frames change neither the starts nor the drops of the one-thread book
abbrev pub BackgroundChangesOneList : Type 0
BackgroundChangesOneList = (run : Run) (background : List Background) (book other : Contents) → IsAccepted run.domain → AreOrderly run.domain run.tables →
    AreOffers run.domain run.offers → AreBackground run.domain run.background → AreBackground run.domain background →
    IsOneThreadBook run book → IsOneThreadBook (with_background run background) other →
    (book.starts ≡ other.starts) × (book.drops ≡ other.drops)
