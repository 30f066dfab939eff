-- A book whose starts are found while it is written.
use Rattle.std.specs.Prelude.{◌≡◌, List}
use Rattle.cqf_model.specs.declared.frames.Dropped.{Dropped}
use Rattle.cqf_model.specs.declared.frames.Started.{Started}
use Rattle.cqf_model.specs.Book.{Contents}
use Rattle.cqf_instants.specs.Progress.{AreStartsOf, Progress}

-- the parts from which a book is written: a pass over the cycles of its run, the starts of background frames, and the drops
pub record ExactParts : Type 0 where
  pub pass : Progress
  pub background : List Started
  pub drops : List Dropped

-- the book has these parts: its starts are those of the pass's run, by cycle, then link, then instant, and it has these background starts
-- and drops
pub record AreExactParts (parts : ExactParts) (book : Contents) : Type 0 where
  pub are_starts : AreStartsOf parts.pass.basis book.starts
  pub are_background : book.background ≡ parts.background
  pub are_drops : book.drops ≡ parts.drops

-- Is holds of a book whose starts the pass yields
abbrev pub WritesStarts : Progress → (Contents → Type 0) → Type 0
WritesStarts pass Is = (book : Contents) × AreStartsOf pass.basis book.starts × Is book

-- Is holds of a book with these parts
abbrev pub WritesBook : ExactParts → (Contents → Type 0) → Type 0
WritesBook parts Is = (book : Contents) × AreExactParts parts book × Is book
