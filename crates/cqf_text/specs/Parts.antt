-- The parts of an input.
use Rattle.std.specs.Prelude.{ℕ, ◌==◌, ◌&&◌, Bool, false, List, [], ◌∷◌, ◌++◌, map}
use Rattle.std.specs.List.{slice_split, concat}
use Rattle.cqf_text.specs.Lines.{is_line_feed}

-- the line is exactly `%%`, with a line feed or, at the end of the input, without
abbrev pub is_divider : List ℕ → Bool
is_divider (a ∷ b ∷ []) = a == 37 && b == 37
is_divider (a ∷ b ∷ c ∷ []) = a == 37 && b == 37 && c == 10
is_divider _ = false

-- the pieces with the line feeds that end them; the last one has none
abbrev pub with_line_feeds : List (List ℕ) → List (List ℕ)
with_line_feeds [] = []
with_line_feeds (piece ∷ []) = piece ∷ []
with_line_feeds (piece ∷ next ∷ more) = (piece ++ 10 ∷ []) ∷ with_line_feeds (next ∷ more)

-- the lines of an input with their line feeds, followed by what is after the last line feed
abbrev pub whole_lines : List ℕ → List (List ℕ)
whole_lines input = with_line_feeds (slice_split is_line_feed input)

-- the parts of an input: the text before the first divider line, between two of them, and after the last one
abbrev pub parts_of : List ℕ → List (List ℕ)
parts_of input = map concat (slice_split is_divider (whole_lines input))
