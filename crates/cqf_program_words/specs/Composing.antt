-- The input that is made from the texts of files.
use Rattle.std.specs.Prelude.{ℕ, ◌==◌, ◌||◌, ◌&&◌, ◌++◌, Bool, false, not, List, [], ◌∷◌, if◌then◌else◌, codes, length, nat_eq}
use Rattle.std.specs.List.{ends_with, flat_map}
use Rattle.cqf_output.specs.Stops.{line_of}
use Rattle.cqf_text.specs.Parts.{parts_of}
use Rattle.cqf_program_words.specs.declared.words.Job.{Job}
use Rattle.cqf_program_words.specs.Words.{takes_domain}

-- a text that needs no line feed at its end: it is empty, or ends with one
abbrev pub is_closed : List ℕ → Bool
is_closed text = length text == 0 || ends_with nat_eq text (10 ∷ [])

-- a text, followed by a line feed if it needs one
abbrev pub closed : List ℕ → List ℕ
closed text = text ++ (if is_closed text then [] else 10 ∷ [])

-- a text that follows others: after a divider
abbrev pub text_after : List ℕ → List ℕ
text_after text = line_of (codes "%%") ++ closed text

-- a name of a TOML file; and whether the second of some names is one
abbrev pub is_toml : List ℕ → Bool
is_toml name = ends_with nat_eq name (codes ".toml")

abbrev pub second_is_toml : List (List ℕ) → Bool
second_is_toml (first ∷ second ∷ more) = is_toml second
second_is_toml names = false

-- no line of the text is a divider
abbrev pub is_undivided : List ℕ → Bool
is_undivided text = length (parts_of text) == 1

-- the first file has both the domain and its streams
abbrev pub is_network : Job → List (List ℕ) → List ℕ → Bool
is_network job names first = takes_domain job && (not (second_is_toml names) && is_undivided first)

-- the first text; a plan is there twice
abbrev pub first_text : Bool → List ℕ → List ℕ
first_text network first = closed first ++ (if network then text_after first else [])

-- the input that is made from files with these names and texts
abbrev pub composed_of : Job → List (List ℕ) → List (List ℕ) → List ℕ
composed_of job names [] = []
composed_of job names (first ∷ more) = first_text (is_network job names first) first ++ flat_map text_after more
