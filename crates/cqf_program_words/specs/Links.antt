-- The link that a word of `plan --without` names, by the names of its ends.
use Rattle.std.specs.Prelude.{ℕ, ◌≡◌, ◌==◌, ◌&&◌, Bool, not, List, Option, Some, None, find, if◌then◌else◌, is_some, map}
use Rattle.std.specs.List.{after_first, before_first}
use Rattle.clap.specs.Words.{Text}
use Rattle.cqf_units.specs.Name.{is_name}
use Rattle.cqf_program_words.specs.declared.links.LinkName.{LinkName}

-- what divides the two names: `>`
abbrev pub is_arrow : ℕ → Bool
is_arrow byte = byte == 62

-- the link from a node to another, if both texts have the form of a name
abbrev pub link_between : Text → Text → Option LinkName
link_between from to = if is_name from && is_name to then Some (record { from = from; to = to }) else None

-- the link that a word FROM>TO names
abbrev pub link_in : Text → Option LinkName
link_in word = link_between (before_first is_arrow word) (after_first is_arrow word)

-- the links that words name: each word names its link
abbrev pub AreLinks : List Text → List LinkName → Type 0
AreLinks words links = map link_in words ≡ map (λ link. Some link) links

-- the first word that names no link
abbrev pub is_link : Text → Bool
is_link word = is_some (link_in word)

abbrev pub first_no_link : List Text → Option Text
first_no_link words = find (λ word. not (is_link word)) words
