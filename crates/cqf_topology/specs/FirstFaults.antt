-- Which name is reported as taken, and which link as occurring twice, in terms of indexes alone.
use Rattle.std.specs.Prelude.{ℕ, ◌≡◌, ◌<◌, List, [], Some, MatchOption, slice_get}
use Rattle.cqf_model.specs.declared.topology.Link.{Link}
use Rattle.cqf_topology.specs.DomainText.{first_taken, first_twice}

-- the name at this index occurred earlier
pub record StoodEarlier (names : List (List ℕ)) (index : ℕ) : Type 0 where
  pub name : List ℕ
  pub before : ℕ
  pub earlier : before < index
  pub stood : slice_get names before ≡ Some name
  pub stands : slice_get names index ≡ Some name

-- the name is at the least index whose name occurred earlier
pub record IsFirstRepeated (names : List (List ℕ)) (name : List ℕ) : Type 0 where
  pub index : ℕ
  pub stands : slice_get names index ≡ Some name
  pub repeats : StoodEarlier names index
  pub least : (k : ℕ) → k < index → ¬ StoodEarlier names k

-- the link with this number has the same ends as an earlier link
pub record HasTwin (links : List Link) (number : ℕ) : Type 0 where
  pub link : Link
  pub twin : Link
  pub before : ℕ
  pub earlier : before < number
  pub stood : slice_get links before ≡ Some twin
  pub stands : slice_get links number ≡ Some link
  pub same_from : link.from ≡ twin.from
  pub same_to : link.to ≡ twin.to

-- a number is the least of a link with an earlier twin
pub record IsFirstTwin (links : List Link) (number : ℕ) : Type 0 where
  pub repeats : HasTwin links number
  pub least : (k : ℕ) → k < number → ¬ HasTwin links k

-- for any names: the name reported as taken is the first repeated one, and if none is reported, no name occurred earlier
abbrev pub TakenIsFirstRepeated : Type 0
TakenIsFirstRepeated = (names : List (List ℕ))
    → MatchOption (first_taken [] names) ((index : ℕ) → ¬ StoodEarlier names index) (λ name. IsFirstRepeated names name)

-- for any links: the link reported as occurring twice is the first with an earlier twin, and if none is reported, no link has a twin
abbrev pub TwiceIsFirstTwin : Type 0
TwiceIsFirstTwin = (links : List Link) → MatchOption (first_twice [] links) ((number : ℕ) → ¬ HasTwin links number) (λ number. IsFirstTwin links number)
