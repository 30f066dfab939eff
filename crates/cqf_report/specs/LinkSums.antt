-- The sums of streams' frames by link, and these as a text.
use Rattle.std.specs.Prelude.{ℕ, ◌≡◌, ◌≤◌, ◌<◌, ◌++◌, ◌==◌, ◌&&◌, ◌⊎◌, List, [], ◌∷◌, Bool}
use Rattle.std.specs.Prelude.{codes, decimal, length}
use Rattle.std.specs.List.{AllPairs}
use Rattle.cqf_lists.specs.Lists.{each_below}
use Rattle.cqf_model.specs.declared.frames.Started.{Started}
use Rattle.cqf_model.specs.Book.{Contents}
use Rattle.cqf_model.specs.Domain.{Domain}
use Rattle.cqf_model.specs.OnLinks.{frames_on, octets_on}
use Rattle.cqf_laws_coverage.specs.InOneCycle.{most_on}
use Rattle.cqf_topology.specs.NodeNames.{name_of_link}
use Rattle.cqf_report.specs.Records.{Fields}
use Rattle.cqf_report.specs.Written.{line_of_fields}

-- two starts are of the same batch: on the same link in the same cycle
abbrev pub are_of_one_batch : Started → Started → Bool
are_of_one_batch first second = (first.link == second.link) && (first.cycle.0 == second.cycle.0)

-- the first of two starts is in an earlier cycle, or in the same cycle and not on a later link
abbrev pub IsBefore : Started → Started → Type 0
IsBefore first second = (first.cycle.0 < second.cycle.0) ⊎ ((first.cycle.0 ≡ second.cycle.0) × (first.link ≤ second.link))

-- starts are in order of cycle, and within a cycle in order of link, as those of a book are
abbrev pub AreSumsInOrder : List Started → Type 0
AreSumsInOrder starts = AllPairs IsBefore starts

-- the header of the table
abbrev pub link_header : Fields
link_header = codes "link" ∷ codes "frames" ∷ codes "octets" ∷ codes "most" ∷ []

-- the fields of a link: its ends, its frames, their octets, and the most octets in one cycle
abbrev pub sums_fields : List ℕ → ℕ → ℕ → ℕ → Fields
sums_fields ends frames octets most = ends ∷ decimal frames ∷ decimal octets ∷ decimal most ∷ []

abbrev pub link_fields : Domain → List Started → ℕ → Fields
link_fields d starts link = sums_fields (name_of_link d link) (frames_on link starts) (octets_on link starts) (most_on link starts)

-- the text of a book's sums by link: the header, followed by one line for each link, by number. Only streams' frames count
abbrev pub links_text : Domain → Contents → List ℕ
links_text d book = line_of_fields link_header ++ each_below (λ link. line_of_fields (link_fields d book.starts link)) (length d.links)
