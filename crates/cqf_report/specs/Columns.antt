-- The text of the sums of what links carry.
use Rattle.std.specs.Prelude.{ℕ, ◌++◌, List, fold, length, max, sum}
use Rattle.cqf_lists.specs.Lists.{each_below}
use Rattle.cqf_model.specs.Domain.{Domain}
use Rattle.cqf_topology.specs.NodeNames.{name_of_link}
use Rattle.cqf_report.specs.LinkSums.{link_header, sums_fields}
use Rattle.cqf_report.specs.Records.{Fields}
use Rattle.cqf_report.specs.Written.{line_of_fields}

-- the line of a link, given its frames and its octets in each cycle; and the lines of all links after the header
abbrev pub column_fields : Domain → (ℕ → ℕ) → (ℕ → List ℕ) → ℕ → Fields
column_fields d frames octets link = sums_fields (name_of_link d link) (frames link) (sum (octets link)) (fold max 0 (octets link))

abbrev pub columns_text : Domain → (ℕ → ℕ) → (ℕ → List ℕ) → List ℕ
columns_text d frames octets = line_of_fields link_header ++ each_below (λ link. line_of_fields (column_fields d frames octets link)) (length d.links)
