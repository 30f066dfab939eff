-- The book of a run as a text.
use Rattle.std.specs.Prelude.{◌++◌, List, [], ◌∷◌, ℕ, codes, decimal}
use Rattle.std.specs.List.{flat_map}
use Rattle.cqf_model.specs.declared.frames.Dropped.{Dropped}
use Rattle.cqf_model.specs.declared.frames.Reason.{Reason}
use Rattle.cqf_model.specs.declared.frames.Reason.TheVariants.{Octets, OtherBridge, Unknown, Withdrawn}
use Rattle.cqf_model.specs.declared.frames.Started.{Started}
use Rattle.cqf_model.specs.Book.{Contents}
use Rattle.cqf_model.specs.Domain.{Domain}
use Rattle.cqf_topology.specs.NodeNames.{name_of_bridge, name_of_link}
use Rattle.cqf_report.specs.Records.{Fields}
use Rattle.cqf_report.specs.Written.{line_of_fields}

-- the header of a book
abbrev pub book_header : Fields
book_header = codes "what" ∷ codes "cycle" ∷ codes "where" ∷ codes "frame" ∷ codes "octets" ∷ codes "detail" ∷ []

-- a reason as a book names it
abbrev pub name_of_reason : Reason → List ℕ
name_of_reason Unknown = codes "unknown"
name_of_reason Withdrawn = codes "withdrawn"
name_of_reason OtherBridge = codes "other-bridge"
name_of_reason Octets = codes "octets"

-- a transmission: the word for what it is, its cycle, link, frame, size and first instant
abbrev pub started_fields : List ℕ → Domain → Started → Fields
started_fields what d started =
    what ∷ decimal started.cycle.0 ∷ name_of_link d started.link ∷ decimal started.frame ∷ decimal started.octets ∷ decimal started.start.0 ∷ []

-- a drop: its cycle, bridge, frame, size and reason
abbrev pub dropped_fields : Domain → Dropped → Fields
dropped_fields d dropped =
    codes "drop" ∷ decimal dropped.cycle.0 ∷ name_of_bridge d dropped.bridge ∷ decimal dropped.frame ∷ decimal dropped.octets ∷ name_of_reason
    dropped.reason ∷ []

-- one line for each transmission, and one line for each drop, in their orders
abbrev pub lines_of_starts : List ℕ → Domain → List Started → List ℕ
lines_of_starts what d starts = flat_map (λ (started : Started). line_of_fields (started_fields what d started)) starts

abbrev pub lines_of_drops : Domain → List Dropped → List ℕ
lines_of_drops d drops = flat_map (λ (dropped : Dropped). line_of_fields (dropped_fields d dropped)) drops

-- the text of a book: the header, the transmissions of streams' frames, those of background frames, and last the drops
abbrev pub text_of_book : Domain → Contents → List ℕ
text_of_book d book =
    line_of_fields book_header
    ++ lines_of_starts (codes "start") d book.starts
    ++ lines_of_starts (codes "background") d book.background
    ++ lines_of_drops d book.drops
