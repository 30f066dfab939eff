-- The starts of a port as a text.
use Rattle.std.specs.Prelude.{ℕ, ◌++◌, List, [], ◌∷◌, codes, decimal}
use Rattle.std.specs.List.{flat_map}
use Rattle.cqf_units.specs.Timing.{ending_of}
use Rattle.cqf_model.specs.declared.ports.Start.{Start}
use Rattle.cqf_report.specs.Records.{Fields}
use Rattle.cqf_report.specs.Written.{line_of_fields}

-- the header of a table of starts
abbrev pub start_header : Fields
start_header = codes "class" ∷ codes "frame" ∷ codes "start" ∷ codes "end" ∷ []

-- a start's class, label, first instant, and the instant at which its frame ends, given the time of an octet
abbrev pub start_fields : ℕ → Start → Fields
start_fields octet_time start =
    decimal start.class ∷ decimal start.frame ∷ decimal start.start.0 ∷ decimal (ending_of start.start.0 start.octets octet_time) ∷ []

-- one line for each start, in their order
abbrev pub lines_of_port : ℕ → List Start → List ℕ
lines_of_port octet_time starts = flat_map (λ (start : Start). line_of_fields (start_fields octet_time start)) starts

-- the text of starts: the header, followed by their lines
abbrev pub text_of_starts : ℕ → List Start → List ℕ
text_of_starts octet_time starts = line_of_fields start_header ++ lines_of_port octet_time starts
