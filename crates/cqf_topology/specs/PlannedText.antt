-- The streams that a text requests, with their deadlines, or the first fault of the text.
use Rattle.std.specs.Prelude.{ℕ, List, Option, Result, Ok}
use Rattle.toml.specs.Data.{Members}
use Rattle.cqf_lists.specs.Results.{and_then}
use Rattle.cqf_topology.specs.declared.keys.Key.TheVariants.{Streams, Deadline}
use Rattle.cqf_topology.specs.declared.toml_faults.TomlFault.{TomlFault}
use Rattle.cqf_topology.specs.Fields.{whole_document, tables_of_key, number_if}
use Rattle.cqf_topology.specs.declared.planned.Planned.{Planned}
use Rattle.cqf_topology.specs.PacedText.{PacedText, paced_from, paced_text}
use Rattle.cqf_topology.specs.StreamsText.{streams_keys, stream_keys}

-- a request as texts and numbers, and its deadline in nanoseconds
abbrev pub PlannedText : Type 0
PlannedText = PacedText × Option ℕ

abbrev pub planned_text : Planned → PlannedText
planned_text planned = (paced_text planned.request, planned.deadline)

-- the deadline of a stream's table; none if the key is missing
abbrev pub deadline_from : Members → Result (Option ℕ) TomlFault
deadline_from table = number_if Deadline 1 4294967295 table

-- a stream's table. The deadline is read after its other keys
abbrev pub planned_from : Members → Result PlannedText TomlFault
planned_from table = and_then (paced_from table) (λ request. and_then (deadline_from table) (λ deadline. Ok (request, deadline)))

-- the streams of a text, or its first fault
abbrev pub planned_of_text : List ℕ → Result (List PlannedText) TomlFault
planned_of_text text = and_then (whole_document streams_keys Streams stream_keys text) (tables_of_key Streams planned_from)
