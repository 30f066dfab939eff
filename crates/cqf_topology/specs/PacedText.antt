-- The streams that a text requests, with the cycles in which they are offered, or the first fault of the text.
use Rattle.std.specs.Prelude.{ℕ, List, map, Result, Ok, string_bytes}
use Rattle.toml.specs.Data.{as_str, Members}
use Rattle.cqf_lists.specs.Results.{and_then}
use Rattle.cqf_topology.specs.declared.keys.Key.TheVariants.{Streams, Name, Octets, Every, Phase}
use Rattle.cqf_topology.specs.declared.toml_faults.TomlFault.{TomlFault}
use Rattle.cqf_topology.specs.Fields.{whole_document, read_at, tables_of_key, number_from, number_or}
use Rattle.cqf_topology.specs.declared.paced.PacedRequest.{PacedRequest}
use Rattle.cqf_topology.specs.StreamsText.{RequestText, branches_from, streams_keys, stream_keys}

-- a request for a stream, as texts and numbers: it is offered in one of every `every` cycles, first in the cycle `phase`. Each branch of
-- its tree lists its bridges in order, followed by the listener's station
pub record PacedText : Type 0 where
  pub name : List ℕ
  pub octets : ℕ
  pub every : ℕ
  pub phase : ℕ
  pub paths : List (List (List ℕ))

-- a request as texts and numbers
abbrev pub paced_text : PacedRequest → PacedText
paced_text r = record {
  name = string_bytes r.name;
  octets = r.octets;
  every = r.every;
  phase = r.phase;
  paths = map (λ path. map string_bytes path.items) r.paths.items;
}

-- a request for a stream that is offered in each cycle
abbrev pub in_each_cycle : RequestText → PacedText
in_each_cycle r = record { name = r.name; octets = r.octets; every = 1; phase = 0; paths = r.paths }

-- a stream's table. Without `every` and `phase` the stream is offered in each cycle
abbrev pub paced_from : Members → Result PacedText TomlFault
paced_from table =
    and_then (read_at Name as_str table) (λ name.
    and_then (read_at Octets (number_from 0 4294967295) table) (λ octets.
    and_then (number_or Every 1 table) (λ every.
    and_then (number_or Phase 0 table) (λ phase.
    and_then (branches_from table) (λ paths.
    Ok (record { name = name; octets = octets; every = every; phase = phase; paths = paths }))))))

-- the requests of a text, or its first fault
abbrev pub paced_of_text : List ℕ → Result (List PacedText) TomlFault
paced_of_text text = and_then (whole_document streams_keys Streams stream_keys text) (tables_of_key Streams paced_from)
