-- The streams that a text requests, or the first fault of the text.
use Rattle.std.specs.Prelude.{ℕ, List, [], ◌∷◌, map, Option, Some, None, Result, Ok, Err, string_bytes}
use Rattle.toml.specs.Data.{Data, as_str, Members}
use Rattle.cqf_topology.specs.declared.keys.Key.{Key}
use Rattle.cqf_topology.specs.declared.keys.Key.TheVariants.{Streams, Name, Octets, Path, Paths}
use Rattle.cqf_topology.specs.declared.toml_faults.TomlFault.{TomlFault}
use Rattle.cqf_topology.specs.declared.toml_faults.TomlFault.TheVariants.{BadValue}
use Rattle.cqf_topology.specs.declared.streams.Request.{Request}
use Rattle.cqf_lists.specs.Results.{and_then}
use Rattle.cqf_topology.specs.Fields.{value_at, whole_document, read_at, tables_of_key, number_from, texts_at, text_lists_at}

-- the keys that a streams text must have, and those that each stream must have, in reading order; `paths` can replace `path`
abbrev pub streams_keys : List Key
streams_keys = Streams ∷ []

abbrev pub stream_keys : List Key
stream_keys = Name ∷ Octets ∷ Path ∷ []

-- a request for a stream, as texts and numbers. Each branch of its tree lists its bridges in order, followed by the listener's station
pub record RequestText : Type 0 where
  pub name : List ℕ
  pub octets : ℕ
  pub paths : List (List (List ℕ))

-- a request as texts and numbers
abbrev pub request_text : Request → RequestText
request_text r = record {
  name = string_bytes r.name;
  octets = r.octets;
  paths = map (λ path. map string_bytes path.items) r.paths.items;
}

-- the branches of a stream, given the values at `path` and at `paths`: the single branch of `path`, or those of `paths`, but not both
abbrev pub branches_by : Option Data → Option Data → Members → Result (List (List (List ℕ))) TomlFault
branches_by None paths table = text_lists_at Paths table
branches_by (Some d) None table = and_then (texts_at Path table) (λ path. Ok (path ∷ []))
branches_by (Some d) (Some e) table = and_then (texts_at Path table) (λ path. Err (BadValue Paths))

abbrev pub branches_from : Members → Result (List (List (List ℕ))) TomlFault
branches_from table = branches_by (value_at Path table) (value_at Paths table) table

-- a stream's table
abbrev pub request_from : Members → Result RequestText TomlFault
request_from table =
    and_then (read_at Name as_str table) (λ name.
    and_then (read_at Octets (number_from 0 4294967295) table) (λ octets.
    and_then (branches_from table) (λ paths.
    Ok (record { name = name; octets = octets; paths = paths }))))

-- the requests of a text, or its first fault
abbrev pub streams_of_text : List ℕ → Result (List RequestText) TomlFault
streams_of_text text = and_then (whole_document streams_keys Streams stream_keys text) (tables_of_key Streams request_from)
