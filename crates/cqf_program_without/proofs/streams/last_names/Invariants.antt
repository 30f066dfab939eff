use Rattle.std.proofs.Common.{◌≡◌, map, string_bytes, take}
use Rattle.toml.specs.Data.{string}
use Rattle.toml.specs.View.{items_of, items_view}
use Rattle.cqf_program_without.specs.Streams.{last_name}
use Rattle.cqf_program_without.proofs.streams.last_names.Given as goal

abbrev pub invariant-loop-path : goal.invariant-loop-path
invariant-loop-path l = items_view l.names.items ≡ items_of (map (λ path. string (last_name (map string_bytes path.items))) (take l.path-index l.paths))
