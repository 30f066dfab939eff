use Rattle.std.proofs.Common.{◌≡◌, map, take, string_bytes}
use Rattle.cqf_topology.proofs.streams.copied_paths.Given as goal

abbrev pub invariant-loop-path : goal.invariant-loop-path
invariant-loop-path l =
    map (λ path. map string_bytes path.items) l.copies.items ≡ map (λ path. map string_bytes path.items) (take l.path-index l.paths)
