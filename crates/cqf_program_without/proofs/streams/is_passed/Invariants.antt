use Rattle.std.proofs.Common.{◌≡◌, drop, map, string_bytes}
use Rattle.std.specs.List.{list_any}
use Rattle.cqf_program_without.specs.Streams.{passes}
use Rattle.cqf_program_without.proofs.streams.is_passed.Given as goal

abbrev pub invariant-loop-path : goal.invariant-loop-path
invariant-loop-path l =
    list_any (passes l.link) (map (λ path. map string_bytes path.items) (drop l.path-index l.paths))
    ≡ list_any (passes l.link) (map (λ path. map string_bytes path.items) l.paths)
