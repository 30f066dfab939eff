use Rattle.std.proofs.Common.{◌≡◌, drop, map, string_bytes}
use Rattle.cqf_program_without.specs.Streams.{passes}
use Rattle.cqf_program_without.proofs.streams.passes.Given as goal

-- the branch doesn't pass the link before the index
abbrev pub invariant-loop-index : goal.invariant-loop-index
invariant-loop-index l = passes l.link (map string_bytes (drop l.index l.path)) ≡ passes l.link (map string_bytes l.path)
