use Rattle.std.proofs.Common.{◌≡◌, drop, map}
use Rattle.std.specs.Prelude.{string_bytes}
use Rattle.cqf_edge.specs.Entrances.{end_at}
use Rattle.cqf_edge.proofs.entrances.end_at.Given as goal

-- the first branches end at their names, so the others decide
abbrev pub invariant-loop-index : goal.invariant-loop-index
invariant-loop-index l =
    end_at (drop l.index l.names) (map (λ path. map string_bytes path.items) (drop l.index l.paths))
    ≡ end_at l.names (map (λ path. map string_bytes path.items) l.paths)
