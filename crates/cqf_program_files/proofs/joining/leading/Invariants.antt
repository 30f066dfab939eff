use Rattle.std.proofs.Common.{◌≡◌, ◌+◌, drop, map}
use Rattle.cqf_program_files.specs.Files.{leading}
use Rattle.cqf_program_files.proofs.joining.leading.Given as goal

abbrev pub invariant-loop-name : goal.invariant-loop-name
invariant-loop-name l =
    (l.count + leading (map (λ name. name.now) (drop l.name-index l.names)) ≡ leading (map (λ name. name.now) l.names))
    × (l.count ≡ l.name-index)
