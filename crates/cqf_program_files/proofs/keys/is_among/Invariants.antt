use Rattle.std.proofs.Common.{◌≡◌, bytes_eq, drop, map}
use Rattle.std.specs.List.{list_any}
use Rattle.cqf_program_files.proofs.keys.is_among.Given as goal

abbrev pub invariant-loop-it : goal.invariant-loop-it
invariant-loop-it l =
    list_any (bytes_eq l.key) (map (λ it. it.now) (drop l.it-index l.known)) ≡ list_any (bytes_eq l.key) (map (λ it. it.now) l.known)
