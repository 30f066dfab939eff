use Rattle.std.proofs.Common.{◌≡◌, drop, map}
use Rattle.cqf_program_files.specs.Files.{first_long_among}
use Rattle.cqf_program_files.proofs.checking.first_long_among.Given as goal

abbrev pub invariant-loop-text : goal.invariant-loop-text
invariant-loop-text l =
    first_long_among (map (λ text. text.now) (drop l.text-index l.texts)) ≡ first_long_among (map (λ text. text.now) l.texts)
