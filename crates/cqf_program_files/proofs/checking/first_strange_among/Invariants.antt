use Rattle.std.proofs.Common.{◌≡◌, drop, map, option_map}
use Rattle.cqf_program_files.specs.Files.{first_strange_among, shown_key}
use Rattle.cqf_program_files.proofs.checking.first_strange_among.Given as goal

abbrev pub invariant-loop-text : goal.invariant-loop-text
invariant-loop-text l =
    option_map shown_key (first_strange_among (map (λ text. text.now) (drop l.text-index l.texts)))
    ≡ option_map shown_key (first_strange_among (map (λ text. text.now) l.texts))
