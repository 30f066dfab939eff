use Rattle.std.proofs.Common.{◌≡◌, ◌++◌, drop, map}
use Rattle.cqf_program_files.specs.Files.{toml_texts}
use Rattle.cqf_program_files.proofs.checking.toml_texts.Given as goal

abbrev pub invariant-loop-position : goal.invariant-loop-position
invariant-loop-position l =
    map (λ text. text.now) l.found.items
    ++ toml_texts (map (λ name. name.now) (drop l.position l.names)) (map (λ text. text.now) (drop l.position l.texts))
    ≡ toml_texts (map (λ name. name.now) l.names) (map (λ text. text.now) l.texts)
