use Rattle.std.proofs.Common.{◌≡◌, ◌++◌, drop, map, option_map}
use Rattle.toml.specs.View.{table_view}
use Rattle.cqf_program_files.specs.Files.{tables_of}
use Rattle.cqf_program_files.proofs.checking.tables_of.Given as goal

abbrev pub invariant-loop-text : goal.invariant-loop-text
invariant-loop-text l =
    option_map (λ more. map table_view l.tables.items ++ more) (tables_of (map (λ text. text.now) (drop l.text-index l.texts)))
    ≡ tables_of (map (λ text. text.now) l.texts)
