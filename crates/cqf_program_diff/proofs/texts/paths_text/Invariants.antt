-- The paths so far.
use Rattle.std.proofs.Common.{◌≡◌, ◌++◌, codes, map, take}
use Rattle.std.specs.Prelude.{string_bytes}
use Rattle.std.specs.List.{flat_map}
use Rattle.cqf_program_diff.specs.Texts.{path_text}
use Rattle.cqf_program_diff.proofs.texts.paths_text.Given as goal

abbrev pub invariant-loop-path : goal.invariant-loop-path
invariant-loop-path l = string_bytes l.text ≡ string_bytes l.initial.text
    ++ flat_map (λ path. codes " | " ++ path_text path) (map (λ path. map string_bytes path.items) (take l.path-index l.rest))
