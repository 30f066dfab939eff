-- The lines of the elements so far.
use Rattle.std.proofs.Common.{◌≡◌, take}
use Rattle.std.specs.Prelude.{string_bytes}
use Rattle.std.specs.List.{flat_map}
use Rattle.cqf_program_diff.specs.Changes.{addition_of}
use Rattle.cqf_program_diff.proofs.changes.added_lines.Given as goal

abbrev pub invariant-loop-after : goal.invariant-loop-after
invariant-loop-after l = string_bytes l.text ≡ flat_map (addition_of l.form l.befores) (take l.after-index l.afters)
