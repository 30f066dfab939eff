-- The lines of the elements so far.
use Rattle.std.proofs.Common.{◌≡◌, take}
use Rattle.std.specs.Prelude.{string_bytes}
use Rattle.std.specs.List.{flat_map}
use Rattle.cqf_program_diff.specs.Changes.{change_of}
use Rattle.cqf_program_diff.proofs.changes.changed_lines.Given as goal

abbrev pub invariant-loop-before : goal.invariant-loop-before
invariant-loop-before l = string_bytes l.text ≡ flat_map (change_of l.form l.afters) (take l.before-index l.befores)
