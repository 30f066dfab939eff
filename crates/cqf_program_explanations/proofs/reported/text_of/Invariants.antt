-- The lines so far are the text.
use Rattle.std.proofs.Common.{◌≡◌, map, take, string_bytes}
use Rattle.std.specs.List.{flat_map}
use Rattle.cqf_program_explanations.specs.Explanations.{reported_line}
use Rattle.cqf_program_explanations.proofs.reported.text_of.Given as goal

abbrev pub invariant-loop-line : goal.invariant-loop-line
invariant-loop-line l = l.text.items ≡ flat_map (reported_line l.start) (map string_bytes (take l.line-index l.lines))
