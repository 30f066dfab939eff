-- The header, and the lines of the candidates so far.
use Rattle.std.proofs.Common.{◌≡◌, ◌++◌, take}
use Rattle.cqf_report.specs.Written.{line_of_fields}
use Rattle.cqf_program_planning.specs.TableText.{candidates_header, lines_of_candidates}
use Rattle.cqf_program_planning.proofs.table.text_of_candidates.Given as goal

abbrev pub invariant-loop-candidate : goal.invariant-loop-candidate
invariant-loop-candidate l = l.text.items ≡ line_of_fields candidates_header ++ lines_of_candidates l.streams (take l.candidate-index l.reported)
