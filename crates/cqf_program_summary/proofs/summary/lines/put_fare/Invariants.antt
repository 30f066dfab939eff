use Rattle.std.proofs.Common.{take}
use Rattle.std.specs.List.{flat_map}
use Rattle.cqf_output.specs.Writer.{Puts}
use Rattle.cqf_report.specs.Written.{line_of_fields}
use Rattle.cqf_program_summary.specs.declared.summary.fares.ListenerPath.{ListenerPath}
use Rattle.cqf_program_summary.specs.Summary.Text.{path_fields}
use Rattle.cqf_program_summary.proofs.summary.lines.put_fare.Given as goal

abbrev pub invariant-loop-path : goal.invariant-loop-path
invariant-loop-path g l =
    Puts g.W.Write.contents l.initial.writer l.writer (flat_map (λ (path : ListenerPath). line_of_fields (path_fields l.fares path)) (take l.path-index l.path-items))
