use Rattle.std.proofs.Common.{◌+◌, arith, take}
use Rattle.std.specs.List.{flat_map}
use Rattle.std.proofs.lemmas.Grind.{common_steps}
use Rattle.cqf_output.proofs.WriterLemmas.{Puts-as, Puts-then}
use Rattle.cqf_report.specs.Written.{line_of_fields}
use Rattle.cqf_program_summary.specs.declared.summary.fares.ListenerPath.{ListenerPath}
use Rattle.cqf_program_summary.specs.Summary.Text.{path_fields}
use Rattle.cqf_program_summary.proofs.summary.lines.put_fare.Goals as goal

pub loop-path-preserved : goal.loop-path-preserved
loop-path-preserved g c =
    let puts = Puts-then _ _ c.loop-path.invariant c.put_path.ensures in
    Puts-as _ (flat_map (λ (path : ListenerPath). line_of_fields (path_fields c.args.fares.now path)) (take (c.loop-path.path-index + 1) c.as_slice-path-items.result.now))
    (grind (arith, common_steps)) puts
