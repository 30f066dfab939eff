use Rattle.std.proofs.Common.{◌∙◌, ◌++◌, List, ℕ, ap, codes}
use Rattle.std.specs.Fmt.{decimal}
use Rattle.cqf_output.specs.Stops.{fault_line}
use Rattle.cqf_program_runs.proofs.Lines.{complaint_written}
use Rattle.cqf_program_runs.proofs.check.checked.complaint_about.Goals as goal

pub returns : goal.returns
returns c =
    let x = c.args.delivery.now in
    let said = c.as_str-complaint.ensures.value ∙ c.in_ok-text.ensures in
    c.in_ok-line.ensures.ok
    ∙ complaint_written (decimal x.frame) x.stream x.bridge (decimal x.at.0) c.as_str-complaint.result.now
    ∙ ap (λ (t : List ℕ). fault_line (codes "check")
    (codes "frame "
    ++ (decimal x.frame ++ (codes " of " ++ (x.stream ++ (codes ", offered to " ++ (x.bridge ++ (codes " at " ++ (decimal x.at.0 ++ (codes ": " ++ t))))))))))
    said
