use Rattle.std.proofs.Common.{◌∙◌, ◌++◌, List, ℕ, ap, codes, map, sym}
use Rattle.std.specs.Fmt.{decimal}
use Rattle.cqf_model.specs.declared.history.Reply.{Reply}
use Rattle.cqf_model.specs.Refusals.{text_of_refusal}
use Rattle.cqf_report.specs.HistoryText.{reply_text}
use Rattle.cqf_output.specs.Stops.{fault_line}
use Rattle.cqf_admission.specs.Asking.{asked_paced}
use Rattle.cqf_admission.specs.Orders.{act_in}
use Rattle.cqf_program_runs.specs.Check.RefusedCalls.{act_text}
use Rattle.cqf_program_runs.proofs.Lines.{refused_written}
use Rattle.cqf_program_runs.proofs.check.refused_calls.refused_line.Goals as goal

pub returns : goal.returns
returns c =
    let number = decimal c.args.number in
    let seat = decimal c.args.logged.now.seat in
    let line : List ℕ → List ℕ → List ℕ =
    λ call reply. fault_line (codes "check") (codes "call " ++ (number ++ (codes ", " ++ (call ++ (codes " by " ++ (seat ++ (codes ": " ++ reply)))))))
    in
    let refused = text_of_refusal c.in-Refused.refused in
    c.in_ok-line.ensures.ok
    ∙ refused_written number c.as_str-call.result.now seat refused
    ∙ ap (λ (call : List ℕ). line call (codes "refused " ++ refused)) (c.as_str-call.ensures.value ∙ c.in_ok-text.ensures)
    ∙ ap (λ (reply : Reply). line (act_text (act_in (map asked_paced c.args.requests.now) c.args.script.now c.args.logged.now.what)) (reply_text reply))
    (sym c.in-Refused.is)
