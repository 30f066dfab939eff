use Rattle.std.proofs.Common.{◌∙◌, ◌++◌, ◌∷◌, [], ap, append_assoc, codes, sym}
use Rattle.cqf_program_placing.specs.Faults.{plan_fault_text}
use Rattle.cqf_program_planning.proofs.plan_command.line_of_unsettled.Goals as goal

-- the line feed follows the fault
pub returns : goal.returns
returns c =
    c.in_ok-line.ensures.ok
    ∙ ap (λ rest. codes "cqf: plan: " ++ rest) (sym (append_assoc c.args.name.now (codes ": " ++ plan_fault_text c.args.fault.now) (10 ∷ [])))
