use Rattle.std.proofs.Common.{◌∙◌, ◌++◌, ◌∷◌, [], ap, append_assoc, codes, sym}
use Rattle.cqf_edge.specs.Faults.{talker_fault_text}
use Rattle.cqf_program_planning.proofs.plan_command.line_of_unentered.Goals as goal

-- the line feed follows the fault
pub returns : goal.returns
returns c =
    c.in_ok-line.ensures.ok
    ∙ ap (λ rest. codes "cqf: plan: " ++ rest) (sym (append_assoc c.args.name.now (codes ": " ++ talker_fault_text c.args.fault) (10 ∷ [])))
