use Rattle.std.proofs.Common.{◌∙◌, ◌++◌, ◌∷◌, [], ap, sym, append_assoc, codes}
use Rattle.std.specs.Fmt.{decimal}
use Rattle.cqf_model.specs.Refusals.{text_of_refusal}
use Rattle.cqf_program_plans.proofs.compile.command.line_of_stream.Goals as goal

-- the line feed follows the refusal
pub returns : goal.returns
returns c =
    c.in_ok-line.ensures.ok
    ∙ ap (λ rest. codes "cqf: stream " ++ rest) (sym (append_assoc (decimal c.args.index) (codes ": " ++ text_of_refusal c.args.refused) (10 ∷ [])))
