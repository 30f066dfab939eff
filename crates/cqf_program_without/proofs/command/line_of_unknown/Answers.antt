use Rattle.std.proofs.Common.{◌∙◌, ◌++◌, ◌∷◌, [], ap, append_assoc, codes, sym}
use Rattle.cqf_program_without.proofs.command.line_of_unknown.Goals as goal

-- the line feed follows the link
pub returns : goal.returns
returns c =
    c.in_ok-line.ensures.ok
    ∙ ap (λ rest. codes "cqf: plan: NoLink " ++ rest) (sym (append_assoc c.args.link.now.from (codes ">" ++ c.args.link.now.to) (10 ∷ [])))
