use Rattle.std.proofs.Common.{Bool, subst}
use Rattle.cqf_program_words.specs.Words.{IsFlagGiven}
use Rattle.cqf_program_words.proofs.words.format_alone.Goals as goal

pub returns-then-is_software : goal.returns-then-is_software
returns-then-is_software c = λ software given.
    c.software_format.ensures software (subst (λ (flag : Bool). IsFlagGiven flag software) c.if-is_software.true given)

pub returns-else-is_software : goal.returns-else-is_software
returns-else-is_software c = λ software given.
    c.plain_format.ensures software (subst (λ (flag : Bool). IsFlagGiven flag software) c.if-is_software.false given)
