use Rattle.std.proofs.Common.{Option, sym, subst}
use Rattle.clap.specs.Words.{Text}
use Rattle.cqf_program_words.specs.Words.{IsNumberIn}
use Rattle.cqf_program_words.proofs.plan_words.tries_of.Goals as goal

-- without a number in the text there is none among the values
pub returns-in-None : goal.returns-in-None
returns-in-None c =
    λ tries is. c.in-None.ensures tries (subst (λ (text : Option Text). IsNumberIn 0 1000 tries text) (sym c.text_of.ensures) is)
