use Rattle.std.proofs.Common.{Option, sym, subst}
use Rattle.clap.specs.Words.{Text}
use Rattle.cqf_program_words.specs.Words.{IsNumberIn}
use Rattle.cqf_program_words.proofs.words.cycles_of.Goals as goal

-- without a number in the text there is none among the values
pub returns-in-None : goal.returns-in-None
returns-in-None c =
    λ cycles is. c.in-None.ensures cycles (subst (λ (text : Option Text). IsNumberIn 1 100000 cycles text) (sym c.text_of.ensures) is)
