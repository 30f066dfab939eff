use Rattle.cqf_program_words.proofs.Ranges.{named_by_range}
use Rattle.cqf_program_words.proofs.naming.candidates_named.Goals as goal

pub returns-in-Some : goal.returns-in-Some
returns-in-Some c = named_by_range c.args.word.now c.in-Some.from.now c.in-Some.to.now c.in-Some.step.now c.candidates_between.result
    c.in-Some.ensures.cut c.in-Some.ensures.whole c.candidates_between.ensures
