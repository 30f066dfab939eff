use Rattle.std.proofs.Common.{map}
use Rattle.cqf_program_words.proofs.WordLemmas.{EndsWords-reported}
use Rattle.cqf_program_words.proofs.words.read_words.Goals as goal

pub returns-in-Err-clause-err : goal.returns-in-Err-clause-err
returns-in-Err-clause-err c = EndsWords-reported (map (λ word. word.now) c.args.words.now) c.in-Err.stop c.stop_of_words.result
    c.in-Err.ensures.err c.stop_of_words.ensures.status c.stop_of_words.ensures.memory
