use Rattle.std.proofs.Common.{map, subst, sym}
use Rattle.cqf_output.specs.declared.stops.Stop.{Stop}
use Rattle.cqf_program_engine.specs.Run.{WritesPlainly}
use Rattle.cqf_program_words.proofs.WordLemmas.{EndsWords-reported}
use Rattle.cqf_program_engine.proofs.runs.read_line.Goals as goal

pub returns-in-Err-clause-err : goal.returns-in-Err-clause-err
returns-in-Err-clause-err c = EndsWords-reported (map (λ word. word.now) c.args.words.now) c.in-Err.stop c.stop_of_line.result
    c.in-Err.ensures.err c.stop_of_line.ensures.status c.stop_of_line.ensures.memory

pub returns-in-Err-clause-reports : goal.returns-in-Err-clause-reports
returns-in-Err-clause-reports c = λ whole. subst (λ (stop : Stop). WritesPlainly (map (λ word. word.now) c.args.words.now) stop)
    (sym (c.stop_of_line.ensures.whole whole)) c.in-Err.ensures.line
