use Rattle.clap.specs.Words.{first_of, found_of, rows_of}
use Rattle.std.proofs.Common.{codes}
use Rattle.cqf_program_words.proofs.WordLemmas.{none_given}
use Rattle.cqf_program_words.proofs.plan_words.given_of.Goals as goal

pub returns-in-None-candidates_named : goal.returns-in-None-candidates_named
returns-in-None-candidates_named c =
    none_given c.in-Some.word.now (first_of (codes "cycle") (rows_of (found_of c.args.values.now))) c.in-Some.ensures c.in-None-candidates_named.ensures
