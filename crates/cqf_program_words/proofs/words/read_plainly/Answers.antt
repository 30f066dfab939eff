use Rattle.std.proofs.Common.{◌∙◌, ap, map}
use Rattle.clap.specs.Words.{app_of}
use Rattle.cqf_program_words.proofs.Ranges.{at_none, at_some}
use Rattle.cqf_program_words.proofs.WordLemmas.{EndsWords-by_error, EndsWords-by_matches, Mean-by_matches}
use Rattle.cqf_program_words.proofs.WordLemmas.{WritesMistake-by_error, WritesMistake-by_matches}
use Rattle.cqf_program_words.specs.Commands.{cqf_app}
use Rattle.cqf_program_words.proofs.words.read_plainly.Goals as goal

pub returns-in-Ok-Some-clause-ok : goal.returns-in-Ok-Some-clause-ok
returns-in-Ok-Some-clause-ok c =
    Mean-by_matches (app_of c.in-Ok.command) (map (λ word. word.now) c.args.words.now) c.in-Ok-try_get_matches_from_mut.matches c.in-Ok-Some.job
    (c.in-Ok.ensures.app ∙ ap cqf_app c.ask_for_large.ensures) c.in-Ok-try_get_matches_from_mut.ensures.kinds c.in-Ok-try_get_matches_from_mut.ensures.ok.2
    (at_some c.in-Ok-Some.field-0 c.in-Ok-Some.job _ _ c.in-Ok-Some.field-0-is c.in-Ok-Some.ensures)

pub returns-in-Ok-None-clause-err : goal.returns-in-Ok-None-clause-err
returns-in-Ok-None-clause-err c =
    EndsWords-by_matches (app_of c.in-Ok.command) (map (λ word. word.now) c.args.words.now) c.in-Ok-try_get_matches_from_mut.matches
    c.no_job.result (c.in-Ok.ensures.app ∙ ap cqf_app c.ask_for_large.ensures) c.in-Ok-try_get_matches_from_mut.ensures.kinds c.in-Ok-try_get_matches_from_mut.ensures.ok.2
    c.no_job.ensures.ends (at_none c.in-Ok-None.field-0 _ _ c.in-Ok-None.field-0-is c.in-Ok-None.ensures)

pub returns-in-Ok-None-clause-line : goal.returns-in-Ok-None-clause-line
returns-in-Ok-None-clause-line c =
    WritesMistake-by_matches (app_of c.in-Ok.command) (map (λ word. word.now) c.args.words.now) c.in-Ok-try_get_matches_from_mut.matches
    c.no_job.result (c.in-Ok.ensures.app ∙ ap cqf_app c.ask_for_large.ensures) c.in-Ok-try_get_matches_from_mut.ensures.ok.2 c.no_job.ensures.line

pub returns-clause-err : goal.returns-clause-err
returns-clause-err c =
    EndsWords-by_error (app_of c.in-Ok.command) (map (λ word. word.now) c.args.words.now) c.in-Err.error
    c.refused_by_clap.result (c.in-Ok.ensures.app ∙ ap cqf_app c.ask_for_large.ensures) c.in-Err.ensures.kinds c.refused_by_clap.ensures

pub returns-clause-line : goal.returns-clause-line
returns-clause-line c =
    WritesMistake-by_error (app_of c.in-Ok.command) (map (λ word. word.now) c.args.words.now) c.in-Err.error
    c.refused_by_clap.result (c.in-Ok.ensures.app ∙ ap cqf_app c.ask_for_large.ensures) c.in-Err.ensures.kinds c.refused_by_clap.ensures
