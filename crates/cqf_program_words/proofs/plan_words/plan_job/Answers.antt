use Rattle.clap.specs.Words.{found_of, rows_of}
use Rattle.cqf_program_words.proofs.Ranges.{at_none}
use Rattle.cqf_program_words.proofs.WordLemmas.{no_plan}
use Rattle.cqf_program_words.proofs.plan_words.plan_job.Goals as goal

pub returns-in-None : goal.returns-in-None
returns-in-None c = no_plan (rows_of (found_of c.args.values.now)) (at_none c.in_ok-found.found _ _ c.in-None.is c.in_ok-found.ensures)
