use Rattle.clap.specs.Words.{found_of, rows_of}
use Rattle.cqf_program_words.proofs.WordLemmas.{no_cycles}
use Rattle.cqf_program_words.proofs.words.cycles_job.Goals as goal

pub returns-in_default : goal.returns-in_default
returns-in_default c =
    no_cycles c.args.name.now (rows_of (found_of c.args.values.now)) c.requires.not_port c.requires.not_compile c.requires.not_load
    c.requires.not_latency c.requires.not_offers c.requires.not_hops c.requires.not_plan c.requires.not_diff c.in_default.ensures
