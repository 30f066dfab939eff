use Rattle.clap.specs.Words.{found_of, rows_of}
use Rattle.cqf_program_words.proofs.WordLemmas.{no_port-until}
use Rattle.cqf_program_words.proofs.words.port_job.Goals as goal

pub returns-in_default : goal.returns-in_default
returns-in_default c = no_port-until (rows_of (found_of c.args.values.now)) _ c.text_of.ensures c.in_default.ensures
