use Rattle.clap.specs.Words.{found_of, rows_of}
use Rattle.cqf_program_words.proofs.WordLemmas.{no_hops-cycles, no_hops-frame}
use Rattle.cqf_program_words.proofs.words.hops_job.Goals as goal

pub returns-in_default : goal.returns-in_default
returns-in_default c = no_hops-cycles (rows_of (found_of c.args.values.now)) c.in_default.ensures

pub returns-in_default-frame_of : goal.returns-in_default-frame_of
returns-in_default-frame_of c = no_hops-frame (rows_of (found_of c.args.values.now)) c.in_default-frame_of.ensures
