use Rattle.clap.specs.Words.{found_of, rows_of}
use Rattle.cqf_program_words.proofs.WordLemmas.{no_offers-cycles, no_offers-seed}
use Rattle.cqf_program_words.proofs.words.offers_job.Goals as goal

pub returns-in_default : goal.returns-in_default
returns-in_default c = no_offers-cycles (rows_of (found_of c.args.values.now)) c.in_default.ensures

pub returns-in_default-seed_of : goal.returns-in_default-seed_of
returns-in_default-seed_of c = no_offers-seed (rows_of (found_of c.args.values.now)) c.in_default-seed_of.ensures
