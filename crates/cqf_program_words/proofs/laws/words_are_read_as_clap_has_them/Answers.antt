use Rattle.cqf_program_words.proofs.Reading.{reads_commands, reads_options}
use Rattle.cqf_program_words.proofs.laws.words_are_read_as_clap_has_them.Goals as goal

pub returns-clause-commands : goal.returns-clause-commands
returns-clause-commands c = reads_commands

pub returns-clause-options : goal.returns-clause-options
returns-clause-options c = reads_options
