use Rattle.std.proofs.Common.{string_bytes}
use Rattle.clap.specs.Words.{subcommand_rows_of}
use Rattle.cqf_program_words.specs.Mistakes.{mistake_of}
use Rattle.cqf_program_words.proofs.Growing.{line_of_three}
use Rattle.cqf_program_words.proofs.endings.line_of_mistake.Goals as goal

pub returns : goal.returns
returns c =
    let said = c.mistake_of.result in
    line_of_three (string_bytes c.in_ok-line.line) said.0.now said.1.now said.2.now (mistake_of (subcommand_rows_of c.args.matches.now))
    c.in_ok-line.ensures.ok c.mistake_of.ensures
