-- Words are read as clap has them: both readings follow from one table, and no name depends on whether plans may be large.
use Rattle.std.proofs.Common.{true, false, refl}
use Rattle.cqf_program_words.specs.Operands.{ReadsCommands, ReadsOptions}

pub reads_commands : ReadsCommands
reads_commands true word = refl
reads_commands false word = refl

pub reads_options : ReadsOptions
reads_options true word = refl
reads_options false word = refl
