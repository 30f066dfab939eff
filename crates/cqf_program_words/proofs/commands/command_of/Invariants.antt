-- The options so far are given.
use Rattle.std.proofs.Common.{◌≡◌, false, fold, take}
use Rattle.clap.specs.Words.{app_of, new_app}
use Rattle.clap.specs.declared.builder.command.Command.TheViews.{out-Command}
use Rattle.cqf_program_words.specs.Commands.{name_of, with_option}
use Rattle.cqf_program_words.proofs.commands.command_of.Given as goal

abbrev pub invariant-loop-option : goal.invariant-loop-option
invariant-loop-option l =
    (app_of l.command ≡ fold (with_option l.is_large) (new_app (name_of l.fn.subcommand)) (take l.option-index l.options))
    × ((out-Command l.command).has_globals ≡ false)
