-- The commands so far are there.
use Rattle.std.proofs.Common.{◌≡◌, false, fold, take}
use Rattle.clap.specs.Words.{app_of}
use Rattle.clap.specs.declared.builder.command.Command.TheViews.{out-Command}
use Rattle.cqf_program_words.specs.Commands.{named_app, with_command}
use Rattle.cqf_program_words.proofs.commands.commands.Given as goal

abbrev pub invariant-loop-subcommand : goal.invariant-loop-subcommand
invariant-loop-subcommand l =
    (app_of l.program ≡ fold (with_command l.is_large) named_app (take l.subcommand-index l.subcommands))
    × ((out-Command l.program).has_globals ≡ false)
