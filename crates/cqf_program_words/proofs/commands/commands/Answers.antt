use Rattle.std.proofs.Common.{◌∙◌, ap, get_or, sym}
use Rattle.std.proofs.lemmas.List.Sums.{fold_more}
use Rattle.clap.specs.Words.{App}
use Rattle.cqf_program_words.specs.declared.commands.Subcommand.{Subcommand}
use Rattle.cqf_program_words.specs.declared.commands.Subcommand.TheVariants.{Port}
use Rattle.cqf_program_words.specs.Commands.{all_commands, named_app, with_command}
use Rattle.cqf_program_words.proofs.commands.commands.Goals as goal

-- the next command is one more
pub loop-subcommand-preserved : goal.loop-subcommand-preserved
loop-subcommand-preserved c =
    let index = c.loop-subcommand.subcommand-index in
    let subcommand : Subcommand = get_or all_commands index Port in (
      c.in_ok-program-2.ensures.app
          ∙ ap (λ (app : App). with_command c.args.is_large app subcommand) c.loop-subcommand.invariant.0
          ∙ sym (fold_more (with_command c.args.is_large) named_app all_commands index Port c.loop-subcommand-test.true),
      c.in_ok-program-2.ensures.local,
    )
