use Rattle.std.proofs.Common.{◌∙◌, ap, get_or, sym}
use Rattle.std.proofs.lemmas.List.Sums.{fold_more}
use Rattle.clap.specs.Words.{App, new_app}
use Rattle.cqf_program_words.specs.declared.options.CommandOption.{CommandOption}
use Rattle.cqf_program_words.specs.declared.options.CommandOption.TheVariants.{Until}
use Rattle.cqf_program_words.specs.Commands.{name_of, with_option}
use Rattle.cqf_program_words.proofs.commands.command_of.Goals as goal

-- the next option is given too
pub loop-option-preserved : goal.loop-option-preserved
loop-option-preserved c =
    let options = c.options-options.result.now in
    let index = c.loop-option.option-index in
    let option : CommandOption = get_or options index Until in (
      c.in_ok-command.ensures.app
          ∙ ap (λ (app : App). with_option c.args.is_large app option) c.loop-option.invariant.0
          ∙ sym (fold_more (with_option c.args.is_large) (new_app (name_of c.args.subcommand)) options index Until c.loop-option-test.true),
      c.in_ok-command.ensures.local,
    )
