use Rattle.std.proofs.Common.{◌∙◌, ap}
use Rattle.std.proofs.lemmas.Result.{IfOk-weaker}
use Rattle.clap.specs.Words.{App, app_of, with_subcommand}
use Rattle.cqf_program_words.proofs.commands.with_command.Goals as goal

-- the command is one more
pub returns-clause-app : goal.returns-clause-app
returns-clause-app c = IfOk-weaker c.subcommand.result _ _
    (λ program added. added.shape c.in_ok-command.ensures.local
    ∙ ap (λ (a : App). with_subcommand (app_of c.args.program) a.top) c.in_ok-command.ensures.app)
    c.subcommand.ensures
