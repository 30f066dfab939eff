use Rattle.std.proofs.Common.{◌∙◌, IfErr, List, ap, subst, sym, ℕ}
use Rattle.std.proofs.lemmas.Result.{IfOk-weaker}
use Rattle.cqf_output.specs.Stops.{IsRefused}
use Rattle.cqf_program_diff.specs.Output.{unless_quiet}
use Rattle.cqf_program_diff.proofs.command.output_of.Goals as goal

pub returns-clause-ok : goal.returns-clause-ok
returns-clause-ok c =
    IfOk-weaker c.unless_quiet.result _ _ (λ bytes is. ap (unless_quiet c.args.quiet) (sym c.in-Ok.ensures) ∙ is) c.unless_quiet.ensures.ok

pub returns-clause-err : goal.returns-clause-err
returns-clause-err c =
    subst (λ (text : List ℕ). IfErr c.unless_quiet.result (IsRefused (unless_quiet c.args.quiet text))) c.in-Ok.ensures c.unless_quiet.ensures.err
