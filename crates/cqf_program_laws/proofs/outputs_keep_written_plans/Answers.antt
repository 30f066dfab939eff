use Rattle.cqf_program_laws.proofs.Outputs.{runs_keep_written_plans, threads_keep_written_plans}
use Rattle.cqf_program_laws.proofs.outputs_keep_written_plans.Goals as goal

pub returns-clause-runs : goal.returns-clause-runs
returns-clause-runs c =
    let r = c.readers_agree.ensures in
    let k = c.written_plans_keep_their_word.ensures in
    runs_keep_written_plans r.edges r.parts r.may_run c.written_plans_run.ensures k.talkers k.scripts

pub returns-clause-threads : goal.returns-clause-threads
returns-clause-threads c =
    let r = c.readers_agree.ensures in
    let k = c.written_plans_keep_their_word.ensures in
    threads_keep_written_plans r.edges r.parts r.may_run c.written_plans_run.ensures k.talkers k.accounts
