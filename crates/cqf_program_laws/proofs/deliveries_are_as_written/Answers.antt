use Rattle.cqf_program_laws.proofs.Outputs.{deliveries_are_as_written, threads_are_as_written}
use Rattle.cqf_program_laws.proofs.deliveries_are_as_written.Goals as goal

pub returns-clause-deliveries : goal.returns-clause-deliveries
returns-clause-deliveries c =
    let r = c.readers_agree.ensures in
    deliveries_are_as_written c.streams_come_by_links.ensures.come r.edges r.parts r.inputs r.may_run c.written_verdicts_hold.ensures.scripts

pub returns-clause-threads : goal.returns-clause-threads
returns-clause-threads c =
    let r = c.readers_agree.ensures in
    threads_are_as_written c.streams_come_by_links.ensures.come r.edges r.parts r.may_run c.written_verdicts_hold.ensures.accounts
