use Rattle.std.proofs.Common.{ap}
use Rattle.cqf_program_threads.specs.PagedBooks.{ByTraces, contents_written}
use Rattle.cqf_program_runs.specs.Run.Output.{run_text}
use Rattle.cqf_worker.specs.Account.{entries_of}
use Rattle.cqf_program_threads.proofs.Accounts.{EndsThreads-memory, IsThreadsOutput-written, may_be_written}
use Rattle.cqf_program_threads.proofs.threads_command.threads_output.Goals as goal

-- the traces can be written
pub new-book-requires-clause-traces : goal.new-book-requires-clause-traces
new-book-requires-clause-traces g c =
    may_be_written c.args.limits c.args.cycles c.args.input.now c.in-Ok-conduct_opened.ran.0 c.in-Ok-conduct_opened.ran.1 c.in-Ok-conduct_opened.ensures.ok
    c.traces_give_the_book.ensures c.know.ensures.accepted

-- and yield the output
pub returns-in-Ok-new-clause-ok : goal.returns-in-Ok-new-clause-ok
returns-in-Ok-new-clause-ok g c =
    let account = c.in-Ok-conduct_opened.ran.1 in
    IsThreadsOutput-written c.args.limits c.args.cycles c.args.input.now c.in-Ok-conduct_opened.ran.0 account c.in-Ok-conduct_opened.ensures.ok
    c.traces_give_the_book.ensures c.know.ensures.accepted _
    (ap (λ (book : ByTraces). run_text book.domain (entries_of account.history) (contents_written book)) c.new-book.ensures)

-- without memory for a buffer nothing is written
pub returns-in-Err-new-clause-err : goal.returns-in-Err-new-clause-err
returns-in-Err-new-clause-err g c =
    EndsThreads-memory c.args.limits c.args.cycles c.args.input.now c.memory.result c.memory.ensures.status c.memory.ensures.text
