-- What the output of the command `run` with `--threads` writes.
use Rattle.std.specs.Prelude.{ℕ, List}
use Rattle.cqf_program_runs.specs.Run.Output.{run_text}
use Rattle.cqf_program_threads.specs.declared.threads_outputs.ThreadsOutput.{ThreadsOutput}
use Rattle.cqf_program_threads.specs.PagedBooks.{contents_written}
use Rattle.cqf_worker.specs.Account.{entries_of}

-- the text of an output: that of its account's history and of the book of the traces
abbrev pub text_of_account : ThreadsOutput → List ℕ
text_of_account output = run_text output.book.domain (entries_of output.history) (contents_written output.book)
