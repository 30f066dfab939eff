-- The lines of the cycles yielded so far are put, for each run with this basis.
use Rattle.std.proofs.Common.{◌≡◌, ◌-◌, codes}
use Rattle.cqf_model.specs.Book.{starts_of}
use Rattle.cqf_instants.specs.Meaning.{Given}
use Rattle.cqf_instants.specs.Progress.{IsBasisOf}
use Rattle.cqf_output.specs.Writer.{Puts}
use Rattle.cqf_report.specs.Books.{lines_of_starts}
use Rattle.cqf_program_scenario.proofs.exact_books.put_starts_of_pass.Given as goal

abbrev pub invariant-loop-writer : goal.invariant-loop-writer
invariant-loop-writer g l = record {
  basis : l.pass.basis ≡ l.initial.pass.basis;
  puts : (given : Given) → IsBasisOf given l.initial.pass.basis →
      Puts g.W.Write.contents l.initial.writer l.writer (lines_of_starts (codes "start") l.domain (starts_of given.run.domain l.pass.reported given.net.carried));
}

abbrev pub decreases-loop-writer : goal.decreases-loop-writer
decreases-loop-writer g l = l.pass.basis.cycles - l.pass.reported
