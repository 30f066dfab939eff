-- The lines of the links so far are written.
use Rattle.std.proofs.Common.{Global, Some, Vec, ℕ}
use Rattle.cqf_lists.specs.Lists.{each_below}
use Rattle.cqf_output.specs.Writer.{Puts}
use Rattle.cqf_laws_coverage.specs.Columns.{frames_by, octets_by}
use Rattle.cqf_report.specs.Columns.{column_fields}
use Rattle.cqf_report.specs.Written.{line_of_fields}
use Rattle.cqf_report.proofs.columns.write_columns.Given as goal

abbrev pub invariant-loop-link : goal.invariant-loop-link
invariant-loop-link g l =
    Puts (λ (list : Vec ℕ Global). Some list.items) l.initial.writer l.writer
    (each_below (λ link. line_of_fields (column_fields l.domain (frames_by l.columns) (octets_by l.columns) link)) l.link)
