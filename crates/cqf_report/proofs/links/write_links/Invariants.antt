-- The lines of the links so far are written.
use Rattle.std.proofs.Common.{Global, Some, Vec, ℕ}
use Rattle.cqf_lists.specs.Lists.{each_below}
use Rattle.cqf_output.specs.Writer.{Puts}
use Rattle.cqf_report.specs.LinkSums.{link_fields}
use Rattle.cqf_report.specs.Written.{line_of_fields}
use Rattle.cqf_report.proofs.links.write_links.Given as goal

abbrev pub invariant-loop-link : goal.invariant-loop-link
invariant-loop-link g l =
    Puts (λ (list : Vec ℕ Global). Some list.items) l.initial.writer l.writer
    (each_below (λ link. line_of_fields (link_fields l.domain l.book.starts.items link)) l.link)
