use Rattle.cqf_book.proofs.Adding.{AreCounted}
use Rattle.cqf_book.proofs.totals.LinkTotals.add.Given as goal

-- the starts below the index are counted
abbrev pub invariant-loop-start : goal.invariant-loop-start
invariant-loop-start l = AreCounted l.starts l.initial.self.frames.items l.initial.self.octets.items l.self.frames.items l.self.octets.items l.start-index
