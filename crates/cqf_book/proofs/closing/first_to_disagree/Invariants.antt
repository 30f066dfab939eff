use Rattle.cqf_book.specs.Shares.{Agree}
use Rattle.cqf_book.proofs.closing.first_to_disagree.Given as goal

-- the pages of the bridges below agree
abbrev pub invariant-loop-bridge : goal.invariant-loop-bridge
invariant-loop-bridge l = Agree l.opening l.shares l.posted l.bridge
