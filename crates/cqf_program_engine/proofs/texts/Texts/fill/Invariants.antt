use Rattle.std.proofs.Common.{◌≡◌, ◌+◌, ◌-◌, length}
use Rattle.cqf_program_engine.specs.Edge.{HasRead}
use Rattle.cqf_program_engine.proofs.texts.Texts.fill.Given as goal

abbrev pub invariant-loop-self : goal.invariant-loop-self
invariant-loop-self g l =
    HasRead (g.R.Read.remaining l.fn.reader) (g.R.Read.remaining l.reader) l.fn.self.bytes l.self.bytes (l.most + 1)
    × (l.self.ends.items ≡ l.fn.self.ends.items)

abbrev pub decreases-loop-self : goal.decreases-loop-self
decreases-loop-self g l = l.most + 1 - length l.self.bytes
