-- The starts of the computed cycles are gathered, in each run with this basis.
use Rattle.std.proofs.Common.{◌≡◌, ◌-◌}
use Rattle.cqf_model.specs.Book.{starts_of}
use Rattle.cqf_instants.specs.Meaning.{Given}
use Rattle.cqf_instants.specs.Progress.{IsBasisOf}
use Rattle.cqf_instants.proofs.pass.gather_starts.Given as goal

abbrev pub invariant-loop-starts : goal.invariant-loop-starts
invariant-loop-starts l = record {
  basis : l.pass.basis ≡ l.initial.pass.basis;
  gathered : (given : Given) → IsBasisOf given l.initial.pass.basis →
      l.starts.items ≡ starts_of given.run.domain l.pass.reported given.net.carried;
}

abbrev pub decreases-loop-starts : goal.decreases-loop-starts
decreases-loop-starts l = l.pass.basis.cycles - l.pass.reported
