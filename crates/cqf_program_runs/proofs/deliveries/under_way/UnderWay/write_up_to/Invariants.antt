-- The starts of the cycles so far are noted.
use Rattle.std.proofs.Common.{◌≡◌, ◌+◌, ◌-◌, ◌<◌, ◌≤◌, ℕ, length}
use Rattle.cqf_program_runs.specs.Deliveries.UnderWay.{NotesWritten}
use Rattle.cqf_program_runs.proofs.deliveries.under_way.UnderWay.write_up_to.Given as goal

abbrev pub invariant-loop-self : goal.invariant-loop-self
invariant-loop-self l = record {
  basis : l.self.pass.basis ≡ l.initial.self.pass.basis;
  hop_number : l.self.hop_number ≡ l.initial.self.hop_number;
  as_many : length l.self.slots.items ≡ length l.initial.self.slots.items;
  counted : l.self.reported ≡ l.self.pass.reported;
  within : l.initial.self.reported ≤ l.initial.self.pass.basis.cycles → l.self.reported ≤ l.initial.self.pass.basis.cycles;
  no_more : (most : ℕ) → l.initial.self.reported ≤ most → l.last < most → l.self.reported ≤ most;
  noted : NotesWritten l.ended.domain.now l.ended.rows.now l.ended.edge_verdicts.now l.index l.initial.self l.self;
}

abbrev pub decreases-loop-self : goal.decreases-loop-self
decreases-loop-self l = l.last + 1 - l.self.reported
