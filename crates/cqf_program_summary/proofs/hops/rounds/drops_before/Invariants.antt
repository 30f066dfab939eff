-- The drops so far are of the first frames.
use Rattle.std.proofs.Common.{◌≤◌, Contains, take}
use Rattle.cqf_model.specs.declared.frames.Dropped.{Dropped}
use Rattle.cqf_program_summary.proofs.hops.rounds.drops_before.Given as goal

abbrev pub invariant-loop-at : goal.invariant-loop-at
invariant-loop-at l = (x : Dropped) → Contains (take l.at l.drops) x → x.frame ≤ l.frames
