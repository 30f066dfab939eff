-- Nothing is kept in the columns so far.
use Rattle.std.proofs.Common.{◌≡◌, ◌<◌, ℕ, None, get_or, length}
use Rattle.cqf_program_runs.proofs.deliveries.under_way.empty.Given as goal

abbrev pub invariant-loop-column : goal.invariant-loop-column
invariant-loop-column l = record {
  as_many : length l.slot.items ≡ length l.initial.slot.items;
  none : (column : ℕ) → column < l.column → get_or l.slot.items column None ≡ None;
}
