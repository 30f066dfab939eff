use Rattle.std.specs.Prelude.{ℕ, ◌≡◌, ◌<◌, Some, slice_get}
use Rattle.cqf_admission.specs.Tables.{CycleTable}
use Rattle.cqf_plain.proofs.tables.are_numbered.Given as goal

-- the first are numbered
abbrev pub invariant-loop-index : goal.invariant-loop-index
invariant-loop-index l = (cycle : ℕ) (table : CycleTable) → cycle < l.index → slice_get l.tables cycle ≡ Some table → table.cycle ≡ cycle
