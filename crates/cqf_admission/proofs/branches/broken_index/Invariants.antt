-- The branch isn't broken at the indexes so far.
use Rattle.std.proofs.Common.{◌≡◌, ℕ, ◌<◌, false}
use Rattle.std.specs.Prelude.{map, string_bytes}
use Rattle.cqf_model.specs.History.{is_broken_at}
use Rattle.cqf_admission.proofs.branches.broken_index.Given as goal

abbrev pub invariant-loop-index : goal.invariant-loop-index
invariant-loop-index l = (k : ℕ) → k < l.index → is_broken_at l.domain (map string_bytes l.branch) k ≡ false
