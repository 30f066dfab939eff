-- The branches so far aren't stray.
use Rattle.std.proofs.Common.{◌≡◌, ℕ, ◌<◌, false}
use Rattle.cqf_model.specs.History.{is_stray}
use Rattle.cqf_admission.specs.Branches.{branches_of}
use Rattle.cqf_admission.proofs.branches.stray_branch.Given as goal

abbrev pub invariant-loop-number : goal.invariant-loop-number
invariant-loop-number l = (k : ℕ) → k < l.number → is_stray (branches_of l.paths) k ≡ false
