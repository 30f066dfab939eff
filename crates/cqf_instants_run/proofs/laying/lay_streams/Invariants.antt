-- The streams so far are laid, and there is room for the groups of the next one.
use Rattle.std.proofs.Common.{◌≡◌, length}
use Rattle.cqf_instants_run.specs.Laid.{AreLaid}
use Rattle.cqf_instants_run.proofs.laying.lay_streams.Given as goal

abbrev pub invariant-loop-row : goal.invariant-loop-row
invariant-loop-row l = AreLaid l.cycles l.rows l.row-index l.branches.items l.groups.items × (length l.following.items ≡ 4096)
