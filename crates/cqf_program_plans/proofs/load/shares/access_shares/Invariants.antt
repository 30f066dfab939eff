-- The shares of the rows so far.
use Rattle.std.proofs.Common.{◌≡◌, take}
use Rattle.cqf_program_plans.specs.Load.Streams.{access_shares}
use Rattle.cqf_program_plans.proofs.load.shares.access_shares.Given as goal

abbrev pub invariant-loop-row : goal.invariant-loop-row
invariant-loop-row l = l.shares.items ≡ access_shares l.domain.overhead l.domain.cycle_time l.handed (take l.row-index l.rows)
