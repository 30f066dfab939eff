-- The tightest of the latencies so far.
use Rattle.std.proofs.Common.{◌≡◌, take}
use Rattle.cqf_program_planning.specs.Judging.{slacks_of, tightest_of}
use Rattle.cqf_program_planning.proofs.slacks.tightest_of.Given as goal

abbrev pub invariant-loop-latency : goal.invariant-loop-latency
invariant-loop-latency l = l.tightest ≡ tightest_of (slacks_of (take l.latency-index l.latencies))
