use Rattle.std.proofs.Common.{◌*◌, ◌^◌, ◌%◌, arith}
use Rattle.std.proofs.lemmas.Nat.{one_shl}
use Rattle.cqf_lanes.proofs.OpenRuns.{run_ends, run_goes_on_by_one}
use Rattle.cqf_lanes.proofs.Bits.{has_from_nonzero, lacks_from_zero}
use Rattle.cqf_lanes.proofs.runs.open_run_plain.Goals as goal

-- the first entry that closes the class
pub returns-then-gates-class-eq0 : goal.returns-then-gates-class-eq0
returns-then-gates-class-eq0 c = run_ends c.args.class c.loop-index.index c.args.states.now (omega arith) c.loop-index.invariant
    (λ more. lacks_from_zero _ c.args.class (1 * 2 ^ c.args.class % 256) (one_shl c.args.class 8 (omega arith)) c.if-gates-class-eq0.true)

-- one more entry opens the class
pub loop-index-preserved : goal.loop-index-preserved
loop-index-preserved c = run_goes_on_by_one c.args.class c.loop-index.index c.args.states.now c.loop-index.invariant
    (has_from_nonzero _ c.args.class (1 * 2 ^ c.args.class % 256) (one_shl c.args.class 8 (omega arith)) c.if-gates-class-eq0.false)

-- all entries open the class
pub returns : goal.returns
returns c = run_ends c.args.class _ c.args.states.now (omega arith) (λ k below. c.loop-index.invariant k (omega arith)) (λ more. absurd (omega arith))
