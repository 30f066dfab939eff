use Rattle.std.proofs.Common.{ℕ, ◌+◌, ◌*◌, ap, length, refl}
use Rattle.cqf_trace.proofs.Segments.{all_end, ends_here, kept_in_cycle, none_later_at_first, none_later_yet}
use Rattle.cqf_trace.proofs.reporting.end_of.Goals as goal

pub loop-index-init : goal.loop-index-init
loop-index-init c = none_later_at_first c.args.domain.now c.args.cycle.0 c.args.marks.now c.args.from c.requires.before

-- a mark before the cycle's end is of no later cycle
pub loop-index-preserved : goal.loop-index-preserved
loop-index-preserved c =
    none_later_yet c.args.domain.now c.args.cycle.0 c.args.marks.now c.loop-index.index c.cycle_time.result.0 ((c.from.result + 1) * c.cycle_time.result.0) _
    c.cycle_time.ensures.accepted c.cycle_time.ensures.value (ap (λ (n : ℕ). (n + 1) * c.cycle_time.result.0) c.from.ensures) c.loop-index-test.true
    c.if-marks-index.false c.loop-index.invariant

-- the cycle's marks end at the first one at or after the cycle's end
pub returns-then-marks-index-clause-following : goal.returns-then-marks-index-clause-following
returns-then-marks-index-clause-following c =
    ends_here c.args.domain.now c.args.cycle.0 c.args.marks.now c.loop-index.index c.cycle_time.result.0 ((c.from.result + 1) * c.cycle_time.result.0) _
    c.requires.order c.cycle_time.ensures.accepted c.cycle_time.ensures.value (ap (λ (n : ℕ). (n + 1) * c.cycle_time.result.0) c.from.ensures)
    c.loop-index-test.true c.if-marks-index.true c.loop-index.invariant

pub returns-then-marks-index-clause-of_cycle : goal.returns-then-marks-index-clause-of_cycle
returns-then-marks-index-clause-of_cycle c =
    kept_in_cycle c.args.domain.now c.args.cycle.0 c.args.marks.now c.args.from c.loop-index.index c.requires.before
    (returns-then-marks-index-clause-following c) c.loop-index.auto.index

-- if there is none, they end with the trace
pub returns-clause-following : goal.returns-clause-following
returns-clause-following c =
    all_end c.args.domain.now c.args.cycle.0 c.args.marks.now c.loop-index.index (length c.args.marks.now) refl c.loop-index-test.false c.loop-index.invariant

pub returns-clause-of_cycle : goal.returns-clause-of_cycle
returns-clause-of_cycle c =
    kept_in_cycle c.args.domain.now c.args.cycle.0 c.args.marks.now c.args.from (length c.args.marks.now) c.requires.before (returns-clause-following c)
    c.requires.before.within
