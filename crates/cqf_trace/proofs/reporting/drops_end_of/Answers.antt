use Rattle.std.proofs.Common.{length, refl}
use Rattle.cqf_trace.proofs.Segments.{all_drops_end, drops_end_here, kept_drops, no_drop_later_at_first, no_drop_later_yet}
use Rattle.cqf_trace.proofs.reporting.drops_end_of.Goals as goal

pub loop-index-init : goal.loop-index-init
loop-index-init c = no_drop_later_at_first c.args.cycle.0 c.args.drops.now c.args.from c.requires.before

pub loop-index-preserved : goal.loop-index-preserved
loop-index-preserved c =
    no_drop_later_yet c.args.cycle.0 c.args.drops.now c.loop-index.index _ c.loop-index-test.true c.if-drops-index.false c.loop-index.invariant

-- the cycle's drops end at the first one of a later cycle
pub returns-then-drops-index-clause-following : goal.returns-then-drops-index-clause-following
returns-then-drops-index-clause-following c =
    drops_end_here c.args.cycle.0 c.args.drops.now c.loop-index.index _ c.requires.order c.loop-index-test.true c.if-drops-index.true c.loop-index.invariant

pub returns-then-drops-index-clause-of_cycle : goal.returns-then-drops-index-clause-of_cycle
returns-then-drops-index-clause-of_cycle c =
    kept_drops c.args.cycle.0 c.args.drops.now c.args.from c.loop-index.index c.requires.before (returns-then-drops-index-clause-following c)
    c.loop-index.auto.index

-- if there is none, they end with the list
pub returns-clause-following : goal.returns-clause-following
returns-clause-following c =
    all_drops_end c.args.cycle.0 c.args.drops.now c.loop-index.index (length c.args.drops.now) refl c.loop-index-test.false c.loop-index.invariant

pub returns-clause-of_cycle : goal.returns-clause-of_cycle
returns-clause-of_cycle c =
    kept_drops c.args.cycle.0 c.args.drops.now c.args.from (length c.args.drops.now) c.requires.before (returns-clause-following c) c.requires.before.within
