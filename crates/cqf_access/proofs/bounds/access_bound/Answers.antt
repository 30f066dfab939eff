use Rattle.cqf_access.specs.Bounding.{link_of}
use Rattle.cqf_access.proofs.Least.{next_below}
use Rattle.cqf_access.proofs.bounds.access_bound.Goals as goal

pub loop-time-preserved : goal.loop-time-preserved
loop-time-preserved c =
    next_below (link_of c.args.rate c.args.other) c.args.promises.now c.args.most.0 c.loop-time.time c.taken_by_all-taken.result.0
    c.taken_by_all-taken.ensures.range c.loop-time.invariant c.taken_by_all-taken.ensures.value c.if-taken-time.false
