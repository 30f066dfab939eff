use Rattle.cqf_desk.proofs.Followers.{passes_one}
use Rattle.cqf_desk.proofs.Longer.{keeps_on}
use Rattle.cqf_desk.proofs.following.Follower.passes_all.Goals as goal

pub loop-entry-preserved : goal.loop-entry-preserved
loop-entry-preserved c =
    passes_one c.args.self.now c.loop-entry.self c.passes.new.self c.args.others.now c.args.number c.loop-entry.entry-index c.entry-item.result
    c.loop-entry.invariant c.loop-entry-test.true c.entry-item.is c.in-All.ensures.0 c.in-All.ensures.1

pub returns-in-Memory : goal.returns-in-Memory
returns-in-Memory c = keeps_on c.args.self.now c.loop-entry.self c.passes.new.self c.args.number c.loop-entry.invariant.keeps c.in-Memory.ensures
