use Rattle.std.proofs.Common.{subst}
use Rattle.cqf_desk.specs.Following.{FollowsSeat}
use Rattle.cqf_desk.proofs.Followers.{rest_of}
use Rattle.cqf_desk.proofs.following.Follower.follow.Goals as goal

pub returns : goal.returns
returns c =
    subst (λ calls. FollowsSeat c.args.self.now c.passes_all.new.self c.args.number calls c.passes_all.result)
    (rest_of c.args.self.now c.args.history.now c.history-done.result.now c.split_at.result.1.now c.history-done.ensures.entries c.split_at.ensures.back)
    c.passes_all.ensures
