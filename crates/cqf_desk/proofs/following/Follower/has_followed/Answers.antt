use Rattle.std.proofs.Common.{map}
use Rattle.cqf_admission.specs.Admission.{recorded_of}
use Rattle.cqf_desk.proofs.Longer.{has_followed}
use Rattle.cqf_desk.proofs.following.Follower.has_followed.Goals as goal

pub returns-in-Some : goal.returns-in-Some
returns-in-Some c = λ up.
    has_followed c.closed_tables_stay.ensures c.state_follows_history.ensures.counted c.args.self.now c.args.opening.now c.history.result.now
    (map recorded_of c.in-Some.followed.now) (map recorded_of c.args.rest.now) c.args.number c.if-self-history.false c.history.ensures.entries
    c.in-Some.ensures (c.are_up_to_seal.ensures up)
