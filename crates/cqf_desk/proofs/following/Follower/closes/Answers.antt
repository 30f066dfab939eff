use Rattle.std.proofs.Common.{refl, sym, ◌∙◌}
use Rattle.cqf_desk.specs.Following.{own_seal}
use Rattle.cqf_desk.proofs.Followers.{makes_one}
use Rattle.cqf_desk.proofs.Longer.{adds_table}
use Rattle.cqf_desk.proofs.following.Follower.closes.Goals as goal

pub returns-in-Closed : goal.returns-in-Closed
returns-in-Closed c = (
  adds_table c.closed_tables_stay.ensures c.state_follows_history.ensures.counted c.state_follows_history.ensures.closes c.args.self.now
      (record { first = c.args.self.now.first; admission = c.make.new.admission }) (own_seal c.args.number) c.args.number c.in-Closed.table refl
      c.in-Closed.ensures.0 (sym c.is_seal_of.ensures ∙ c.if-not-is_seal_of.false) c.in-Closed.ensures.2 c.in-Closed.ensures.3,
  makes_one c.args.self.now (record { first = c.args.self.now.first; admission = c.make.new.admission }) (own_seal c.args.number) refl
      c.in-Closed.ensures.0,
)
