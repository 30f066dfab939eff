use Rattle.std.proofs.Common.{refl, sym, ◌∙◌}
use Rattle.cqf_admission.specs.Admission.{recorded_of}
use Rattle.cqf_desk.proofs.Followers.{makes_one}
use Rattle.cqf_desk.proofs.Longer.{keeps_all, keeps_tables}
use Rattle.cqf_desk.proofs.following.Follower.passes.Goals as goal

pub returns-in-Answered : goal.returns-in-Answered
returns-in-Answered c = (
  keeps_tables c.closed_tables_stay.ensures c.state_follows_history.ensures.counted c.args.self.now
      (record { first = c.args.self.now.first; admission = c.make.new.admission }) (recorded_of c.args.entry.now) c.args.number refl c.in-Answered.ensures.0
      (sym c.is_seal_of.ensures ∙ c.if-is_seal_of.false),
  makes_one c.args.self.now (record { first = c.args.self.now.first; admission = c.make.new.admission }) (recorded_of c.args.entry.now) refl
      c.in-Answered.ensures.0,
)

pub returns-in-Closed : goal.returns-in-Closed
returns-in-Closed c = (
  keeps_tables c.closed_tables_stay.ensures c.state_follows_history.ensures.counted c.args.self.now
      (record { first = c.args.self.now.first; admission = c.make.new.admission }) (recorded_of c.args.entry.now) c.args.number refl c.in-Closed.ensures.0
      (sym c.is_seal_of.ensures ∙ c.if-is_seal_of.false),
  makes_one c.args.self.now (record { first = c.args.self.now.first; admission = c.make.new.admission }) (recorded_of c.args.entry.now) refl
      c.in-Closed.ensures.0,
)

pub returns-in-Memory : goal.returns-in-Memory
returns-in-Memory c =
    keeps_all c.args.self.now (record { first = c.args.self.now.first; admission = c.make.new.admission }) c.args.number
    (λ i. record { first = c.args.self.now.first; admission = c.in-Memory.ensures i })
