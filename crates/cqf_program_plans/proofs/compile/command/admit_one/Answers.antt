use Rattle.std.proofs.Common.{◌+◌}
use Rattle.cqf_admission.specs.Orders.{request_at}
use Rattle.cqf_program_plans.proofs.CompileLemmas.{granted-goes_on, granted-held, refused-ends}
use Rattle.cqf_program_plans.proofs.compile.command.admit_one.Goals as goal

pub returns-in-Ok-clause-held : goal.returns-in-Ok-clause-held
returns-in-Ok-clause-held c =
    let laws = c.state_follows_history.ensures in
    granted-held c.args.ledger.now.administration c.admit.new.self.administration
    (request_at c.args.ledger.now.requests c.args.index) c.in-Ok.receipt c.in-Ok.ensures.answers laws.goes_on laws.counted laws.granted laws.room
    c.requires.held

pub returns-in-Ok-clause-ok : goal.returns-in-Ok-clause-ok
returns-in-Ok-clause-ok c =
    granted-goes_on c.args.ledger.now.administration c.admit.new.self.administration (request_at c.args.ledger.now.requests c.args.index)
    c.in-Ok.receipt c.in-Ok.ensures.answers (c.args.index + 1)

pub returns-in-Err : goal.returns-in-Err
returns-in-Err c = record {
  domain = c.admit.ensures.answers.domain;
  requests = c.admit.ensures.requests;
  held = tt;
  one_more = tt;
  ok = tt;
  err = λ more. refused-ends c.args.ledger.now.administration c.admit.new.self.administration
      (request_at c.args.ledger.now.requests c.args.index) c.in-Err.refused (c.args.index + 1) c.stream_stop.result more c.requires.held
      c.in-Err.ensures.answers c.stream_stop.ensures.refused c.stream_stop.ensures.memory;
}
