use Rattle.std.proofs.Common.{◌∙◌}
use Rattle.cqf_program_scenario.proofs.Closed.{seals_counted, seals_next}
use Rattle.cqf_program_scenario.proofs.administering.close_all.Goals as goal

pub loop-cycle-preserved : goal.loop-cycle-preserved
loop-cycle-preserved c = (
  c.in_ok-close.ensures.domain ∙ c.loop-cycle.invariant.0,
  c.in_ok-close.ensures.requests ∙ c.loop-cycle.invariant.1,
  c.in_ok-close.ensures.script ∙ c.loop-cycle.invariant.2,
  seals_counted c.state_follows_history.ensures.counted c.loop-cycle.ledger.administration.domain c.loop-cycle.ledger.administration.entries
      c.close.new.ledger.administration.entries c.args.seat c.loop-cycle._cycle c.loop-cycle.invariant.3 c.in_ok-close.ensures.entries,
  seals_next c.args.ledger.now.administration.domain c.loop-cycle.ledger.administration.domain c.loop-cycle.ledger.administration.entries
      c.close.new.ledger.administration.entries c.args.seat c.args.cycles
      c.loop-cycle._cycle c.loop-cycle-test.true c.loop-cycle.invariant.0 c.in_ok-close.ensures.entries
      ∙ c.loop-cycle.invariant.4,
)
