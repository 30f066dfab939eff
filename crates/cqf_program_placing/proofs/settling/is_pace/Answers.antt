use Rattle.std.proofs.Common.{arith, sym}
use Rattle.std.proofs.lemmas.Bool.{false_from_ne_true}
use Rattle.cqf_model.specs.History.{is_pace}
use Rattle.cqf_program_placing.proofs.Stepping.{pace_is_good}
use Rattle.cqf_program_placing.proofs.settling.is_pace.Goals as goal
use Rattle.cqf_program_placing.proofs.settling.is_pace.Goals.{then-every-eq0-via-then-every-eq0, then-every-eq0-via-else-every-eq0+then-every-gt-MOST_EVERY}

pub returns-then-every-eq0 : goal.returns-then-every-eq0
returns-then-every-eq0 c =
    sym (false_from_ne_true (is_pace c.args.every c.args.phase) (λ t.
    let good = pace_is_good c.args.every c.args.phase t in
    elim c.then-every-eq0.branch [
      | then-every-eq0-via-then-every-eq0 w ↦ omega (arith, good.0.some, w.if-every-eq0.true)
      | then-every-eq0-via-else-every-eq0+then-every-gt-MOST_EVERY w ↦ omega (arith, good.0.few, w.if-every-gt-MOST_EVERY.true)
    ]))
