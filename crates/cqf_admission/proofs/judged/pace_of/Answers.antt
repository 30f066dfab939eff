use Rattle.cqf_admission.proofs.Paced.{never_a_pace, too_long_a_pace}
use Rattle.cqf_admission.proofs.judged.pace_of.Goals as goal
use Rattle.cqf_admission.proofs.judged.pace_of.Goals.{then-every-eq0-via-then-every-eq0, then-every-eq0-via-else-every-eq0+then-every-gt-MOST_EVERY}

pub returns-then-every-eq0 : goal.returns-then-every-eq0
returns-then-every-eq0 c = elim c.then-every-eq0.branch [
  | then-every-eq0-via-then-every-eq0 w ↦ never_a_pace c.args.every c.args.phase w.if-every-eq0.true
  | then-every-eq0-via-else-every-eq0+then-every-gt-MOST_EVERY w ↦ too_long_a_pace c.args.every c.args.phase w.if-every-gt-MOST_EVERY.true
]
