use Rattle.cqf_laws_timing.proofs.Alone.{calls_admit_only, seats_admit_only}
use Rattle.cqf_laws_timing.proofs.reported_plans.histories_admit_only.Goals as goal

pub returns-clause-calls : goal.returns-clause-calls
returns-clause-calls c = calls_admit_only

pub returns-clause-seats : goal.returns-clause-seats
returns-clause-seats c = seats_admit_only
