use Rattle.cqf_program_runs.proofs.Counted.{counted_more}
use Rattle.cqf_program_runs.proofs.check.checked.CheckCounts.with.Goals as goal

pub returns-clause-counts : goal.returns-clause-counts
returns-clause-counts c = λ offers done is.
    counted_more c.args.self offers c.count_under_way.result c.count_delivered.result c.count_timed.result done c.args.here.now
    c.count_under_way.ensures.counts c.count_delivered.ensures.counts c.count_timed.ensures.counts is
