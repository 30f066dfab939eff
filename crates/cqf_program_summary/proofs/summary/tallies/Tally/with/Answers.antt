use Rattle.cqf_program_summary.proofs.Within.{with_within}
use Rattle.cqf_program_summary.proofs.summary.tallies.Tally.with.Goals as goal

pub returns-clause-more : goal.returns-clause-more
returns-clause-more c = λ many is.
    with_within many c.args.ending c.args.self c.counted-counted.result c.taken_with.result c.counted-counted.ensures is c.taken_with.ensures.more
