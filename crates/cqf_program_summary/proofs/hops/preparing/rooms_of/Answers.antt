use Rattle.cqf_program_summary.specs.Hops.Rounds.{source_of}
use Rattle.cqf_program_summary.proofs.hops.preparing.rooms_of.Goals as goal

pub returns : goal.returns
returns c = λ starts are. c.in_ok-kept.ensures starts (c.at_first-under_way.ensures.stands starts (source_of c.args.run.now) are)
