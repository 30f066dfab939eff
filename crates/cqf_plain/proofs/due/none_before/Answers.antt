use Rattle.std.proofs.Common.{leb-true}
use Rattle.cqf_plain.proofs.Noted.{first_is_least}
use Rattle.cqf_plain.proofs.due.none_before.Goals as goal

-- if the first isn't before the instant, none is
pub returns-in-Some : goal.returns-in-Some
returns-in-Some c = λ e.
    first_is_least c.args.due.now c.in-Some.first.now c.args.end.0 c.in-Some.ensures.least (leb-true c.args.end.0 c.in-Some.first.now.0.0 e)
