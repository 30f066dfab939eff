use Rattle.std.proofs.Common.{Err}
use Rattle.cqf_desk.proofs.Against.{named_so}
use Rattle.cqf_desk.proofs.closing.settle.Goals as goal

pub returns-in-Err-clause-named : goal.returns-in-Err-clause-named
returns-in-Err-clause-named c = named_so c.args.opening.now c.args.held c.args.count c.args.seats.now (Err c.in-Err.fault) c.in-Err.ensures
