use Rattle.cqf_laws_account.proofs.Traced.{trace_reported}
use Rattle.cqf_laws_account.proofs.traces_give_the_book.Goals as goal

pub returns : goal.returns
returns c d cycles traces book accepted some are = trace_reported d cycles traces book accepted some are
