use Rattle.cqf_laws_history.proofs.Closed.{closed_stay}
use Rattle.cqf_laws_history.proofs.definitions.closed_tables_stay.Goals as goal

pub returns : goal.returns
returns c = closed_stay
