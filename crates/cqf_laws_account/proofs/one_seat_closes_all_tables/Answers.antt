use Rattle.cqf_laws_account.proofs.Sealed.{all_tables}
use Rattle.cqf_laws_account.proofs.one_seat_closes_all_tables.Goals as goal

pub returns : goal.returns
returns c = all_tables
