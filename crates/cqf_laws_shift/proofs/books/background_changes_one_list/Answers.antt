use Rattle.cqf_laws_shift.proofs.Backgrounds.{background_changes_one_list}
use Rattle.cqf_laws_shift.proofs.books.background_changes_one_list.Goals as goal

pub returns : goal.returns
returns c = background_changes_one_list c.background_changes_no_start.ensures
