use Rattle.cqf_laws_shift.proofs.Backgrounds.{background_changes_no_start}
use Rattle.cqf_laws_shift.proofs.beside.background_changes_no_start.Goals as goal

pub returns : goal.returns
returns c = background_changes_no_start c.legal_network_is_unique.ensures c.run_beside_is_run_alone.ensures
