use Rattle.cqf_program_runs.proofs.Well.{is_well_exactly}
use Rattle.cqf_program_runs.proofs.laws.check_is_well_exactly.Goals as goal

pub returns : goal.returns
returns c entries run streams book says = is_well_exactly run streams book says entries
