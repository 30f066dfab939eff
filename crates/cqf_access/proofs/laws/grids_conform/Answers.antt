use Rattle.cqf_access.proofs.Arrivals.{grids_are_kept, grids_conform}
use Rattle.cqf_access.proofs.laws.grids_conform.Goals as goal

pub returns-clause-conforms : goal.returns-clause-conforms
returns-clause-conforms c = grids_conform

pub returns-clause-kept : goal.returns-clause-kept
returns-clause-kept c = grids_are_kept
