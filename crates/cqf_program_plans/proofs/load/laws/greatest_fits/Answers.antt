use Rattle.cqf_program_plans.proofs.Fits.{fits_greatest, one_more}
use Rattle.cqf_program_plans.proofs.load.laws.greatest_fits.Goals as goal

pub returns-clause-greatest : goal.returns-clause-greatest
returns-clause-greatest c = fits_greatest

pub returns-clause-one_more : goal.returns-clause-one_more
returns-clause-one_more c = one_more
