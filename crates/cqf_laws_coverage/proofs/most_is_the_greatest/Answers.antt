use Rattle.cqf_laws_coverage.proofs.InOneCycle.{most_is_most}
use Rattle.cqf_laws_coverage.proofs.most_is_the_greatest.Goals as goal

pub returns : goal.returns
returns c = most_is_most
