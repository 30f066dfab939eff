use Rattle.cqf_program_without.proofs.KeptOff.{networks_lack_links}
use Rattle.cqf_program_without.proofs.laws.networks_lack_links.Goals as goal

pub returns : goal.returns
returns c = networks_lack_links
