use Rattle.cqf_program_without.proofs.Outs.{links_are_out}
use Rattle.cqf_program_without.proofs.laws.links_are_out.Goals as goal

pub returns : goal.returns
returns c = links_are_out
