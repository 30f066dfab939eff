use Rattle.std.proofs.Common.{◌∙◌}
use Rattle.cqf_admission.specs.Branches.{branches_of}
use Rattle.cqf_admission.proofs.FaultLemmas.{known_is}
use Rattle.cqf_admission.proofs.trees.unknown_index_of.Goals as goal

pub returns : goal.returns
returns c = c.first_fault_of.ensures ∙ known_is c.args.domain.now (branches_of c.args.paths.now)
