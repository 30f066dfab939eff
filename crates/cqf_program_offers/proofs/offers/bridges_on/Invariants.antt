use Rattle.std.proofs.Common.{◌≡◌, take}
use Rattle.cqf_admission.specs.Branches.{branches_of}
use Rattle.cqf_program_offers.specs.Made.{bridges_on}
use Rattle.cqf_program_offers.proofs.offers.bridges_on.Given as goal

abbrev pub invariant-loop-path : goal.invariant-loop-path
invariant-loop-path l = l.most ≡ bridges_on (branches_of (take l.path-index l.paths))
