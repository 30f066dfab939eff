-- The branches so far are spelled.
use Rattle.std.proofs.Common.{◌≡◌, take}
use Rattle.cqf_admission.specs.Branches.{branches_of}
use Rattle.cqf_admission.specs.Spelled.{spelled}
use Rattle.cqf_admission.proofs.spelling.spell.Given as goal

abbrev pub invariant-loop-branch : goal.invariant-loop-branch
invariant-loop-branch l = l.text.items ≡ spelled (branches_of (take l.branch-index l.paths))
