-- The names so far are spelled.
use Rattle.std.proofs.Common.{◌≡◌, ◌++◌, take}
use Rattle.std.specs.List.{flat_map}
use Rattle.cqf_admission.specs.Branches.{branch_of}
use Rattle.cqf_admission.specs.Spelled.{spelled_name}
use Rattle.cqf_admission.proofs.spelling.spell_branch.Given as goal

abbrev pub invariant-loop-name : goal.invariant-loop-name
invariant-loop-name l = l.text.items ≡ l.fn.text.items ++ flat_map spelled_name (branch_of (take l.name-index l.branch))
