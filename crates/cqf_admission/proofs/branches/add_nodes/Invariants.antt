-- The names so far have been looked up.
use Rattle.std.proofs.Common.{◌≡◌, fold, take}
use Rattle.cqf_admission.specs.Branches.{branch_of, with_node}
use Rattle.cqf_admission.proofs.branches.add_nodes.Given as goal

abbrev pub invariant-loop-name : goal.invariant-loop-name
invariant-loop-name l = l.nodes.items ≡ fold (with_node l.domain) l.fn.nodes.items (branch_of (take l.name-index l.branch))
