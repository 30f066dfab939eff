-- The check of a request's branches, and its result.
use Rattle.std.specs.Prelude.{ℕ, ◌≡◌, ◌+◌, List, [], ◌∷◌, ◌++◌, if◌then◌else◌, Option, Some, None, Result, Ok, Err, Vec, String, ◌<◌, ◌⊎◌, ◌==◌}
use Rattle.std.specs.Prelude.{get_or, is_none, length, map, nat_lt, option_map, position, string_bytes}
use Rattle.std.specs.List.{flat_map, list_any}
use Rattle.std.specs.declared.alloc.Global.{Global}
use Rattle.arrayvec.specs.ArrayVec.{ArrayVec}
use Rattle.cqf_lists.specs.Lists.{least, or_else}
use Rattle.cqf_model.specs.declared.history.Refused.{Refused}
use Rattle.cqf_model.specs.declared.history.Refused.TheVariants.{UnknownNode, BrokenPath, LoopingPath, NotATree, TooManyHops}
use Rattle.cqf_model.specs.declared.topology.Hop.{Hop}
use Rattle.cqf_model.specs.declared.topology.Node.{Node}
use Rattle.cqf_model.specs.Domain.{Domain, node_named}
use Rattle.cqf_model.specs.History.{Branch, broken_index, first_index, is_broken_at, is_loop_at, is_stray, node_at, refused_at, refused_if, tree_of}
use Rattle.cqf_model.specs.Limits.{hops_within, most_hops}
use Rattle.cqf_admission.specs.declared.branches.Check.{Check}
use Rattle.cqf_admission.specs.declared.branches.Check.TheVariants.{Known, Whole, Simple}

-- a branch as the definitions have it
abbrev pub branch_of : List (String Global) → Branch
branch_of names = map string_bytes names

-- branches as the definitions have them
abbrev pub branches_of : List (Vec (String Global) Global) → List Branch
branches_of paths = map (λ (branch : Vec (String Global) Global). branch_of branch.items) paths

-- the nodes of the first names of a list, one for each element of `nodes`
abbrev pub AreNodes : Domain → List (List ℕ) → List (Option Node) → Type 0
AreNodes d names nodes = (k : ℕ) → k < length nodes → k < length names → get_or nodes k None ≡ node_at d names k

-- the nodes with that of one more name, if there are fewer than 256 so far
abbrev pub with_node : Domain → List (Option Node) → List ℕ → List (Option Node)
with_node d nodes name = if nat_lt (length nodes) 256 then nodes ++ node_named d name ∷ [] else nodes

-- the first index at which a branch fails a check
abbrev pub fault_in : Domain → Check → Branch → Option ℕ
fault_in d Known branch = position (λ name. is_none (node_named d name)) branch
fault_in d Whole branch = least (is_broken_at d branch) (length branch + 1)
fault_in d Simple branch = least (is_loop_at d branch) (length branch + 1)

-- the first index at which any of the branches fails a check; indexes count through the branches as one list
abbrev pub first_fault : Domain → Check → List Branch → Option ℕ
first_fault d check [] = None
first_fault d check (branch ∷ paths) = or_else (fault_in d check branch) (option_map (λ index. length branch + index) (first_fault d check paths))

-- the number of names in all branches
abbrev pub indices_of : List Branch → ℕ
indices_of paths = length (flat_map (λ branch. branch) paths)

-- the first reason why the branches are no tree
abbrev pub tree_refusal : Domain → List Branch → Option Refused
tree_refusal d paths =
    or_else (refused_at (λ index. UnknownNode index) (position (λ name. is_none (node_named d name)) (flat_map (λ branch. branch) paths)))
    (or_else (refused_at (λ index. BrokenPath index) (broken_index d paths))
    (or_else (refused_at (λ index. LoopingPath index) (first_index (is_loop_at d) paths))
    (or_else (refused_at (λ branch. NotATree branch) (least (is_stray paths) (length paths)))
    (refused_if (nat_lt (hops_within d.limits) (length (tree_of d paths))) TooManyHops))))

-- the result of checking branches: their tree, or the first reason against them
abbrev pub FindsTree : Domain → List Branch → Result (ArrayVec Hop) Refused → Type 0
FindsTree d paths (Ok tree) = (tree_refusal d paths ≡ None) × (tree.items ≡ tree_of d paths)
FindsTree d paths (Err refused) = tree_refusal d paths ≡ Some refused

-- a tree with one more hop, unless the tree has a hop over the same link
abbrev pub keep_link : List Hop → Hop → List Hop
keep_link tree hop = if list_any (λ (kept : Hop). kept.link == hop.link) tree then tree else tree ++ hop ∷ []

-- a tree built hop by hop as far as there is room is the whole tree, or both have more hops than a tree may have
abbrev pub AreAsFarAsRoom : List Hop → List Hop → Type 0
AreAsFarAsRoom tree whole = (tree ≡ whole) ⊎ ((most_hops < length tree) × (most_hops < length whole))
