-- A tree that is laid out: each hop's branch refers to the branches of the hops that follow it, which are contiguous.
use Rattle.std.specs.Prelude.{ℕ, true, ◌≡◌, ◌+◌, ◌*◌, ◌≤◌, ◌<◌, ◌==◌, List, Option, Some, None, length, slice_get, slice_index_or, take}
use Rattle.std.specs.List.{list_any}
use Rattle.cqf_model.specs.declared.topology.Hop.{Hop}
use Rattle.cqf_model.specs.Table.{links_in}
use Rattle.cqf_instants.specs.declared.queues.LaidHop.{LaidHop}
use Rattle.cqf_instants.specs.Laid.{group_of}
use Rattle.cqf_instants.specs.Queues.{branch_at}
use Rattle.cqf_instants.specs.Meaning.{links_at}
use Rattle.cqf_instants.specs.declared.laying.Group.{Group}

-- contiguous branches have the links of the hops that follow the link `ingress`, or that begin at the edge if it is none
pub record StandAfter (tree : List Hop) (ingress : Option ℕ) (branches : List LaidHop) (group : Group) : Type 0 where
  pub inside : group.first + group.many ≤ length branches
  pub links : links_at branches group.first group.many ≡ links_in (group_of tree ingress)

-- the group of a link
abbrev pub group_at : List Group → ℕ → Group
group_at groups link = slice_index_or groups link (record { first = 0; many = 0 })

-- a branch's link is one of the tree's
abbrev pub is_of_tree : List Hop → ℕ → LaidHop → Type 0
is_of_tree tree h branch = list_any (λ (hop : Hop). hop.link == branch.link) tree ≡ true

-- after the given branches, those that follow each of the first `many` hops of a tree were appended
pub record AreAfter (tree : List Hop) (before after : List LaidHop) (many : ℕ) (groups : List Group) : Type 0 where
  pub count : length groups ≡ 4096
  pub longer : length before ≤ length after
  pub short : length after ≤ length before + 200 * many
  pub front : take (length before) after ≡ before
  pub each : (k : ℕ) (hop : Hop) → k < many → slice_get tree k ≡ Some hop → StandAfter tree (Some hop.link) after (group_at groups hop.link)
  pub beyond : (k : ℕ) (hop : Hop) → k < many → slice_get tree k ≡ Some hop → length before ≤ (group_at groups hop.link).first
  pub own : (h : ℕ) → length before ≤ h → h < length after → is_of_tree tree h (branch_at after h)

-- from an index on, links have numbers below 4096
abbrev pub HaveLinks : List LaidHop → ℕ → Type 0
HaveLinks branches from = (h : ℕ) → from ≤ h → h < length branches → (branch_at branches h).link < 4096

-- the branches from one index up to another refer to the group of their link, and nothing else has changed
pub record AreTied (before after : List LaidHop) (from to : ℕ) (groups : List Group) : Type 0 where
  pub count : length after ≡ length before
  pub links : (h : ℕ) → (branch_at after h).link ≡ (branch_at before h).link
  pub tied : (h : ℕ) → from ≤ h → h < to → ((branch_at after h).next ≡ (group_at groups (branch_at before h).link).first)
      × ((branch_at after h).many ≡ (group_at groups (branch_at before h).link).many)
  pub front : (h : ℕ) → h < from → branch_at after h ≡ branch_at before h

-- the group of the branches that follow a branch
abbrev pub after_at : List LaidHop → ℕ → Group
after_at branches h = let branch = branch_at branches h in record { first = branch.next; many = branch.many }

-- a tree was appended to the given branches: it begins with a group from the edge, and each branch of it refers to those that
-- follow its link, which belong to the tree too
pub record IsLaidBranch (tree : List Hop) (before after : List LaidHop) (edge : Group) : Type 0 where
  pub longer : length before ≤ length after
  pub short : length after ≤ length before + 40200
  pub front : (h : ℕ) → h < length before → branch_at after h ≡ branch_at before h
  pub begins : StandAfter tree None after edge
  pub from : length before ≤ edge.first
  pub own : (h : ℕ) → length before ≤ h → h < length after → is_of_tree tree h (branch_at after h)
  pub following : (h : ℕ) → length before ≤ h → h < length after → StandAfter tree (Some (branch_at after h).link) after (after_at after h)
  pub beyond : (h : ℕ) → length before ≤ h → h < length after → length before ≤ (after_at after h).first
