-- Laws about which branches are refused as no tree, stated by pairs of branches, in a planner's words.
use Rattle.std.specs.Prelude.{ℕ, true, false, ◌≡◌, ◌≢◌, ◌≤◌, ◌<◌, ◌↔◌, List, length, take, slice_get, Some, None, AllPairs, Contains}
use Rattle.cqf_units.specs.Name.{is_name}
use Rattle.cqf_model.specs.declared.history.Refused.TheVariants.{NotATree, TooManyHops}
use Rattle.cqf_model.specs.declared.topology.Row.{Row}
use Rattle.cqf_model.specs.Domain.{Domain, node_named}
use Rattle.cqf_model.specs.History.{Asked, Branch, is_broken_at, is_loop_at, is_pace, make_a_tree, refusal_of}
use Rattle.cqf_model.specs.Limits.{hops_within, least_reserved, most_reserved}

-- two branches part at an index: they have the same nodes before it, and both have a node there, but not the same one
pub record PartAt (xs ys : Branch) (index : ℕ) : Type 0 where
  pub alike : take index xs ≡ take index ys
  pub first_goes_on : index < length xs
  pub second_goes_on : index < length ys
  pub differ : slice_get xs index ≢ slice_get ys index

-- a branch has a node of this name at the index `index` or later
pub record StandsFrom (branch : Branch) (index : ℕ) (name : List ℕ) : Type 0 where
  pub stand : ℕ
  pub following : index ≤ stand
  pub is : slice_get branch stand ≡ Some name

-- two branches make one tree: they begin with at least one common node, then part, and from there on no node of the one is a node
-- of the other
pub record MakeOneTree (xs ys : Branch) : Type 0 where
  pub parting : ℕ
  pub begin_alike : 0 < parting
  pub part_there : PartAt xs ys parting
  pub apart : (name : List ℕ) → StandsFrom xs parting name → ¬ StandsFrom ys parting name

-- the definition's test of any two branches finds exactly whether they make one tree
abbrev pub PairsAreTested : Type 0
PairsAreTested = (xs ys : Branch) → make_a_tree xs ys ≡ true ↔ MakeOneTree xs ys

-- none of the refusals applies that precede the refusal for branches that are no tree: the name, octets and pace are valid, there
-- is a branch, each node is known, and each branch is whole and has no loop
pub record HasNoEarlierFault (d : Domain) (asked : Asked) : Type 0 where
  pub named : is_name asked.name ≡ true
  pub least_octets : least_reserved ≤ asked.octets
  pub most_octets : asked.octets ≤ most_reserved
  pub paced : is_pace asked.every asked.phase ≡ true
  pub some_branch : 0 < length asked.paths
  pub known : (branch : Branch) (name : List ℕ) → Contains asked.paths branch → Contains branch name → node_named d name ≢ None
  pub whole : (branch : Branch) (index : ℕ) → Contains asked.paths branch → index ≤ length branch → is_broken_at d branch index ≡ false
  pub simple : (branch : Branch) (index : ℕ) → Contains asked.paths branch → index ≤ length branch → is_loop_at d branch index ≡ false

-- two branches begin with the same node, differ, and each node of both has the same nodes before it in both. So no node that the
-- one branch has after another beginning is in the other
pub record HaveTheirBeginningsOnce (xs ys : Branch) : Type 0 where
  pub begin : slice_get xs 0 ≡ slice_get ys 0
  pub differ : xs ≢ ys
  pub same_before : (i j : ℕ) (name : List ℕ) → slice_get xs i ≡ Some name → slice_get ys j ≡ Some name → take i xs ≡ take j ys

-- for two branches of such a request, both statements are equivalent
abbrev pub PairsHaveTheirBeginnings : Type 0
PairsHaveTheirBeginnings = (d : Domain) (asked : Asked) (xs ys : Branch) → HasNoEarlierFault d asked → Contains asked.paths xs → Contains asked.paths ys →
    MakeOneTree xs ys ↔ HaveTheirBeginningsOnce xs ys

-- this branch is the first that makes no tree with a branch before it: each two branches before it make one tree
pub record IsFirstStray (paths : List Branch) (index : ℕ) : Type 0 where
  pub branch : Branch
  pub here : slice_get paths index ≡ Some branch
  pub earlier : ℕ
  pub before : earlier < index
  pub other : Branch
  pub there : slice_get paths earlier ≡ Some other
  pub no_tree : ¬ MakeOneTree other branch
  pub first : (i j : ℕ) (xs ys : Branch) → i < j → j < index → slice_get paths i ≡ Some xs → slice_get paths j ≡ Some ys → MakeOneTree xs ys

-- a request is refused for a branch as no tree exactly if no earlier refusal applies and the branch is the first such
abbrev pub RefusedAsNoTree : Type 0
RefusedAsNoTree = (d : Domain) (rows : List Row) (asked : Asked) (index : ℕ) →
    refusal_of d rows asked ≡ Some (NotATree index) ↔ (HasNoEarlierFault d asked × IsFirstStray asked.paths index)

-- so if no earlier refusal applies, a request is refused for no branch exactly if each two of its branches make one tree
abbrev pub TreesAreMadeOfPairs : Type 0
TreesAreMadeOfPairs = (d : Domain) (rows : List Row) (asked : Asked) → HasNoEarlierFault d asked →
    ((index : ℕ) → refusal_of d rows asked ≢ Some (NotATree index)) ↔ AllPairs MakeOneTree asked.paths

-- if a tree may have as many hops as the domain has links, no request is refused for its hops
abbrev pub LinksBoundHops : Type 0
LinksBoundHops = (d : Domain) (rows : List Row) (asked : Asked) → length d.links ≤ hops_within d.limits → refusal_of d rows asked ≢ Some TooManyHops
