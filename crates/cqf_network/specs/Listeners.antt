-- The first paths to several stations.
use Rattle.std.specs.Prelude.{ℕ, ◌≡◌, ◌<◌, Bool, List, length, Some, slice_get}
use Rattle.cqf_model.specs.declared.topology.Link.{Link}
use Rattle.cqf_model.specs.declared.topology.Node.{Node}
use Rattle.cqf_model.specs.declared.topology.Node.TheVariants.{Station}
use Rattle.cqf_network.specs.declared.listeners.PathsFault.{PathsFault}
use Rattle.cqf_network.specs.declared.listeners.PathsFault.TheVariants as fault
use Rattle.cqf_network.specs.Paths.{IsFirstPath, NoWay}

-- one path for each station, in the stations' order, each the first path to its station
pub record AreFirstPaths (links : List Link) (room : ℕ → Bool) (from : Node) (stations : List ℕ) (link_paths : List (List ℕ)) : Type 0 where
  pub one_each : length link_paths ≡ length stations
  pub each : (k station : ℕ) (path : List ℕ) → slice_get stations k ≡ Some station → slice_get link_paths k ≡ Some path →
      IsFirstPath links room from (Station station) path

-- the station at an index is the first without a path
pub record IsFirstWithout (links : List Link) (room : ℕ → Bool) (from : Node) (stations : List ℕ) (index : ℕ) : Type 0 where
  pub station : ℕ
  pub stands : slice_get stations index ≡ Some station
  pub none : NoWay links room from (Station station)
  pub before : (k there : ℕ) → k < index → slice_get stations k ≡ Some there → (path : List ℕ) × IsFirstPath links room from (Station there) path

-- why there isn't a path to each station
abbrev pub IsPathsFault : List Link → (ℕ → Bool) → Node → List ℕ → PathsFault → Type 0
IsPathsFault links room from stations (fault.NoWay index) = IsFirstWithout links room from stations index
IsPathsFault links room from stations fault.Memory = Unit {0}
