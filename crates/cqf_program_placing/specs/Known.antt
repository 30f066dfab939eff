-- What is known of the room of links while streams are placed.
use Rattle.std.specs.Prelude.{ℕ, ◌≡◌, ◌<◌, ◌⊎◌, All, Contains, IsSome, List, Option, Some, None, get_or, length, slice_index_or}
use Rattle.arrayvec.specs.ArrayVec.{ArrayVec}
use Rattle.cqf_admission.specs.Branches.{branches_of, tree_refusal}
use Rattle.cqf_model.specs.declared.topology.Hop.{Hop}
use Rattle.cqf_model.specs.declared.topology.Row.{Row}
use Rattle.cqf_model.specs.Domain.{Domain}
use Rattle.cqf_model.specs.History.{Branch, tree_of}
use Rattle.cqf_model.specs.Table.{link_cost}
use Rattle.cqf_program_placing.specs.declared.branched.Branched.{Branched}
use Rattle.cqf_program_placing.specs.declared.rooms.Emptiest.{Emptiest}
use Rattle.cqf_program_placing.specs.declared.rooms.Rooms.{Rooms}
use Rattle.cqf_program_placing.specs.ActiveCycles.{IsGoodEvery, lefts_on}

-- there is a number for each link
pub record IsFilled (d : Domain) (emptiest : Emptiest) : Type 0 where
  pub good : IsGoodEvery emptiest.every
  pub each : length emptiest.left.items ≡ length d.links

-- the numbers are what links have left, if these rows are held, each in its emptiest phase of `every`
pub record IsKnown (d : Domain) (rows : List Row) (emptiest : Emptiest) : Type 0 where
  pub good : IsGoodEvery emptiest.every
  pub left : emptiest.left.items ≡ lefts_on d rows emptiest.every

abbrev pub AreKnown : Domain → List Row → Rooms → Type 0
AreKnown d rows rooms = All (IsKnown d rows) rooms.known.items

-- the numbers for this `every` are at an index
pub record IsKnownAt (rooms : Rooms) (every index : ℕ) : Type 0 where
  pub within : index < length rooms.known.items
  pub is : (none : Emptiest) → (get_or rooms.known.items index none).every ≡ every

-- of each of these links the value is the present one; of each other link it is the present one or the former one
pub record AreRenewed (now : ℕ → ℕ) (links before after : List ℕ) : Type 0 where
  pub as_many : length after ≡ length before
  pub each : (l : ℕ) → l < length before →
      (slice_index_or after l 0 ≡ now l) ⊎ ((slice_index_or after l 0 ≡ slice_index_or before l 0) × (Contains links l → ⊥))

-- on all links but these, streams cost what they cost before
abbrev pub TakesNothingOff : List Row → List Row → List ℕ → Type 0
TakesNothingOff before after links = (l : ℕ) → (Contains links l → ⊥) → (cycle : ℕ) → link_cost after l cycle ≡ link_cost before l cycle

-- ---- branches with their tree

-- branches make this tree; or they are refused, if there is none
abbrev pub MakeTree : Domain → List Branch → Option (ArrayVec Hop) → Type 0
MakeTree d paths None = IsSome (tree_refusal d paths)
MakeTree d paths (Some tree) = (tree_refusal d paths ≡ None) × (tree.items ≡ tree_of d paths)

abbrev pub IsBranched : Domain → Branched → Type 0
IsBranched d branched = MakeTree d (branches_of branched.paths.items) branched.tree
