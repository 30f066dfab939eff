-- Which streams leave a bridge: the indices of their rows, bridge by bridge.
use Rattle.std.specs.Prelude.{ℕ, ◌≡◌, ◌≢◌, ◌<◌, ◌++◌, ◌==◌, Bool, false, List, [], ◌∷◌, if◌then◌else◌, is_some, length, map, slice_get, slice_index_or}
use Rattle.std.specs.Global.{Global}
use Rattle.std.specs.Option.{option_map_or}
use Rattle.std.specs.declared.vec.Vec.{Vec}
use Rattle.cqf_lists.specs.Lists.{each_below}
use Rattle.cqf_model.specs.declared.topology.Row.{Row}
use Rattle.cqf_model.specs.Domain.{Domain, leaves}
use Rattle.cqf_compile.specs.BridgeGates.{first_hop}

-- whether a stream leaves a bridge
abbrev pub leaves_bridge : Domain → ℕ → Row → Bool
leaves_bridge d bridge row = is_some (first_hop d bridge row)

-- the indices below a number of the rows whose streams leave a bridge, in order; and all such indices
abbrev pub index_of_leaving : Domain → List Row → ℕ → ℕ → List ℕ
index_of_leaving d rows bridge index = if option_map_or (leaves_bridge d bridge) (slice_get rows index) false then index ∷ [] else []

abbrev pub indices_below : Domain → List Row → ℕ → ℕ → List ℕ
indices_below d rows bridge count = each_below (index_of_leaving d rows bridge) count

abbrev pub indices_at : Domain → List Row → ℕ → List ℕ
indices_at d rows bridge = indices_below d rows bridge (length rows)

-- lists of indices, one for each bridge by number
abbrev pub indices_in : List (Vec ℕ Global) → List (List ℕ)
indices_in lists = map (λ (indices : Vec ℕ Global). indices.items) lists

-- for each bridge the indices below a number of the rows whose streams leave it; and the same for all rows
pub record AreBelow (d : Domain) (rows : List Row) (count : ℕ) (lists : List (List ℕ)) : Type 0 where
  pub one_each : length lists ≡ length d.bridges
  pub each : (bridge : ℕ) (none : List ℕ) → bridge < length d.bridges → slice_index_or lists bridge none ≡ indices_below d rows bridge count

abbrev pub AreByBridge : Domain → List Row → List (List ℕ) → Type 0
AreByBridge d rows lists = AreBelow d rows (length rows) lists

-- an index appended to others, unless it is the last of them
abbrev pub is_last : ℕ → List ℕ → Bool
is_last index [] = false
is_last index (last ∷ []) = last == index
is_last index (first ∷ second ∷ rest) = is_last index (second ∷ rest)

abbrev pub with_index : ℕ → List ℕ → List ℕ
with_index index indices = if is_last index indices then indices else indices ++ index ∷ []

-- an index is noted at a bridge
pub record IsNoted (before after : List (List ℕ)) (bridge index : ℕ) : Type 0 where
  pub one_each : length after ≡ length before
  pub own : (none : List ℕ) → bridge < length before → slice_index_or after bridge none ≡ with_index index (slice_index_or before bridge none)
  pub others : (other : ℕ) (none : List ℕ) → other ≢ bridge → slice_index_or after other none ≡ slice_index_or before other none

-- an index is noted at the bridge that a link leaves
pub record IsNotedBy (d : Domain) (link index : ℕ) (before after : List (List ℕ)) : Type 0 where
  pub one_each : length after ≡ length before
  pub each : (bridge : ℕ) (none : List ℕ) → bridge < length d.bridges →
      slice_index_or after bridge none ≡ (if leaves d link bridge then with_index index (slice_index_or before bridge none) else slice_index_or before bridge none)
