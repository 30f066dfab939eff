-- Accepted streams, held or not, and the figures that are kept of the held ones.
use Rattle.std.specs.Prelude.{ℕ, ◌≡◌, ◌≢◌, ◌+◌, ◌<◌, ◌^◌, Bool, Contains, List, [], ◌∷◌, Option, Some, true, false, if◌then◌else◌, fold, length, max, slice_index_or, sum_by, ◌==◌}
use Rattle.std.specs.Arc.{arc_value}
use Rattle.std.specs.List.{list_any}
use Rattle.std.specs.Ordering.{nat_cmp}
use Rattle.std.specs.Cmp.Lexicographic.{slice_cmp}
use Rattle.std.specs.BTreeMap.{BTreeMap, get}
use Rattle.cqf_units.specs.declared.reservations.Cycle.{Cycle}
use Rattle.cqf_lists.specs.Lists.{each_below}
use Rattle.cqf_model.specs.declared.topology.Pace.{Pace}
use Rattle.cqf_model.specs.declared.topology.Row.{Row}
use Rattle.cqf_model.specs.Limits.{most_every}
use Rattle.cqf_model.specs.Paces.{is_active}
use Rattle.cqf_model.specs.Table.{cost_on}
use Rattle.cqf_admission.specs.ActiveCycles.{SumsByCycle, sum_on}
use Rattle.cqf_admission.specs.Rows.{IsSummable, ended}
use Rattle.cqf_admission.specs.declared.holdings.Stand.{Stand}

-- an accepted stream: its row, and whether it is held
pub record Standing : Type 0 where
  pub row : Row
  pub held : Bool

abbrev pub standing_of : Stand → Standing
standing_of stand = record { row = arc_value stand.row; held = stand.held }

-- a stream that is held
abbrev pub held_by : Row → Standing
held_by row = record { row = row; held = true }

-- accepted streams by number, for how many more streams there is room, and for how many links sums are kept
pub record Stands : Type 0 where
  pub rows : List Standing
  pub room : ℕ
  pub links : ℕ

-- what the held streams cost on a link in a cycle
abbrev pub held_part : ℕ → ℕ → Standing → ℕ
held_part l cycle stand = if stand.held then cost_on stand.row l cycle else 0

abbrev pub held_cost : List Standing → ℕ → ℕ → ℕ
held_cost rows l cycle = sum_by (held_part l cycle) rows

-- the most that the held streams cost on a link in any cycle, and in a cycle in which frames of a pace use a hop with this hop number
abbrev pub held_most : List Standing → ℕ → ℕ
held_most rows l = fold max 0 (each_below (λ cycle. held_cost rows l cycle ∷ []) most_every)

abbrev pub held_most_at : List Standing → ℕ → Pace → ℕ → ℕ
held_most_at rows l pace hop_number = fold max 0 (each_below (λ cycle. if is_active pace hop_number cycle then held_cost rows l cycle ∷ [] else []) most_every)

-- the number of held streams
abbrev pub held_one : Standing → ℕ
held_one stand = if stand.held then 1 else 0

abbrev pub held_count : List Standing → ℕ
held_count rows = sum_by held_one rows

-- the numbers of the held streams, if the first of `rows` has the given number
abbrev pub numbers_from : ℕ → List Standing → List ℕ
numbers_from number [] = []
numbers_from number (stand ∷ rows) = if stand.held then number ∷ numbers_from (number + 1) rows else numbers_from (number + 1) rows

-- a stream with another row, as after its withdrawal; and a stream that is no longer held
abbrev pub with_row : Standing → Row → Standing
with_row stand row = record stand { row = row }

pub record IsEnded (before after : Row) : Type 0 where
  pub cycle : Cycle
  pub is : after ≡ ended before cycle

abbrev pub released : Standing → Standing
released stand = record stand { held = false }

-- the stream with this number is held
pub record IsHeldAt (rows : List Standing) (number : ℕ) : Type 0 where
  pub inside : number < length rows
  pub held : (d : Standing) → (slice_index_or rows number d).held ≡ true

-- the stream with this number is held under this name; and no stream is held under this name
pub record IsHolder (rows : List Standing) (name : List ℕ) (number : ℕ) : Type 0 where
  pub is_held : IsHeldAt rows number
  pub named : (d : Standing) → (slice_index_or rows number d).row.name ≡ name

abbrev pub IsFree : List Standing → List ℕ → Type 0
IsFree rows name = (number : ℕ) → IsHeldAt rows number → (d : Standing) → (slice_index_or rows number d).row.name ≢ name

-- the number stored under a name
abbrev pub held_under : BTreeMap (List ℕ) ℕ → List ℕ → Option ℕ
held_under by_name name = get (slice_cmp nat_cmp) by_name name

-- the figures are those of the streams: under each name the number of the stream held under it, the numbers of the held streams, and the
-- sums
pub record HaveFigures (rows : List Standing) (under : List ℕ → Option ℕ) (held : List ℕ) (sums : SumsByCycle) : Type 0 where
  pub along : (stand : Standing) → Contains rows stand → IsSummable sums.links stand.row
  pub costs : (l cycle : ℕ) → l < sums.links → sum_on sums l cycle ≡ held_cost rows l cycle
  pub numbers : held ≡ numbers_from 0 rows
  pub few : length rows < 2 ^ 32
  pub leads : (name : List ℕ) (number : ℕ) → under name ≡ Some number → IsHolder rows name number
  pub found : (number : ℕ) (d : Standing) → IsHeldAt rows number → under (slice_index_or rows number d).row.name ≡ Some number

-- a stream, released if its number is in the list
abbrev pub let_go_if : List ℕ → ℕ → Standing → Standing
let_go_if numbers number stand = if list_any (λ other. other == number) numbers then released stand else stand

-- the streams with the listed numbers are released, and the others stay as they are
pub record AreLetGo (numbers : List ℕ) (rows after : List Standing) : Type 0 where
  pub as_many : length after ≡ length rows
  pub each : (number : ℕ) (d : Standing) → number < length rows → slice_index_or after number d ≡ let_go_if numbers number (slice_index_or rows number d)
