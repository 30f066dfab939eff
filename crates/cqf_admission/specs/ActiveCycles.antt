-- Sums by link and cycle, to which streams are added and from which they are removed. All paces repeat after `most_every` cycles, so a link
-- has a sum for each of these.
use Rattle.std.specs.Prelude.{ℕ, ◌≡◌, ◌+◌, ◌-◌, ◌*◌, ◌%◌, ◌<◌, ◌≤◌, ◌^◌, Bool, true, Contains, List, [], ◌∷◌, if◌then◌else◌, drop, fold, length, max, slice_index_or, take}
use Rattle.cqf_lists.specs.Lists.{each_below}
use Rattle.cqf_model.specs.declared.topology.Hop.{Hop}
use Rattle.cqf_model.specs.declared.topology.Pace.{Pace}
use Rattle.cqf_model.specs.declared.topology.Row.{Row}
use Rattle.cqf_model.specs.Limits.{most_every}
use Rattle.cqf_model.specs.Paces.{is_active}
use Rattle.cqf_model.specs.Table.{uses}

-- a pace that repeats after `most_every` cycles: the number of cycles divides 80, and the phase is below that number
pub record IsGoodPace (pace : Pace) : Type 0 where
  pub divides : most_every % (pace.pause + 1) ≡ 0
  pub within : pace.phase ≤ pace.pause

abbrev pub IsOfGoodPace : Row → Type 0
IsOfGoodPace row = IsGoodPace row.pace

abbrev pub AreOfGoodPaces : List Row → Type 0
AreOfGoodPaces rows = (row : Row) → Contains rows row → IsOfGoodPace row

-- the number of links with sums; and the sums, link by link, for each link by cycle
pub record SumsByCycle : Type 0 where
  pub links : ℕ
  pub sums : List ℕ

-- the sum of a link in a cycle
abbrev pub sum_on : SumsByCycle → ℕ → ℕ → ℕ
sum_on by_cycle l cycle = slice_index_or by_cycle.sums (l * most_every + cycle % most_every) 0

-- what a stream adds to this sum: the number, if its frames use the link in that cycle
abbrev pub part_in : List Hop → Pace → ℕ → ℕ → ℕ → ℕ
part_in tree pace number l cycle = if uses tree pace l cycle then number else 0

-- no stream was added
pub record AreNone (by_cycle : SumsByCycle) (links : ℕ) : Type 0 where
  pub of_links : by_cycle.links ≡ links
  pub none : (l cycle : ℕ) → sum_on by_cycle l cycle ≡ 0

-- the stream's number can be added to each of its sums
abbrev pub HasRoomFor : SumsByCycle → List Hop → Pace → ℕ → Type 0
HasRoomFor by_cycle tree pace number = (l cycle : ℕ) → l < by_cycle.links → sum_on by_cycle l cycle + part_in tree pace number l cycle < 2 ^ 64

-- a stream was added
pub record AreMoreIn (before : SumsByCycle) (tree : List Hop) (pace : Pace) (number : ℕ) (after : SumsByCycle) : Type 0 where
  pub links : after.links ≡ before.links
  pub each : (l cycle : ℕ) → l < before.links → sum_on after l cycle ≡ sum_on before l cycle + part_in tree pace number l cycle

-- each sum contains what the stream added
abbrev pub HasIn : SumsByCycle → List Hop → Pace → ℕ → Type 0
HasIn by_cycle tree pace number = (l cycle : ℕ) → l < by_cycle.links → part_in tree pace number l cycle ≤ sum_on by_cycle l cycle

-- a stream was removed
pub record AreLessIn (before : SumsByCycle) (tree : List Hop) (pace : Pace) (number : ℕ) (after : SumsByCycle) : Type 0 where
  pub links : after.links ≡ before.links
  pub each : (l cycle : ℕ) → l < before.links → sum_on after l cycle ≡ sum_on before l cycle - part_in tree pace number l cycle

-- the greatest sum of a link in the cycles in which frames of this pace use a hop with this hop number; and in all cycles
abbrev pub most_at : SumsByCycle → ℕ → Pace → ℕ → ℕ
most_at by_cycle l pace hop_number =
    fold max 0 (each_below (λ cycle. if is_active pace hop_number cycle then sum_on by_cycle l cycle ∷ [] else []) most_every)

abbrev pub most_of : SumsByCycle → ℕ → ℕ
most_of by_cycle l = fold max 0 (each_below (λ cycle. sum_on by_cycle l cycle ∷ []) most_every)

-- sums as they are stored: for each link those of all cycles, and the greatest of these
pub record AreKept (by_cycle : SumsByCycle) (greatest : List ℕ) : Type 0 where
  pub whole : length by_cycle.sums ≡ by_cycle.links * most_every
  pub as_many : length greatest ≡ by_cycle.links
  pub each : (l : ℕ) → l < by_cycle.links → slice_index_or greatest l 0 ≡ most_of by_cycle l

-- ---- the sums of one link

-- the sums of a link, by cycle
abbrev pub sums_at : SumsByCycle → ℕ → List ℕ
sums_at by_cycle l = take most_every (drop (l * most_every) by_cycle.sums)

-- the number can be added to the sums of the chosen cycles
abbrev pub HaveRoomIn : (ℕ → Bool) → List ℕ → ℕ → Type 0
HaveRoomIn chosen cycle_sums number = (active_cycle : ℕ) → active_cycle < length cycle_sums → chosen active_cycle ≡ true → slice_index_or cycle_sums active_cycle 0 + number < 2 ^ 64

-- the sums, with the number added in the chosen cycles
pub record AreMoreWhere (chosen : ℕ → Bool) (before : List ℕ) (number : ℕ) (after : List ℕ) : Type 0 where
  pub as_many : length after ≡ length before
  pub each : (active_cycle : ℕ) → active_cycle < length before →
      slice_index_or after active_cycle 0 ≡ slice_index_or before active_cycle 0 + (if chosen active_cycle then number else 0)

-- the sums of the chosen cycles contain the number
abbrev pub HaveIn : (ℕ → Bool) → List ℕ → ℕ → Type 0
HaveIn chosen cycle_sums number = (active_cycle : ℕ) → active_cycle < length cycle_sums → chosen active_cycle ≡ true → number ≤ slice_index_or cycle_sums active_cycle 0

-- the sums, with the number subtracted in the chosen cycles
pub record AreLessWhere (chosen : ℕ → Bool) (before : List ℕ) (number : ℕ) (after : List ℕ) : Type 0 where
  pub as_many : length after ≡ length before
  pub each : (active_cycle : ℕ) → active_cycle < length before →
      slice_index_or after active_cycle 0 ≡ slice_index_or before active_cycle 0 - (if chosen active_cycle then number else 0)

-- the greatest sum in the chosen cycles
abbrev pub most_where : (ℕ → Bool) → List ℕ → ℕ
most_where chosen cycle_sums = fold max 0 (each_below (λ active_cycle. if chosen active_cycle then slice_index_or cycle_sums active_cycle 0 ∷ [] else []) most_every)
