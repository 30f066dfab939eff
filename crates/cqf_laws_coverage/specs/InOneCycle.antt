-- What a link has in one cycle, and the most that it has in one cycle.
use Rattle.std.specs.Prelude.{ℕ, ◌≡◌, ◌≤◌, ◌==◌, ◌&&◌, ◌⊎◌, List, if◌then◌else◌, fold, max, sum_by}
use Rattle.cqf_model.specs.declared.frames.Started.{Started}

-- the octets of the starts on a link in one cycle
abbrev pub octets_summed : ℕ → ℕ → List Started → ℕ
octets_summed link cycle starts =
    sum_by (λ (start : Started). if (start.link == link) && (start.cycle.0 == cycle) then start.octets else 0) starts

-- the most octets on a link in one cycle, over the cycles in which anything starts; 0 if nothing does
abbrev pub most_on : ℕ → List Started → ℕ
most_on link starts = fold (λ most (start : Started). max most (octets_summed link start.cycle.0 starts)) 0 starts

-- this number is the most that a link has in one cycle: no cycle has more, and one cycle has as much, unless it is 0
pub record IsMost (link : ℕ) (starts : List Started) (most : ℕ) : Type 0 where
  pub no_more : (cycle : ℕ) → octets_summed link cycle starts ≤ most
  pub reached : (most ≡ 0) ⊎ ((cycle : ℕ) × (octets_summed link cycle starts ≡ most))

abbrev pub MostIsTheGreatest : Type 0
MostIsTheGreatest = (link : ℕ) (starts : List Started) → IsMost link starts (most_on link starts)
