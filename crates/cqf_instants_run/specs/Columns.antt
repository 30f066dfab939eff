-- The frames and octets that links carry in each cycle, by the verdicts on the offers.
use Rattle.std.specs.Prelude.{ℕ, ◌≡◌, ◌+◌, ◌-◌, ◌^◌, ◌≤◌, ◌<◌, List, All, length, replicate, slice_index, slice_index_or}
use Rattle.cqf_units.specs.Timing.{cycle_at}
use Rattle.cqf_model.specs.declared.frames.Offer.{Offer}
use Rattle.cqf_model.specs.declared.frames.Offered.{Offered}
use Rattle.cqf_model.specs.declared.frames.Reason.TheVariants.{Unknown}
use Rattle.cqf_model.specs.declared.topology.Row.{Row}
use Rattle.cqf_model.specs.Domain.{Domain}
use Rattle.cqf_model.specs.Shift.{offer_cycle}
use Rattle.cqf_model.specs.Policing.{Verdict, numbered}
use Rattle.cqf_laws_coverage.specs.declared.column.Column.{Column}
use Rattle.cqf_laws_coverage.specs.Columns.{frames_by, octets_by}
use Rattle.cqf_laws_coverage.specs.Counted.{counts_in, sum_of_hops}
use Rattle.cqf_laws_coverage.specs.Reported.{AreReportedSums}
use Rattle.cqf_instants_run.specs.declared.judged.EdgeVerdict.{EdgeVerdict}
use Rattle.cqf_instants_run.specs.declared.judged.EdgeVerdict.TheVariants.{Dropped}
use Rattle.cqf_instants_run.specs.Coverage.{verdict_of}

-- the verdict on an offer, from the edge verdict at the offer's index
abbrev pub verdict_at : Domain → List Row → List EdgeVerdict → Offered → Verdict
verdict_at d rows edge_verdicts x = verdict_of rows (offer_cycle d x) (slice_index_or edge_verdicts (x.frame - 1) (Dropped Unknown))

-- the octets that leave by a link in a cycle fit in 32 bits
abbrev pub HaveColumnsRoom : Domain → ℕ → (Offered → Verdict) → List Offered → Type 0
HaveColumnsRoom d cycles verdict offers = (link cycle : ℕ) → link < length d.links → cycle < cycles →
    sum_of_hops d verdict (counts_in link cycle) offers < 2 ^ 32

-- there is a column for each link, and the columns are the sums of the offers by link
pub record AreSumsBy (d : Domain) (cycles : ℕ) (verdict : Offered → Verdict) (offers : List Offer) (columns : List Column) : Type 0 where
  pub all : length columns ≡ length d.links
  pub sums : AreReportedSums d cycles verdict (numbered offers) (frames_by columns) (octets_by columns)

-- `links` columns of `width` cycles, with nothing counted
pub record AreEmptyColumns (columns : List Column) (links width : ℕ) : Type 0 where
  pub all : length columns ≡ links
  pub frames : (link : ℕ) → link < links → frames_by columns link ≡ 0
  pub octets : (link : ℕ) → link < links → octets_by columns link ≡ replicate width 0

-- a width of at most `cycles`: if a frame of an offer can leave in a cycle below `cycles`, that cycle is below the width
pub record IsWide (cycle_time cycles : ℕ) (offers : List Offer) (width : ℕ) : Type 0 where
  pub within : width ≤ cycles
  pub enough : All (λ (offer : Offer). (hop_number : ℕ) → hop_number < 256 → cycle_at cycle_time offer.at.0 + hop_number < cycles →
      cycle_at cycle_time offer.at.0 + hop_number < width) offers

-- each column has at least `width` cycles
abbrev pub HaveWidth : List Column → ℕ → Type 0
HaveWidth columns width = (link : ℕ) → link < length columns → width ≤ length (octets_by columns link)

-- these frames added on each link fit in 64 bits, and these octets added on each link in each cycle fit in 32 bits
pub record HaveRoomFor (cycles : ℕ) (columns : List Column) (frames : ℕ → ℕ) (octets : ℕ → ℕ → ℕ) : Type 0 where
  pub for_frames : (link : ℕ) → link < length columns → frames_by columns link + frames link < 2 ^ 64
  pub for_octets : (link cycle : ℕ) → link < length columns → cycle < cycles →
      slice_index (octets_by columns link) cycle + octets link cycle < 2 ^ 32

-- these frames and octets are added
pub record AddsFrame (cycles : ℕ) (before after : List Column) (frames : ℕ → ℕ) (octets : ℕ → ℕ → ℕ) : Type 0 where
  pub as_many : length after ≡ length before
  pub as_wide : (link : ℕ) → link < length before → length (octets_by after link) ≡ length (octets_by before link)
  pub adds_frames : (link : ℕ) → link < length before → frames_by after link ≡ frames_by before link + frames link
  pub adds_octets : (link cycle : ℕ) → link < length before → cycle < cycles →
      slice_index (octets_by after link) cycle ≡ slice_index (octets_by before link) cycle + octets link cycle
