-- The rounds in which frames are written, so that only those under way are kept.
use Rattle.std.specs.Prelude.{ℕ, ◌≡◌, ◌≢◌, ◌+◌, ◌-◌, ◌≤◌, ◌<◌, ◌++◌, All, AllPairs, Contains, List, Some, suc, zero, drop, filter}
use Rattle.std.specs.Prelude.{length, map, min, nat_le, nat_lt, slice_get, slice_index_or, take, vec_capacity}
use Rattle.std.specs.Global.{Global}
use Rattle.std.specs.declared.vec.Vec.{Vec}
use Rattle.cqf_units.specs.Timing.{cycle_at}
use Rattle.cqf_instants.specs.Progress.{AreStartsOf, Progress}
use Rattle.cqf_model.specs.declared.frames.Dropped.{Dropped}
use Rattle.cqf_model.specs.declared.frames.Offer.{Offer}
use Rattle.cqf_model.specs.declared.frames.Started.{Started}
use Rattle.cqf_model.specs.Domain.{Domain}
use Rattle.cqf_program_runs.specs.Deliveries.UnderWay.{IsInTime}
use Rattle.cqf_program_summary.specs.declared.hops.legs.Leg.{Leg}
use Rattle.cqf_program_summary.specs.declared.hops.legs.Leg.TheVariants as leg
use Rattle.cqf_program_summary.specs.declared.hops.rounds.Round.{Round}
use Rattle.cqf_program_summary.specs.declared.hops.steps.HopsRun.{HopsRun}
use Rattle.cqf_program_summary.specs.declared.hops.steps.LegsUnderWay.{LegsUnderWay}
use Rattle.cqf_program_summary.specs.Hops.Gathered.{IsLegInTime, kept_legs, wanted_by}
use Rattle.cqf_program_summary.specs.Hops.Legs.{AreApart, AreByFrame, IsBefore, Wanted, frame_of}
use Rattle.cqf_program_summary.specs.Hops.Text.{lines_of_legs, text_of_legs}

-- the source of the legs: offers, which of their frames are wanted, and the drops by frame
pub record Source : Type 0 where
  pub offers : List Offer
  pub wanted : Wanted
  pub drops : List Dropped

abbrev pub source_of : HopsRun → Source
source_of run = record { offers = run.offers.now; wanted = wanted_by run.choice; drops = run.drops.now }

-- the wanted legs of starts, and of drops
abbrev pub started_legs : Source → List Started → List Leg
started_legs source starts = kept_legs source.offers source.wanted (map leg.Started starts)

abbrev pub dropped_legs : Source → List Dropped → List Leg
dropped_legs source drops = kept_legs source.offers source.wanted (map leg.Dropped drops)

-- the legs of frames after the first ones, and of the first ones
abbrev pub legs_after : ℕ → List Leg → List Leg
legs_after frames legs = filter (λ (x : Leg). nat_lt frames (frame_of x)) legs

abbrev pub legs_up_to : ℕ → List Leg → List Leg
legs_up_to frames legs = filter (λ (x : Leg). nat_le (frame_of x) frames) legs

-- all wanted legs of a run with these starts
abbrev pub legs_of_run : Source → List Started → List Leg
legs_of_run source starts = started_legs source starts ++ dropped_legs source source.drops

-- the round before all rounds, and the one before the round at an index
abbrev pub no_round : Round
no_round = record { cycles = 0; frames = 0; drops = 0 }

abbrev pub round_before : List Round → ℕ → Round
round_before rounds zero = no_round
round_before rounds (suc k) = slice_index_or rounds k no_round

-- the legs that are kept in a round of the starts so far, and those that are written in it
abbrev pub kept_in : Source → Round → List Started → List Leg
kept_in source before starts = legs_after before.frames (started_legs source starts)

abbrev pub written_in : Source → Round → Round → List Started → List Leg
written_in source before round starts =
    legs_up_to round.frames (kept_in source before starts) ++ dropped_legs source (take (round.drops - before.drops) (drop before.drops source.drops))

-- after a round the drops are divided by frame, and its cycles reach more than `hop_number` cycles past those of its frames'
-- offers
pub record GoesOnFrom (d : Domain) (hop_number : ℕ) (offers : List Offer) (drops : List Dropped) (round : Round) : Type 0 where
  pub frames_within : round.frames ≤ length offers
  pub drops_within : round.drops ≤ length drops
  pub whole : (index : ℕ) (offer : Offer) → index < round.frames → slice_get offers index ≡ Some offer →
      cycle_at d.cycle_time offer.at.0 + hop_number < round.cycles
  pub dropped : (x : Dropped) → Contains (take round.drops drops) x → x.frame ≤ round.frames
  pub not_yet : (x : Dropped) → Contains (drop round.drops drops) x → round.frames < x.frame

-- a round follows another: it is no earlier, and after it the above holds
pub record IsNextRound (d : Domain) (hop_number : ℕ) (offers : List Offer) (drops : List Dropped) (before round : Round) : Type 0 where
  pub cycles_later : before.cycles ≤ round.cycles
  pub frames_later : before.frames ≤ round.frames
  pub drops_later : before.drops ≤ round.drops
  pub goes_on : GoesOnFrom d hop_number offers drops round

-- each round follows the one before it, and after the last all frames are written
pub record AreRounds (d : Domain) (hop_number : ℕ) (offers : List Offer) (drops : List Dropped) (rounds : List Round) : Type 0 where
  pub first : GoesOnFrom d hop_number offers drops no_round
  pub each : (k : ℕ) → k < length rounds → IsNextRound d hop_number offers drops (round_before rounds k) (slice_index_or rounds k no_round)
  pub all : (round_before rounds (length rounds)).frames ≡ length offers

-- the starts of a run's first cycles
abbrev pub starts_before : ℕ → List Started → List Started
starts_before cycles starts = filter (λ (s : Started). nat_lt s.cycle.0 cycles) starts

-- what is kept is as the round requires, in a run with these starts
pub record StandsAt (starts : List Started) (source : Source) (under_way : LegsUnderWay) : Type 0 where
  pub is : AreStartsOf under_way.pass.basis starts
  pub reported : under_way.pass.reported ≡ min under_way.at.cycles under_way.pass.basis.cycles
  pub kept : under_way.kept.items ≡ kept_in source under_way.at (starts_before under_way.at.cycles starts)

-- neither room has shrunk
pub record KeepsRoom (old new : LegsUnderWay) : Type 0 where
  pub kept : vec_capacity old.kept ≤ vec_capacity new.kept
  pub here : vec_capacity old.here ≤ vec_capacity new.here

-- the starts of the first `cycles` cycles, or of all, are returned, and the wanted ones are kept
pub record WritesKept (source : Source) (cycles : ℕ) (old new : LegsUnderWay) : Type 0 where
  pub basis : new.pass.basis ≡ old.pass.basis
  pub reported : new.pass.reported ≡ min cycles new.pass.basis.cycles
  pub at : new.at ≡ old.at
  pub here : new.here ≡ old.here
  pub kept : (starts : List Started) → StandsAt starts source old → new.kept.items ≡ kept_in source old.at (starts_before cycles starts)

-- a round has room for the legs that are kept in it, and for those that are written in it
pub record HasRoom (starts : List Started) (source : Source) (before round : Round) (kept here : ℕ) : Type 0 where
  pub for_kept : length (kept_in source before (starts_before round.cycles starts)) ≤ kept
  pub for_here : length (written_in source before round (starts_before round.cycles starts)) ≤ here

-- a round was processed: the legs that are written in it are there
pub record HasGone (starts : List Started) (source : Source) (round : Round) (old new : LegsUnderWay) : Type 0 where
  pub stands : StandsAt starts source new
  pub here : new.here.items ≡ written_in source old.at round (starts_before round.cycles starts)
  pub room : HasRoom starts source old.at round (vec_capacity new.kept) (vec_capacity new.here)

pub record GoesThrough (source : Source) (round : Round) (old new : LegsUnderWay) : Type 0 where
  pub reported : new.pass.reported ≡ min round.cycles new.pass.basis.cycles
  pub at : new.at ≡ round
  pub gone : (starts : List Started) → StandsAt starts source old → HasGone starts source round old new

-- a round is no earlier than another
pub record IsLater (before round : Round) : Type 0 where
  pub cycles : before.cycles ≤ round.cycles
  pub frames : before.frames ≤ round.frames
  pub drops : before.drops ≤ round.drops

-- a round can be written: there is room for it, and its legs differ and are in time
pub record RoundCanBeWritten (starts : List Started) (d : Domain) (source : Source) (round : Round) (under_way : LegsUnderWay) : Type 0 where
  pub stands : StandsAt starts source under_way
  pub room : HasRoom starts source under_way.at round (vec_capacity under_way.kept) (vec_capacity under_way.here)
  pub apart : AllPairs AreApart (written_in source under_way.at round (starts_before round.cycles starts))
  pub in_time : All (IsLegInTime d) (written_in source under_way.at round (starts_before round.cycles starts))

abbrev pub SomeRoundCanBeWritten : Domain → Source → Round → LegsUnderWay → Type 0
SomeRoundCanBeWritten d source round under_way = (starts : List Started) × RoundCanBeWritten starts d source round under_way

-- the legs of a round are written in order
pub record WritesRound (starts : List Started) (d : Domain) (source : Source) (round : Round) (old new : LegsUnderWay) (IsPut : List ℕ → Type 0) : Type 0 where
  pub stands : StandsAt starts source new
  pub at : new.at ≡ round
  pub room : KeepsRoom old new
  pub legs : List Leg
  pub are : AreByFrame (written_in source old.at round (starts_before round.cycles starts)) legs
  pub put : IsPut (lines_of_legs d source.offers legs)

-- there is room in each round
abbrev pub HaveRoom : List Started → Source → List Round → ℕ → ℕ → Type 0
HaveRoom starts source rounds kept here = (k : ℕ) → k < length rounds →
    HasRoom starts source (round_before rounds k) (slice_index_or rounds k no_round) kept here

-- the data of an output of `hops`, with the room for the legs that are kept and written in a round
pub record WrittenHops : Type 0 where
  pub domain : Domain
  pub source : Source
  pub rounds : List Round
  pub pass : Progress
  pub kept_room : ℕ
  pub here_room : ℕ

-- an output can be written, in a run with these starts: each round has room, and all legs of a run are in time and differ
pub record CanBeWritten (starts : List Started) (reported : WrittenHops) : Type 0 where
  pub is : AreStartsOf reported.pass.basis starts
  pub fresh : reported.pass.reported ≡ 0
  pub hop_number : ℕ
  pub rounds : AreRounds reported.domain hop_number reported.source.offers reported.source.drops reported.rounds
  pub soon : (s : Started) → Contains starts s →
      (index : ℕ) × (offer : Offer) × (slice_get reported.source.offers index ≡ Some offer) × (s.frame ≡ index + 1)
      × (s.cycle.0 ≤ cycle_at reported.domain.cycle_time offer.at.0 + hop_number)
  pub of_offers : (x : Dropped) → Contains reported.source.drops x → x.frame ≤ length reported.source.offers
  pub once : AllPairs (λ (a b : Started). a.frame ≡ b.frame → a.link ≢ b.link) starts
  pub rise : AllPairs (λ (a b : Dropped). a.frame < b.frame) reported.source.drops
  pub apart : (s : Started) (x : Dropped) → Contains starts s → Contains reported.source.drops x → s.frame ≢ x.frame
  pub in_time : All (IsInTime reported.domain) starts
  pub room : HaveRoom starts reported.source reported.rounds reported.kept_room reported.here_room

abbrev pub SomeCanBeWritten : WrittenHops → Type 0
SomeCanBeWritten reported = (starts : List Started) × CanBeWritten starts reported

-- an output from borrowed and from owned data
abbrev pub written_by : Domain → Source → List Round → Progress → Vec Leg Global → Vec Leg Global → WrittenHops
written_by d source rounds pass kept here =
    record { domain = d; source = source; rounds = rounds; pass = pass; kept_room = vec_capacity kept; here_room = vec_capacity here }

abbrev pub written_from : Domain → HopsRun → List Round → LegsUnderWay → WrittenHops
written_from d run rounds under_way = written_by d (source_of run) rounds under_way.pass under_way.kept under_way.here

-- the legs of an output, in order
pub record AreWrittenLegs (starts : List Started) (reported : WrittenHops) (legs : List Leg) : Type 0 where
  pub in_order : AllPairs IsBefore legs
  pub each : (x : Leg) → Contains (legs_of_run reported.source starts) x → Contains legs x
  pub only : (x : Leg) → Contains legs x → Contains (legs_of_run reported.source starts) x

-- the text of an output
pub record IsWrittenText (reported : WrittenHops) (text : List ℕ) : Type 0 where
  pub starts : List Started
  pub can : CanBeWritten starts reported
  pub legs : List Leg
  pub are : AreWrittenLegs starts reported legs
  pub is : text ≡ text_of_legs reported.domain reported.source.offers legs
