-- The part of a book that is wanted and can be written.
use Rattle.std.specs.Prelude.{◌<◌, ◌^◌, ⊤, List, filter, option_map}
use Rattle.cqf_model.specs.declared.frames.Offer.{Offer}
use Rattle.cqf_model.specs.Domain.{Domain}
use Rattle.cqf_laws_timing.specs.Latency.{whole_of}
use Rattle.cqf_program_summary.specs.declared.hops.legs.Leg.{Leg}
use Rattle.cqf_program_summary.specs.declared.hops.legs.Leg.TheVariants as leg
use Rattle.cqf_program_summary.specs.declared.hops.wanting.FrameFilter.{FrameFilter}
use Rattle.cqf_program_summary.specs.Hops.Legs.{Wanted, frame_of, is_wanted}

-- the frames that a choice wants
abbrev pub wanted_by : FrameFilter → Wanted
wanted_by choice = record { stream = option_map (λ name. name.now) choice.stream; frame = choice.frame }

-- the wanted legs of a list
abbrev pub kept_legs : List Offer → Wanted → List Leg → List Leg
kept_legs offers wanted legs = filter (λ (x : Leg). is_wanted offers wanted (frame_of x)) legs

-- a start's frame is whole at an instant that fits in 64 bits
abbrev pub IsLegInTime : Domain → Leg → Type 0
IsLegInTime d (leg.Started started) = whole_of d started < 2 ^ 64
IsLegInTime d (leg.Dropped dropped) = ⊤
