-- The cycles in which a stream's frames are on their way.
use Rattle.std.specs.Prelude.{ℕ, ◌+◌, ◌%◌, ◌==◌, Bool}
use Rattle.cqf_model.specs.declared.topology.Pace.{Pace}

-- the pace of a stream that is offered in each cycle
abbrev pub each_cycle : Pace
each_cycle = record { pause = 0; phase = 0 }

-- whether a stream's frames are at this hop number in the cycle: they are offered in the cycles of the stream's phase, and leave on a link
-- as many cycles later as its hop number says
abbrev pub is_active : Pace → ℕ → ℕ → Bool
is_active pace hop_number cycle = (pace.phase + hop_number) % (pace.pause + 1) == cycle % (pace.pause + 1)
