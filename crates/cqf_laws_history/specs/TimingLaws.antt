-- Laws about how long frames take, in a planner's words.
use Rattle.std.specs.Prelude.{ℕ, ◌≡◌, ◌+◌, ◌*◌, ◌≤◌, ◌<◌}
use Rattle.cqf_units.specs.Timing.{ending_of, idle_after, time_of, wire_of}
use Rattle.cqf_model.specs.declared.frames.Sent.{Sent}
use Rattle.cqf_model.specs.Domain.{Domain, delay_of, octet_time_of}
use Rattle.cqf_model.specs.Policing.{whole_at}

-- a frame has fully arrived in the next node when its 8 octets of preamble and start delimiter and its own octets have been sent
-- and the link's delay has passed
abbrev pub DelayCounts : Type 0
DelayCounts =
    (d : Domain) (link : ℕ) (sent : Sent) → whole_at d link sent ≡ sent.start.0 + time_of (sent.octets + 8) (octet_time_of d link) + delay_of d link

-- `instant` is the first whole nanosecond by which `octets` octets have been sent after `start`, if an octet takes `octet_time`
-- ticks of 1/25 ns
pub record IsFirstBy (start octets octet_time instant : ℕ) : Type 0 where
  pub sent : 25 * start + octets * octet_time ≤ 25 * instant
  pub first : 25 * instant < 25 * start + octets * octet_time + 25

-- a frame is over when the frame and its 8 octets of preamble and start delimiter have been sent
abbrev pub EndingIsCounted : Type 0
EndingIsCounted = (start octets octet_time : ℕ) → IsFirstBy start (octets + 8) octet_time (ending_of start octets octet_time)

-- after a frame is over, the link is free 12 octets of gap later
abbrev pub GapIsCounted : Type 0
GapIsCounted =
    (start octets octet_time : ℕ) → IsFirstBy start (octets + 8 + 12) octet_time (idle_after start octets octet_time)

-- if an octet takes whole nanoseconds, nothing is rounded
abbrev pub WholeOctetsAreExact : Type 0
WholeOctetsAreExact = (octets nanos : ℕ) → time_of octets (25 * nanos) ≡ octets * nanos

-- the shortest frame, of 64 octets, takes 84 octets of wire. At 1 Gb/s it is over after 576 ns, and the link is free after 672 ns.
-- At 10 Gb/s it takes 57.6 and 67.2 ns, which count as 58 and 68
pub record ShortestFrame : Type 0 where
  pub wire : wire_of 64 ≡ 84
  pub over : ending_of 0 64 200 ≡ 576
  pub free : idle_after 0 64 200 ≡ 672
  pub over_at_ten : ending_of 0 64 20 ≡ 58
  pub free_at_ten : idle_after 0 64 20 ≡ 68
