-- Loose networks: networks of a run whose bridges' clocks differ, and whose links' delays vary. What arrives at a bridge is defined by
-- starts and a link's stated delay (`whole_at` of `Policing`). For any other delay, each frame that a link sends gets a second start: the
-- one for which `whole_at` gives the instant at which the frame is whole in the node at the link's end, by that node's clock. The frames
-- with these second starts are what the node hears.
use Rattle.std.specs.Prelude.{ℕ, ◌≡◌, ◌+◌, ◌<◌, ◌≤◌, map, length, Contains}
use Rattle.cqf_units.specs.Timing.{ending_of, time_of}
use Rattle.cqf_model.specs.declared.frames.Sent.{Sent}
use Rattle.cqf_model.specs.Domain.{Domain, IsAccepted, delay_of, guard_of, least_delay_of, octet_time_of}
use Rattle.cqf_model.specs.Network.{IsNetworkBy, Network, compiled_lists}
use Rattle.cqf_model.specs.Run.{Run}
use Rattle.cqf_model.specs.Policing.{Carried, whole_at}

-- the greatest difference between the clocks of the nodes at a link's two ends, and the least delay of each link, in nanoseconds. The
-- greatest delay is the one that the domain states
pub record Slack : Type 0 where
  pub sync : ℕ
  pub least : ℕ → ℕ

-- the slack that a domain states
abbrev pub slack_of : Domain → Slack
slack_of d = record { sync = d.sync; least = least_delay_of d }

-- a domain that is accepted with this slack. A frame sent in a cycle is received in that cycle by either clock: the greatest delay and the
-- clocks' difference together are below the link's guard band. No frame of the shortest size is received, by the receiver's clock, before
-- it started by the sender's
pub record IsAcceptedWith (d : Domain) (slack : Slack) : Type 0 where
  pub accepted : IsAccepted d
  pub most_short : (l : ℕ) → l < length d.links → delay_of d l + slack.sync < guard_of d l
  pub least_long : (l : ℕ) → l < length d.links → slack.sync ≤ time_of 72 (octet_time_of d l) + slack.least l

-- how a frame that a link sent is heard: by the receiver's clock it is whole within the least and the greatest delay after its end by the
-- sender's clock, give or take the clocks' difference. No frame is on a link for a shorter time than one of the shortest size (IEEE 802.3)
pub record ComesWithin (d : Domain) (slack : Slack) (l : ℕ) (sent heard : Sent) : Type 0 where
  pub frame : heard.frame ≡ sent.frame
  pub stream : heard.stream ≡ sent.stream
  pub octets : heard.octets ≡ sent.octets
  pub least : ending_of sent.start.0 sent.octets (octet_time_of d l) + slack.least l ≤ whole_at d l heard + slack.sync
  pub shortest : ending_of sent.start.0 64 (octet_time_of d l) + slack.least l ≤ whole_at d l heard + slack.sync
  pub most : whole_at d l heard ≤ ending_of sent.start.0 sent.octets (octet_time_of d l) + delay_of d l + slack.sync

-- a loose network: each port starts what its compiled gate list demands, by its own bridge's clock, given what arrives at it by that clock;
-- and each frame is heard at the link's end within these bounds
pub record IsLooseNetwork (run : Run) (slack : Slack) (net : Network) (heard : Carried) : Type 0 where
  pub goes : IsNetworkBy run (compiled_lists run.domain) (length run.tables) net heard
  pub noted : ℕ → Sent → Sent
  pub are : (l : ℕ) → heard l ≡ map (noted l) (net.carried l)
  pub each : (l : ℕ) (sent : Sent) → l < length run.domain.links → Contains (net.carried l) sent → ComesWithin run.domain slack l sent (noted l sent)
