-- Networks whose ports start frames later than exact ports do.
use Rattle.std.specs.Prelude.{ℕ, ◌≡◌, ◌+◌, ◌<◌, ◌≤◌, map, length, Contains}
use Rattle.cqf_units.specs.Timing.{ending_of}
use Rattle.cqf_model.specs.declared.frames.Sent.{Sent}
use Rattle.cqf_model.specs.Domain.{Domain, delay_of, octet_time_of}
use Rattle.cqf_model.specs.Loose.{IsLooseNetwork, Slack}
use Rattle.cqf_model.specs.Network.{IsNetworkBy, Network, compiled_lists}
use Rattle.cqf_model.specs.Run.{Run}
use Rattle.cqf_model.specs.Policing.{Carried, whole_at}

-- a frame as an exact port starts it, and as it is started here: no sooner, and at most `lag` later
pub record StartsWithin (lag : ℕ) (sent begun : Sent) : Type 0 where
  pub frame : begun.frame ≡ sent.frame
  pub stream : begun.stream ≡ sent.stream
  pub octets : begun.octets ≡ sent.octets
  pub no_sooner : sent.start.0 ≤ begun.start.0
  pub no_later : begun.start.0 ≤ sent.start.0 + lag

-- how a frame that lags is heard at the link's end: the greatest delay that the domain states has room for the lag
pub record ComesAfter (d : Domain) (slack : Slack) (lag l : ℕ) (begun heard : Sent) : Type 0 where
  pub frame : heard.frame ≡ begun.frame
  pub stream : heard.stream ≡ begun.stream
  pub octets : heard.octets ≡ begun.octets
  pub least : ending_of begun.start.0 begun.octets (octet_time_of d l) + slack.least l ≤ whole_at d l heard + slack.sync
  pub shortest : ending_of begun.start.0 64 (octet_time_of d l) + slack.least l ≤ whole_at d l heard + slack.sync
  pub most : whole_at d l heard + lag ≤ ending_of begun.start.0 begun.octets (octet_time_of d l) + delay_of d l + slack.sync

-- a network whose ports start each frame at most `lag` later than an exact port does for the same arrivals, each frame by its own
-- time
pub record IsLaggingNetwork (run : Run) (slack : Slack) (lag : ℕ → ℕ) (net : Network) (heard : Carried) : Type 0 where
  pub goes : IsNetworkBy run (compiled_lists run.domain) (length run.tables) net heard
  pub begun : ℕ → Sent → Sent
  pub noted : ℕ → Sent → Sent
  pub are : (l : ℕ) → heard l ≡ map (λ (sent : Sent). noted l (begun l sent)) (net.carried l)
  pub starts : (l : ℕ) (sent : Sent) → l < length run.domain.links → Contains (net.carried l) sent → StartsWithin (lag l) sent (begun l sent)
  pub each : (l : ℕ) (sent : Sent) → l < length run.domain.links → Contains (net.carried l) sent →
      ComesAfter run.domain slack (lag l) l (begun l sent) (noted l (begun l sent))

-- a network whose ports lag in this way is a loose network. So all that holds for loose networks holds for it, by the starts of exact ports
abbrev pub LaggingIsLoose : Type 0
LaggingIsLoose = (run : Run) (slack : Slack) (lag : ℕ → ℕ) (net : Network) (heard : Carried) → IsLaggingNetwork run slack lag net heard →
    IsLooseNetwork run slack net heard
