-- Runs in loose networks (`cqf_model/specs/Loose.antt`), and how frames can arrive in them.
use Rattle.std.specs.Prelude.{ℕ, ◌<◌, ◌≤◌, map, length}
use Rattle.cqf_model.specs.declared.frames.Sent.{Sent}
use Rattle.cqf_model.specs.Domain.{Domain}
use Rattle.cqf_model.specs.Loose.{ComesWithin, IsAcceptedWith, IsLooseNetwork, Slack}
use Rattle.cqf_model.specs.Network.{Network}
use Rattle.cqf_model.specs.Run.{AreBackground, AreOffers, Run}
use Rattle.cqf_model.specs.Table.{AreOrderly}
use Rattle.cqf_model.specs.Policing.{Carried}
use Rattle.cqf_laws_shift.specs.Heard.{IsHeardAs}

-- a loose network of an accepted domain, with the tables of a history and any offers, beside any background frames
pub record IsLooseRun (run : Run) (slack : Slack) (net : Network) (heard : Carried) : Type 0 where
  pub accepted : IsAcceptedWith run.domain slack
  pub orderly : AreOrderly run.domain run.tables
  pub offered : AreOffers run.domain run.offers
  pub background : AreBackground run.domain run.background
  pub loose : IsLooseNetwork run slack net heard

-- what is heard of what links carry, if each frame is heard as `noted` says
abbrev pub heard_by : (ℕ → Sent → Sent) → Carried → Carried
heard_by noted carried l = map (noted l) (carried l)

-- how frames can arrive: each frame of a size that Ethernet has arrives within the bounds. A shorter frame, which no link sends, is
-- heard as `IsHeardAs` says
pub record IsTransit (d : Domain) (slack : Slack) (noted : ℕ → Sent → Sent) : Type 0 where
  pub within : (l : ℕ) (sent : Sent) → l < length d.links → 64 ≤ sent.octets → ComesWithin d slack l sent (noted l sent)
  pub short : (l : ℕ) (sent : Sent) → l < length d.links → sent.octets < 64 → IsHeardAs d l sent (noted l sent)
