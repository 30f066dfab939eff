-- What a node receives of the frames that arrive at it by a link, if its clock isn't the sender's and delays vary: what is heard
-- (`cqf_model/specs/Loose.antt`), and what the main law requires of it.
use Rattle.std.specs.Prelude.{ℕ, ◌≡◌, ◌+◌, ◌<◌, ◌≤◌, map, length, Contains}
use Rattle.cqf_units.specs.Timing.{ending_of}
use Rattle.cqf_model.specs.declared.frames.Sent.{Sent}
use Rattle.cqf_model.specs.Domain.{Domain, IsAccepted, cycle_of, guard_of, octet_time_of}
use Rattle.cqf_model.specs.Network.{IsNetworkBy, Network, compiled_lists}
use Rattle.cqf_model.specs.Promise.{MeansTheShiftAs}
use Rattle.cqf_model.specs.Run.{AreBackground, AreOffers, Run}
use Rattle.cqf_model.specs.Table.{AreOrderly}
use Rattle.cqf_model.specs.Policing.{Carried, whole_at}

-- a frame is heard as it was sent, except for its instants. By the clock of the node at the link's end, it fully arrives less than the
-- link's guard band after its end, and in no earlier cycle than the one in which its bridge started it by the bridge's clock
pub record IsHeardAs (d : Domain) (l : ℕ) (sent heard : Sent) : Type 0 where
  pub frame : heard.frame ≡ sent.frame
  pub stream : heard.stream ≡ sent.stream
  pub octets : heard.octets ≡ sent.octets
  pub no_sooner : cycle_of d sent.start.0 ≤ cycle_of d (whole_at d l heard)
  pub in_time : whole_at d l heard < ending_of sent.start.0 sent.octets (octet_time_of d l) + guard_of d l

-- for each link, exactly the frames that it sends are heard, in the order of sending, each as noted. Their instants may be in
-- another order
pub record AreHeard (d : Domain) (carried heard : Carried) : Type 0 where
  pub noted : ℕ → Sent → Sent
  pub are : (l : ℕ) → heard l ≡ map (noted l) (carried l)
  pub each : (l : ℕ) (sent : Sent) → l < length d.links → Contains (carried l) sent → IsHeardAs d l sent (noted l sent)

-- a legal run beside background frames, in which each port sends what its compiled gate list demands for what its bridge hears
pub record IsHeardRun (run : Run) (net : Network) (heard : Carried) : Type 0 where
  pub accepted : IsAccepted run.domain
  pub orderly : AreOrderly run.domain run.tables
  pub offered : AreOffers run.domain run.offers
  pub background : AreBackground run.domain run.background
  pub legal : IsNetworkBy run (compiled_lists run.domain) (length run.tables) net heard
  pub meets : AreHeard run.domain net.carried heard

-- the law holds for anything heard, as long as no frame is heard in an earlier cycle than it was sent in, nor later than the guard
-- band allows
abbrev pub GatesMeanTheShiftAs : Type 0
GatesMeanTheShiftAs = (run : Run) (net : Network) (heard : Carried) → IsHeardRun run net heard → MeansTheShiftAs run net.carried heard
