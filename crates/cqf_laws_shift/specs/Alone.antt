-- A run of streams' frames alone, for which the main law is proved. Beside background frames each port sends exactly the streams'
-- frames that it would send if they were alone. So for the streams' frames, a legal run beside any background frames is such a run.
use Rattle.std.specs.Prelude.{ℕ, ◌≡◌, ◌<◌, ◌≤◌, List, [], length}
use Rattle.std.specs.List.{flat_map}
use Rattle.cqf_model.specs.declared.frames.Sent.{Sent}
use Rattle.cqf_model.specs.Domain.{Domain, IsAccepted, guard_of, octet_time_of}
use Rattle.cqf_model.specs.GateList.{port_list}
use Rattle.cqf_model.specs.Port.{AreLegal, Transmission}
use Rattle.cqf_model.specs.Run.{AreOffers, Run, end_of_run}
use Rattle.cqf_model.specs.Table.{AreOrderly}
use Rattle.cqf_model.specs.Policing.{Carried}
use Rattle.cqf_model.specs.Network.{QueuedFrame, arrivals_of, queued_before, sent_of}
use Rattle.cqf_laws_shift.specs.Heard.{AreHeard}

-- a port with the compiled gate list sends what the list demands for the streams' frames that are queued to it, and only those
pub record SendsAlone (d : Domain) (end l : ℕ) (queued : List QueuedFrame) (sents : List Sent) : Type 0 where
  pub starts : List Transmission
  pub legal : AreLegal (record { entries = port_list d.cycle_time (guard_of d l); octet_time = octet_time_of d l }) (arrivals_of queued) end starts
  pub are_sent : sents ≡ flat_map (sent_of queued) starts

-- each link does so up to the end of the run, for what its bridge hears, and a link that the domain doesn't have sends nothing
pub record IsLegalAs (run : Run) (carried heard : Carried) : Type 0 where
  pub sends : (l : ℕ) → l < length run.domain.links →
      SendsAlone run.domain (end_of_run run) l (queued_before run heard l (end_of_run run)) (carried l)
  pub no_others : (l : ℕ) → length run.domain.links ≤ l → carried l ≡ []

-- an accepted domain, the tables of a history, and offers of Ethernet's frame sizes at its bridges
pub record IsPlanned (run : Run) : Type 0 where
  pub accepted : IsAccepted run.domain
  pub orderly : AreOrderly run.domain run.tables
  pub offered : AreOffers run.domain run.offers

-- a legal run with these
pub record IsRunAs (run : Run) (carried heard : Carried) : Type 0 where
  pub planned : IsPlanned run
  pub legal : IsLegalAs run carried heard
  pub meets : AreHeard run.domain carried heard

-- if all nodes have the same clock and each link delays as stated, what links send is what is heard
abbrev pub IsLegalAlone : Run → Carried → Type 0
IsLegalAlone run carried = IsLegalAs run carried carried

abbrev pub IsRunAlone : Run → Carried → Type 0
IsRunAlone run carried = IsRunAs run carried carried
