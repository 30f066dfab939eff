-- What a conforming talker offers arrives fully at each of its listeners in time, in every loose network.
use Rattle.std.specs.Prelude.{ℕ, ◌≡◌, ◌+◌, ◌<◌, ◌≤◌, List, [], Contains}
use Rattle.cqf_model.specs.declared.frames.Background.{Background}
use Rattle.cqf_model.specs.declared.frames.Offer.{Offer}
use Rattle.cqf_model.specs.declared.frames.Offered.{Offered}
use Rattle.cqf_model.specs.declared.frames.Sent.{Sent}
use Rattle.cqf_model.specs.declared.topology.Row.{Row}
use Rattle.cqf_model.specs.Domain.{Domain, cycle_of}
use Rattle.cqf_model.specs.History.{Asked, Branch, Recorded}
use Rattle.cqf_model.specs.HistoryBook.{run_of_history}
use Rattle.cqf_model.specs.Loose.{slack_of}
use Rattle.cqf_model.specs.Network.{Network}
use Rattle.cqf_model.specs.Shift.{offer_cycle}
use Rattle.cqf_model.specs.Table.{IsHop, reserved_in}
use Rattle.cqf_model.specs.Policing.{Carried, whole_at}
use Rattle.cqf_laws_history.specs.StateLaws.{granted_row}
use Rattle.cqf_laws_timing.specs.Latency.{IsTimely}
use Rattle.cqf_laws_timing.specs.Listeners.{EndsAtListener}
use Rattle.cqf_laws_timing.specs.LooseStreams.{IsHeardOf, IsLooseHistory}
use Rattle.cqf_laws_timing.specs.Streams.{AdmitsOnly, AreGranted, ArePaced, IsOfList, most_beside_all}
use Rattle.cqf_laws_timing.specs.Verdicts.{InTime, sure_on}
use Rattle.cqf_laws_timing.specs.Covered.{IsAtItsEdge}
use Rattle.cqf_laws_timing.specs.Traffic.{Conforms, IsTraffic, Traffic, needed, offers_named}

-- the frame leaves on a link of this hop number that many cycles after its own cycle, and arrives fully at the link's end, by the
-- clock there, within the bounds that the list has for its stream: so within each deadline that is surely kept there
pub record IsHeardInTime (d : Domain) (streams : List Asked) (asked : Asked) (net : Network) (heard : Carried) (x : Offered) (hop_number link : ℕ) : Type 0 where
  pub sent : Sent
  pub h : Sent
  pub is_heard : IsHeardOf net heard link sent h
  pub is_frame : sent.frame ≡ x.frame
  pub is_cycle : cycle_of d sent.start.0 ≡ offer_cycle d x + hop_number
  pub octets : sent.octets ≡ x.offer.octets
  pub timely : IsTimely d link hop_number (most_beside_all d streams asked link) x.offer.at.0 (whole_at d link h)
  pub in_time : (deadline : ℕ) → sure_on d streams asked link hop_number deadline ≡ InTime → whole_at d link h ≤ x.offer.at.0 + deadline

-- the last link of a branch ends in its listener's station, and the frame is heard there in time, if the run lasts long enough
pub record ListenerHears (d : Domain) (streams : List Asked) (asked : Asked) (cycles : ℕ) (net : Network) (heard : Carried) (x : Offered)
    (branch : Branch) : Type 0 where
  pub bridges : ℕ
  pub link : ℕ
  pub station : ℕ
  pub ends_at : EndsAtListener d branch bridges link station
  pub hears : offer_cycle d x + bridges < cycles → IsHeardInTime d streams asked net heard x bridges link

-- the frame leaves on each link of its row's tree and is heard in time, if the run lasts long enough, also at each listener of the row's
-- stream in the list
pub record ComesThroughLoosely (d : Domain) (streams : List Asked) (cycles : ℕ) (net : Network) (heard : Carried) (x : Offered) (row : Row) : Type 0 where
  pub of_list : IsOfList d streams row
  pub hears : (hop_number link : ℕ) → IsHop row hop_number link → offer_cycle d x + hop_number < cycles → IsHeardInTime d streams of_list.asked net heard x hop_number link
  pub served : (branch : Branch) → Contains of_list.asked.paths branch → ListenerHears d streams of_list.asked cycles net heard x branch

-- a frame that a conforming talker offers is heard in time, if as much is reserved in the frame's cycle as is needed, in each loose network
-- with the slack that the domain states
abbrev pub LooseConformingIsInTime : Type 0
LooseConformingIsInTime =
    (d : Domain) (streams : List Asked) (entries : List Recorded) (offers : List Offer) (background : List Background) (cycles : ℕ) (net : Network)
    (heard : Carried) (t : Traffic) (x : Offered) (row : Row) → IsLooseHistory d entries offers background cycles (slack_of d) net heard →
    AdmitsOnly streams entries → ArePaced streams → IsTraffic t → Conforms t (offers_named row.name offers) →
    needed d.overhead d.cycle_time t ≤ reserved_in row 0 (offer_cycle d x) → IsAtItsEdge (run_of_history d entries offers background cycles) x row →
    ComesThroughLoosely d streams cycles net heard x row

-- if the list is a plan whose streams can all be admitted, the octets that the plan has for the stream suffice, and the plan's listeners
-- hear the frame in time
abbrev pub LoosePlannedIsInTime : Type 0
LoosePlannedIsInTime =
    (d : Domain) (streams : List Asked) (entries : List Recorded) (offers : List Offer) (background : List Background) (cycles : ℕ) (net : Network)
    (heard : Carried) (t : Traffic) (asked : Asked) (x : Offered) (row : Row) →
    IsLooseHistory d entries offers background cycles (slack_of d) net heard → AdmitsOnly streams entries → AreGranted d [] streams →
    Contains streams asked → IsTraffic t → needed d.overhead d.cycle_time t ≤ reserved_in (granted_row d 0 0 asked) 0 (offer_cycle d x) →
    Conforms t (offers_named asked.name offers) → row.name ≡ asked.name → IsAtItsEdge (run_of_history d entries offers background cycles) x row →
    (branch : Branch) → Contains asked.paths branch → ListenerHears d streams asked cycles net heard x branch
