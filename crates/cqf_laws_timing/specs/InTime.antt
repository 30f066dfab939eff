-- What a conforming talker offers arrives fully at each of its listeners, in time.
use Rattle.std.specs.Prelude.{ℕ, ◌≡◌, ◌≢◌, ◌+◌, ◌<◌, ◌≤◌, List, [], Contains}
use Rattle.cqf_model.specs.declared.frames.Background.{Background}
use Rattle.cqf_model.specs.declared.frames.Dropped.{Dropped}
use Rattle.cqf_model.specs.declared.frames.Offer.{Offer}
use Rattle.cqf_model.specs.declared.frames.Offered.{Offered}
use Rattle.cqf_model.specs.declared.frames.Started.{Started}
use Rattle.cqf_model.specs.declared.topology.Row.{Row}
use Rattle.cqf_model.specs.Book.{Contents}
use Rattle.cqf_model.specs.Domain.{Domain, IsAccepted}
use Rattle.cqf_model.specs.History.{Asked, Branch, IsLegalHistory, Recorded}
use Rattle.cqf_model.specs.HistoryBook.{IsBookOfHistory, run_of_history}
use Rattle.cqf_model.specs.Run.{AreBackground, AreOffers}
use Rattle.cqf_model.specs.Shift.{offer_cycle}
use Rattle.cqf_model.specs.Table.{IsHop, reserved_in}
use Rattle.cqf_laws_history.specs.StateLaws.{granted_row}
use Rattle.cqf_laws_timing.specs.Latency.{IsTimely, whole_of}
use Rattle.cqf_laws_timing.specs.Listeners.{EndsAtListener}
use Rattle.cqf_laws_timing.specs.Streams.{AdmitsOnly, AreGranted, ArePaced, IsOfList, most_beside_all}
use Rattle.cqf_laws_timing.specs.Verdicts.{InTime, sure_on}
use Rattle.cqf_laws_timing.specs.Covered.{IsAtItsEdge, own_offers}
use Rattle.cqf_laws_timing.specs.Traffic.{Conforms, IsTraffic, Traffic, needed, offers_named}

-- the book of a history that admits only streams of a list, with any withdrawals and offers, beside any background frames
pub record IsBookOverList (d : Domain) (streams : List Asked) (entries : List Recorded) (offers : List Offer) (background : List Background) (cycles : ℕ)
    (book : Contents) : Type 0 where
  pub accepted : IsAccepted d
  pub legal : IsLegalHistory d entries
  pub only : AdmitsOnly streams entries
  pub paced : ArePaced streams
  pub offered : AreOffers d offers
  pub beside : AreBackground d background
  pub is_book : IsBookOfHistory d entries offers background cycles book

-- the frame leaves on a link of this hop number that many cycles after its own cycle, and arrives fully at the link's end within
-- the bounds that the list has for its stream: so within each deadline that is surely kept there
pub record ArrivesInTime (d : Domain) (streams : List Asked) (asked : Asked) (book : Contents) (x : Offered) (hop_number link : ℕ) : Type 0 where
  pub start : Started
  pub is_start : Contains book.starts start
  pub is_frame : start.frame ≡ x.frame
  pub is_link : start.link ≡ link
  pub is_cycle : start.cycle.0 ≡ offer_cycle d x + hop_number
  pub octets : start.octets ≡ x.offer.octets
  pub timely : IsTimely d link hop_number (most_beside_all d streams asked link) x.offer.at.0 (whole_of d start)
  pub in_time : (deadline : ℕ) → sure_on d streams asked link hop_number deadline ≡ InTime → whole_of d start ≤ x.offer.at.0 + deadline

-- the last link of a branch ends in its listener's station, and the frame arrives there in time, if the run lasts long enough
pub record ListenerIsServed (d : Domain) (streams : List Asked) (asked : Asked) (cycles : ℕ) (book : Contents) (x : Offered) (branch : Branch) : Type 0 where
  pub bridges : ℕ
  pub link : ℕ
  pub station : ℕ
  pub ends_at : EndsAtListener d branch bridges link station
  pub arrives : offer_cycle d x + bridges < cycles → ArrivesInTime d streams asked book x bridges link

-- the frame isn't dropped. It leaves on each link of its row's tree and arrives in time, if the run lasts long enough, and so it
-- does at each listener of the row's stream in the list
pub record ComesThrough (d : Domain) (streams : List Asked) (cycles : ℕ) (book : Contents) (x : Offered) (row : Row) : Type 0 where
  pub not_dropped : (dropped : Dropped) → Contains book.drops dropped → dropped.frame ≢ x.frame
  pub of_list : IsOfList d streams row
  pub arrives : (hop_number link : ℕ) → IsHop row hop_number link → offer_cycle d x + hop_number < cycles → ArrivesInTime d streams of_list.asked book x hop_number link
  pub served : (branch : Branch) → Contains of_list.asked.paths branch → ListenerIsServed d streams of_list.asked cycles book x branch

-- if all offers of the stream's name conform, and as much is reserved in the frame's cycle as is needed, the frame arrives in time
abbrev pub ConformingStreamIsInTime : Type 0
ConformingStreamIsInTime =
    (d : Domain) (streams : List Asked) (entries : List Recorded) (offers : List Offer) (background : List Background) (cycles : ℕ) (book : Contents)
    (t : Traffic) (x : Offered) (row : Row) → IsBookOverList d streams entries offers background cycles book → IsTraffic t →
    Conforms t (offers_named row.name offers) → needed d.overhead d.cycle_time t ≤ reserved_in row 0 (offer_cycle d x) →
    IsAtItsEdge (run_of_history d entries offers background cycles) x row → ComesThrough d streams cycles book x row

-- the frame arrives in time, too, if only the stream's own offers conform
abbrev pub ConformingOwnIsInTime : Type 0
ConformingOwnIsInTime =
    (d : Domain) (streams : List Asked) (entries : List Recorded) (offers : List Offer) (background : List Background) (cycles : ℕ) (book : Contents)
    (t : Traffic) (x : Offered) (row : Row) → IsBookOverList d streams entries offers background cycles book → IsTraffic t →
    Conforms t (own_offers (run_of_history d entries offers background cycles) row.no) → needed d.overhead d.cycle_time t ≤ reserved_in row 0 (offer_cycle d x) →
    IsAtItsEdge (run_of_history d entries offers background cycles) x row → ComesThrough d streams cycles book x row

-- if the list is a plan whose streams can all be admitted, its one stream of the name is the row's. So the octets that the plan has
-- for this stream suffice, and the plan's listeners are served
abbrev pub PlannedStreamIsInTime : Type 0
PlannedStreamIsInTime =
    (d : Domain) (streams : List Asked) (entries : List Recorded) (offers : List Offer) (background : List Background) (cycles : ℕ) (book : Contents)
    (t : Traffic) (asked : Asked) (x : Offered) (row : Row) → IsBookOverList d streams entries offers background cycles book →
    AreGranted d [] streams → Contains streams asked → IsTraffic t → needed d.overhead d.cycle_time t ≤ reserved_in (granted_row d 0 0 asked) 0 (offer_cycle d x) → Conforms t (offers_named asked.name offers) →
    row.name ≡ asked.name → IsAtItsEdge (run_of_history d entries offers background cycles) x row →
    ComesThrough d streams cycles book x row × ((branch : Branch) → Contains asked.paths branch → ListenerIsServed d streams asked cycles book x branch)
