-- Laws about background frames, in a planner's words.
use Rattle.std.specs.Prelude.{ℕ, ◌≡◌, ◌+◌, ◌<◌, ◌↔◌, List, Some, None, length, slice_get, slice_index_or, Contains}
use Rattle.cqf_model.specs.declared.frames.Background.{Background}
use Rattle.cqf_model.specs.declared.frames.Started.{Started}
use Rattle.cqf_model.specs.declared.ports.Arrival.{Arrival}
use Rattle.cqf_model.specs.declared.ports.Start.{Start}
use Rattle.cqf_model.specs.Book.{Contents, IsBook}
use Rattle.cqf_model.specs.Domain.{Domain, cycle_of}
use Rattle.cqf_model.specs.GateList.{Entry}
use Rattle.cqf_model.specs.Network.{QueuedFrame, Sends, no_frame, numbered_background}
use Rattle.cqf_model.specs.Port.{Transmission}
use Rattle.cqf_model.specs.Run.{Run}
use Rattle.cqf_model.specs.declared.frames.Sent.{Sent}

-- a background frame's number is its position in its list, from 1
abbrev pub BackgroundIsNumberedByIndex : Type 0
BackgroundIsNumberedByIndex =
    (background : List Background) (index : ℕ) (frame : Background) → slice_get background index ≡ Some frame →
    slice_get (numbered_background background) index ≡ Some (record { frame = index + 1; background = frame })

-- the background start of an arrival that starts at instant t
abbrev pub start_of_arrival : ℕ → Arrival → Start
start_of_arrival t arrival = record { start = record { 0 = t }; class = arrival.class; octets = arrival.octets; frame = arrival.frame }

-- start is the start of a frame of no stream, among the frames that a port has queued and started
pub record IsBackgroundStart (queued : List QueuedFrame) (starts : List Transmission) (start : Start) : Type 0 where
  pub index : ℕ
  pub is_started : Contains starts (index, start.start.0)
  pub of_no_stream : (slice_index_or queued index no_frame).stream ≡ None
  pub as_it_came : start ≡ start_of_arrival start.start.0 (slice_index_or queued index no_frame).arrival

-- among the frames that a port starts, exactly the frames of no stream are its background frames, each with its class, octets and
-- number
abbrev pub PortsSayTheirBackground : Type 0
PortsSayTheirBackground =
    (d : Domain) (entries : List Entry) (end l : ℕ) (queued : List QueuedFrame) (sents : List Sent) (backed : List Start) →
    (sends : Sends d entries end l queued sents backed) (start : Start) →
    Contains backed start ↔ IsBackgroundStart queued sends.starts start

-- s is the start of a background frame on one of the domain's links, in a cycle of the run
pub record IsBackgroundOfRun (d : Domain) (cycles : ℕ) (backed : ℕ → List Start) (s : Started) : Type 0 where
  pub start : Start
  pub on_link : s.link < length d.links
  pub is_backed : Contains (backed s.link) start
  pub cycle : s.cycle.0 ≡ cycle_of d start.start.0
  pub within_run : s.cycle.0 < cycles
  pub frame : s.frame ≡ start.frame
  pub octets : s.octets ≡ start.octets
  pub instant : s.start ≡ start.start

-- a book has each start of a background frame that the network sends in the run, and no other
abbrev pub BooksSayTheBackground : Type 0
BooksSayTheBackground =
    (run : Run) (lists : ℕ → List Entry) (cycles : ℕ) (book : Contents) → (is : IsBook run lists cycles book) (s : Started) →
    Contains book.background s ↔ IsBackgroundOfRun run.domain cycles is.net.backed s
