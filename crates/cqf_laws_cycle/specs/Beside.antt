-- What a port sends of streams beside background frames is what it sends of them alone.
use Rattle.std.specs.Prelude.{ℕ, ◌≡◌, ◌*◌, ◌<◌, ◌↔◌, All, Bool, List, [], None, filter, is_some, length, map, slice_index_or, take}
use Rattle.cqf_model.specs.declared.frames.Sent.{Sent}
use Rattle.cqf_model.specs.declared.ports.Arrival.{Arrival}
use Rattle.cqf_model.specs.declared.ports.Start.{Start}
use Rattle.cqf_model.specs.Domain.{Domain, guard_of, octet_time_of}
use Rattle.cqf_model.specs.Network.{QueuedFrame, Sends, arrivals_of, compiled_lists}
use Rattle.cqf_model.specs.Port.{Transmission, no_arrival}
use Rattle.cqf_model.specs.Due.{is_streams}
use Rattle.cqf_laws_cycle.specs.OnePort.{AreSent, IsWithinBudget}

-- the streams' frames of a list, in their order
abbrev pub only_streams : List Arrival → List Arrival
only_streams arrivals = filter is_streams arrivals

-- the index of an arrival among the streams' frames alone: the number of streams' frames before it
abbrev pub index_alone : List Arrival → ℕ → ℕ
index_alone arrivals index = length (only_streams (take index arrivals))

-- whether a start is that of a stream's frame
abbrev pub is_start_of_streams : List Arrival → Transmission → Bool
is_start_of_streams arrivals start = is_streams (slice_index_or arrivals start.0 no_arrival)

-- the same start, with the index among the streams' frames alone
abbrev pub start_alone : List Arrival → Transmission → Transmission
start_alone arrivals start = (index_alone arrivals start.0, start.1)

-- the starts of streams' frames, with these indices
abbrev pub starts_alone : List Arrival → List Transmission → List Transmission
starts_alone arrivals starts = map (start_alone arrivals) (filter (is_start_of_streams arrivals) starts)

-- if the streams' frames of each cycle are within the link's budget, their starts beside any background frames are legal for them
-- alone
abbrev pub StreamsStartAsAlone : Type 0
StreamsStartAsAlone = (cycle_time guard octet_time : ℕ) (arrivals : List Arrival) (cycles : ℕ) (starts : List Transmission) →
    IsWithinBudget cycle_time guard octet_time arrivals cycles →
    AreSent cycle_time guard octet_time arrivals cycles starts →
    AreSent cycle_time guard octet_time (only_streams arrivals) cycles (starts_alone arrivals starts)

-- whether a frame is of a stream
abbrev pub is_of_stream : QueuedFrame → Bool
is_of_stream x = is_some x.stream

-- the frame is of no stream exactly if its class is below 6
abbrev pub IsReportedByClass : QueuedFrame → Type 0
IsReportedByClass x = (x.stream ≡ None) ↔ (x.arrival.class < 6)

-- so what a link sends of streams beside background frames is what it may send if only the streams' frames arrive
abbrev pub StreamsAreSentAsAlone : Type 0
StreamsAreSentAsAlone = (d : Domain) (cycles l : ℕ) (queued : List QueuedFrame) (sents : List Sent) (backed : List Start) →
    All IsReportedByClass queued →
    IsWithinBudget d.cycle_time (guard_of d l) (octet_time_of d l) (arrivals_of queued) cycles →
    Sends d (compiled_lists d l) (cycles * d.cycle_time) l queued sents backed →
    Sends d (compiled_lists d l) (cycles * d.cycle_time) l (filter is_of_stream queued) sents []
