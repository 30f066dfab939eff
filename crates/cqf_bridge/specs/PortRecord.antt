-- A port of a bridge, with all that the bridge recorded at it.
use Rattle.std.specs.Prelude.{ℕ, ◌≡◌, ◌≤◌, ◌++◌, List, [], Option, map, Contains}
use Rattle.std.specs.List.{flat_map, zip}
use Rattle.cqf_model.specs.declared.frames.Started.{Started}
use Rattle.cqf_model.specs.declared.ports.Arrival.{Arrival}
use Rattle.cqf_model.specs.Book.{started_backed}
use Rattle.cqf_model.specs.Domain.{Domain, octet_time_of}
use Rattle.cqf_model.specs.Network.{QueuedFrame, arrivals_of, backed_of, compiled_lists, sent_of}
use Rattle.cqf_model.specs.Port.{AreLegal, PortRules, Transmission}
use Rattle.cqf_port.specs.PortState.{PortState}
use Rattle.cqf_bridge.specs.Batch.{LinkBatch}

-- a port, the link on which it sends, and for each arrival that it took the number of the arrival's stream, or none for a background frame
pub record PortRecord : Type 0 where
  pub link : ℕ
  pub port : PortState
  pub streams : List (Option ℕ)

-- a frame that was recorded
abbrev pub frame_with : Arrival × Option ℕ → QueuedFrame
frame_with x = record { arrival = x.0; stream = x.1 }

-- arrivals as frames, each with its stream
abbrev pub frames_of : List Arrival → List (Option ℕ) → List QueuedFrame
frames_of arrivals streams = map frame_with (zip arrivals streams)

-- all frames that were recorded, in order
abbrev pub recorded : PortRecord → List QueuedFrame
recorded r = frames_of r.port.arrivals r.streams

-- the rules of a port of the domain: its compiled gate list and its octet time
abbrev pub rules_on : Domain → ℕ → PortRules
rules_on d link = record { entries = compiled_lists d link; octet_time = octet_time_of d link }

-- a port with nothing recorded
abbrev pub new_record : Domain → ℕ → PortRecord
new_record d link = record { link = link; port = record { rules = rules_on d link; reached = 0; arrivals = []; starts = [] }; streams = [] }

-- a port after more frames were recorded
abbrev pub with_frames : PortRecord → List QueuedFrame → PortRecord
with_frames r frames = record {
  link = r.link;
  port = record { rules = r.port.rules; reached = r.port.reached; arrivals = r.port.arrivals ++ arrivals_of frames; starts = r.port.starts };
  streams = r.streams ++ map (λ (x : QueuedFrame). x.stream) frames;
}

-- the port runs to an instant, and starts these
abbrev pub with_starts : PortRecord → ℕ → List Transmission → PortRecord
with_starts r until made = record {
  link = r.link;
  port = record { rules = r.port.rules; reached = until; arrivals = r.port.arrivals; starts = r.port.starts ++ made };
  streams = r.streams;
}

-- these starts are demanded of the port, from where it has run to the instant. That no others are demanded is the law that legal starts are
-- unique
pub record AreDemanded (r : PortRecord) (until : ℕ) (made : List Transmission) : Type 0 where
  pub legal : AreLegal r.port.rules r.port.arrivals until (r.port.starts ++ made)
  pub later : (index s : ℕ) → Contains made (index, s) → r.port.reached ≤ s

-- what these starts send: the batch, and the background frames
abbrev pub batch_by : PortRecord → ℕ → List Transmission → LinkBatch
batch_by r cycle made = record { link = r.link; cycle = cycle; frames = flat_map (sent_of (recorded r)) made }

abbrev pub background_by : PortRecord → ℕ → List Transmission → List Started
background_by r cycle made = map (started_backed cycle r.link) (flat_map (backed_of (recorded r)) made)

-- the port runs to the end of a cycle: it makes the starts that are demanded of it, and returns the batch and the background frames
pub record RunsTo (before after : PortRecord) (cycle until : ℕ) (batch : LinkBatch) (background background_after : List Started) : Type 0 where
  pub made : List Transmission
  pub demanded : AreDemanded before until made
  pub port : after ≡ with_starts before until made
  pub batch_made : batch ≡ batch_by before cycle made
  pub background_made : background_after ≡ background ++ background_by before cycle made
