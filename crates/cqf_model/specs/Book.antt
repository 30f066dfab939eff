-- The book of a run: every transmission, and every dropped offer.
use Rattle.std.specs.Prelude.{ℕ, ◌≡◌, ◌+◌, ◌*◌, ◌&&◌, ◌==◌, List, [], ◌∷◌, Bool, filter, map, length}
use Rattle.std.specs.List.{flat_map}
use Rattle.cqf_lists.specs.Lists.{each_below}
use Rattle.cqf_model.specs.declared.frames.Book.{Book}
use Rattle.cqf_model.specs.declared.frames.Dropped.{Dropped}
use Rattle.cqf_model.specs.declared.frames.Sent.{Sent}
use Rattle.cqf_model.specs.declared.frames.Started.{Started}
use Rattle.cqf_model.specs.declared.ports.Start.{Start}
use Rattle.cqf_model.specs.GateList.{Entry}
use Rattle.cqf_model.specs.Domain.{Domain, cycle_of, leaves}
use Rattle.cqf_model.specs.Run.{Run}
use Rattle.cqf_model.specs.Policing.{Carried, Received, Policed, Verdict, Queued, DroppedFor, LacksRow, ExceedsGate, policed_before}
use Rattle.cqf_model.specs.Network.{IsLegalNetwork, Network, compiled_lists}

-- the streams' frames that a link sends in a cycle (its batch), in the link's order, which is that of starts
abbrev pub batch : Domain → Carried → ℕ → ℕ → List Sent
batch d carried link cycle = filter (λ (sent : Sent). cycle_of d sent.start.0 == cycle) (carried link)

-- the background frames that a link sends in a cycle, in the same order
abbrev pub backed_batch : Domain → (ℕ → List Start) → ℕ → ℕ → List Start
backed_batch d backed link cycle = filter (λ (start : Start). cycle_of d start.start.0 == cycle) (backed link)

-- a stream's frame as an entry of a book
abbrev pub started : ℕ → ℕ → Sent → Started
started cycle link sent = record { cycle = record { 0 = cycle }; link = link; frame = sent.frame; octets = sent.octets; start = sent.start }

-- a background frame as an entry of a book
abbrev pub started_backed : ℕ → ℕ → Start → Started
started_backed cycle link start = record { cycle = record { 0 = cycle }; link = link; frame = start.frame; octets = start.octets; start = start.start }

-- the starts of streams' frames on a link in a cycle, in order of start
abbrev pub starts_in : Domain → Carried → ℕ → ℕ → List Started
starts_in d carried cycle link = map (started cycle link) (batch d carried link cycle)

-- the starts of streams' frames in a run, by cycle, then link, then instant
abbrev pub starts_of : Domain → ℕ → Carried → List Started
starts_of d cycles carried = each_below (λ cycle. each_below (starts_in d carried cycle) (length d.links)) cycles

-- the starts of background frames on a link in a cycle, in order of start
abbrev pub background_in : Domain → (ℕ → List Start) → ℕ → ℕ → List Started
background_in d backed cycle link = map (started_backed cycle link) (backed_batch d backed link cycle)

-- the starts of background frames in a run, in the same order
abbrev pub background_of : Domain → ℕ → (ℕ → List Start) → List Started
background_of d cycles backed = each_below (λ cycle. each_below (background_in d backed cycle) (length d.links)) cycles

-- the drop of a frame in a cycle at a bridge, if its verdict is a drop
abbrev pub drop_by : ℕ → ℕ → Received → Verdict → List Dropped
drop_by cycle bridge x (DroppedFor reason) =
    record { cycle = record { 0 = cycle }; bridge = bridge; frame = x.frame; octets = x.octets; reason = reason } ∷ []
drop_by cycle bridge x (Queued row) = []
drop_by cycle bridge x LacksRow = []
drop_by cycle bridge x ExceedsGate = []

-- the frame came in the cycle, and its offer has this index
abbrev pub is_of_index : Domain → ℕ → ℕ → Policed → Bool
is_of_index d cycle index p = (cycle_of d p.received.at == cycle) && (p.received.frame == index + 1)

-- the drops at a bridge in a cycle, by frame, of the first `indices` offers
abbrev pub drops_in : Domain → ℕ → (ℕ → List Policed) → ℕ → ℕ → List Dropped
drops_in d indices policed cycle bridge = each_below
    (λ index. flat_map (λ (p : Policed). drop_by cycle bridge p.received p.verdict) (filter (is_of_index d cycle index) (policed bridge)))
    indices

-- the drops of the first cycles, by cycle, then bridge, then frame
abbrev pub drops_of : Domain → ℕ → ℕ → (ℕ → List Policed) → List Dropped
drops_of d cycles indices policed = each_below (λ cycle. each_below (drops_in d indices policed cycle) (length d.bridges)) cycles

-- the contents of a book, and of a page of it
pub record Contents : Type 0 where
  pub starts : List Started
  pub background : List Started
  pub drops : List Dropped

-- the contents of the program's book
abbrev pub contents_of : Book → Contents
contents_of book = record { starts = book.starts.items; background = book.background.items; drops = book.drops.items }

-- the book of the legal network under these gate lists, over `cycles` cycles
pub record IsBook (run : Run) (lists : ℕ → List Entry) (cycles : ℕ) (book : Contents) : Type 0 where
  pub net : Network
  pub legal : IsLegalNetwork run lists cycles net
  pub are_starts : book.starts ≡ starts_of run.domain cycles net.carried
  pub are_background : book.background ≡ background_of run.domain cycles net.backed
  pub are_drops : book.drops ≡ drops_of run.domain cycles (length run.offers)
      (λ bridge. policed_before run net.carried bridge (cycles * run.domain.cycle_time))

-- the one-thread book of a run: the book under the compiled gate lists, over as many cycles as there are tables
abbrev pub IsOneThreadBook : Run → Contents → Type 0
IsOneThreadBook run book = IsBook run (compiled_lists run.domain) (length run.tables) book

-- the starts on a bridge's page of a cycle: those in that cycle on links that leave the bridge
abbrev pub page_starts : Domain → ℕ → ℕ → List Started → List Started
page_starts d bridge cycle starts = filter (λ (s : Started). leaves d s.link bridge && (s.cycle.0 == cycle)) starts

-- the drops on a bridge's page of a cycle: those of offers at the bridge in that cycle
abbrev pub page_drops : ℕ → ℕ → List Dropped → List Dropped
page_drops bridge cycle drops = filter (λ (x : Dropped). (x.bridge == bridge) && (x.cycle.0 == cycle)) drops

-- a bridge's page of a cycle
abbrev pub page_of : Domain → ℕ → ℕ → Contents → Contents
page_of d bridge cycle book = record {
  starts = page_starts d bridge cycle book.starts;
  background = page_starts d bridge cycle book.background;
  drops = page_drops bridge cycle book.drops;
}
