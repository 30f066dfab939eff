-- The background frames that are added to the links' traces when a run has ended.
use Rattle.std.specs.Prelude.{ℕ, ◌≡◌, ◌<◌, ◌*◌, ◌^◌, ◌++◌, List, length, map, slice_index_or}
use Rattle.cqf_model.specs.declared.frames.Background.{Background}
use Rattle.cqf_model.specs.declared.ports.Arrival.{Arrival}
use Rattle.cqf_model.specs.declared.ports.Start.{Start}
use Rattle.cqf_model.specs.Domain.{Domain, cycle_of}
use Rattle.cqf_model.specs.Network.{Network}
use Rattle.cqf_model.specs.Run.{Run}
use Rattle.cqf_laws_cycle.specs.Compiled.{open_class}
use Rattle.cqf_laws_shift.specs.Run.{IsLegalRun}
use Rattle.cqf_trace.specs.declared.trace.Mark.{Mark}
use Rattle.cqf_trace.specs.declared.trace.Trace.{Trace}
use Rattle.cqf_trace.specs.Traces.{background_at, first_links, links_of, mark_of_sent, mark_of_start, starts_at}
use Rattle.cqf_instants_run.specs.Feeding.{fed}
use Rattle.cqf_instants_run.specs.Sending.{Backs}

-- the arrival of a stream's frame on a trace at the instant at which it starts, with the class that its cycle sends
abbrev pub arrival_of_mark : Domain → Mark → Arrival
arrival_of_mark d m = record { at = m.start; class = open_class (cycle_of d m.start.0); octets = m.octets; frame = m.frame }

-- a legal run of the domain with these background frames that ends at `end`; the traces are in order of link number, and each has exactly
-- the streams' frames that its link carries
pub record IsTracedRun (d : Domain) (end : ℕ) (background : List Background) (traces : List Trace) (run : Run) (net : Network) : Type 0 where
  pub legal : IsLegalRun run net
  pub of_domain : run.domain ≡ d
  pub backed : run.background ≡ background
  pub ends : end ≡ length run.tables * d.cycle_time
  pub early : end < 2 ^ 62
  pub links : links_of traces ≡ first_links (length d.links)
  pub starts : (l : ℕ) → l < length d.links → starts_at traces l ≡ map mark_of_sent (net.carried l)

-- these are the traces of some run of the domain
pub record SomeTracedRun (d : Domain) (end : ℕ) (background : List Background) (traces : List Trace) : Type 0 where
  pub run : Run
  pub net : Network
  pub is : IsTracedRun d end background traces run net

-- to each link's trace the background frames are added that the network of each such run starts there, and nothing else changes
pub record BacksTheTraces (d : Domain) (end : ℕ) (frames : List Background) (before after : List Trace) : Type 0 where
  pub links : links_of after ≡ links_of before
  pub starts : (l : ℕ) → starts_at after l ≡ starts_at before l
  pub background : (run : Run) (net : Network) → IsTracedRun d end frames before run net → (l : ℕ) → l < length d.links →
      background_at after l ≡ background_at before l ++ map mark_of_start (net.backed l)

-- to a trace the background frames are added that its link's port starts up to `end`, given these frames and the streams' frames of the trace
pub record TakesBackground (d : Domain) (end : ℕ) (frames : List Arrival) (before after : Trace) : Type 0 where
  pub link : after.link ≡ before.link
  pub starts : after.starts ≡ before.starts
  pub background : (backed : List Start) → Backs d end before.link (fed frames (map (arrival_of_mark d) before.starts.items)) backed →
      after.background.items ≡ before.background.items ++ map mark_of_start backed

-- the same for each trace of a list, with the background frames that are given for its index
pub record TakeBackground (d : Domain) (end : ℕ) (feeds : ℕ → List Arrival) (before after : List Trace) : Type 0 where
  pub many : length after ≡ length before
  pub each : (k : ℕ) (none : Trace) → k < length before → TakesBackground d end (feeds k) (slice_index_or before k none) (slice_index_or after k none)
