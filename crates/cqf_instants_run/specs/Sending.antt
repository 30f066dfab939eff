-- The background frames that a port starts if streams' frames arrive when they start.
use Rattle.std.specs.Prelude.{ℕ, ◌≡◌, ◌<◌, ◌++◌, All, Bool, List, filter, length, map, nat_lt}
use Rattle.cqf_units.specs.Timing.{cycle_at}
use Rattle.cqf_lists.specs.Lists.{each_below}
use Rattle.cqf_model.specs.declared.frames.Sent.{Sent}
use Rattle.cqf_model.specs.declared.frames.Started.{Started}
use Rattle.cqf_model.specs.declared.ports.Arrival.{Arrival}
use Rattle.cqf_model.specs.declared.ports.Start.{Start}
use Rattle.cqf_model.specs.Book.{started_backed}
use Rattle.cqf_model.specs.Domain.{Domain, IsAccepted, octet_time_of}
use Rattle.cqf_model.specs.Network.{QueuedFrame, Sends, compiled_lists}
use Rattle.cqf_model.specs.Port.{AreLegal, Transmission}
use Rattle.cqf_laws_cycle.specs.Beside.{IsReportedByClass}
use Rattle.cqf_port.specs.PortState.{start_of}
use Rattle.cqf_instants_run.specs.Feeding.{arrival_of_sent, backs_among, fed}

-- the start is of a background frame: its class is below 6
abbrev pub is_low : Start → Bool
is_low start = nat_lt start.class 6

-- the background frames that a link's port under the compiled gate list starts up to `end`, if it is given these arrivals
pub record Backs (d : Domain) (end l : ℕ) (arrivals : List Arrival) (backed : List Start) : Type 0 where
  pub starts : List Transmission
  pub legal : AreLegal (record { entries = compiled_lists d l; octet_time = octet_time_of d l }) arrivals end starts
  pub are_backed : backed ≡ filter is_low (map (start_of arrivals) starts)

-- a port returns starts up to `end` that are legal for its arrivals, and no other starts are legal
pub record Hands (d : Domain) (end l : ℕ) (arrivals : List Arrival) (made : List Start) : Type 0 where
  pub starts : List Transmission
  pub legal : AreLegal (record { entries = compiled_lists d l; octet_time = octet_time_of d l }) arrivals end starts
  pub only : (others : List Transmission) →
      AreLegal (record { entries = compiled_lists d l; octet_time = octet_time_of d l }) arrivals end others → others ≡ starts
  pub are : made ≡ map (start_of arrivals) starts

-- a port starts the same background frames if the streams' frames arrive when they start; a port without background frames starts none
abbrev pub PortStartsTheBackground : Type 0
PortStartsTheBackground = (d : Domain) (end l : ℕ) (queued : List QueuedFrame) (sents : List Sent) (backed : List Start) →
    IsAccepted d → l < length d.links → All IsReportedByClass queued → Sends d (compiled_lists d l) end l queued sents backed →
    Backs d end l (fed (backs_among queued) (map (arrival_of_sent d) sents)) backed

-- a start as an entry of the background list, in the cycle of its instant
abbrev pub reported : ℕ → ℕ → Start → Started
reported cycle_time link start = started_backed (cycle_at cycle_time start.start.0) link start

-- the background frames that a port starts are appended as entries
abbrev pub ReportsLink : Domain → ℕ → ℕ → List Arrival → List Started → List Started → Type 0
ReportsLink d end l arrivals before after =
    (backed : List Start) → Backs d end l arrivals backed → after ≡ before ++ map (reported d.cycle_time l) backed

-- the entries of the background frames that the ports of the first `count` links start, by link
abbrev pub ReportsLinks : Domain → ℕ → (ℕ → List Arrival) → ℕ → List Started → Type 0
ReportsLinks d end feeds count starts = (backed : ℕ → List Start) → ((l : ℕ) → l < count → Backs d end l (feeds l) (backed l)) →
    starts ≡ each_below (λ l. map (reported d.cycle_time l) (backed l)) count
