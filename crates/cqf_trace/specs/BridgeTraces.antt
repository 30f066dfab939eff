-- The bridge trace of a bridge, and the traces gathered from the bridge traces of all bridges.
use Rattle.std.specs.Prelude.{ℕ, ◌≡◌, ◌≢◌, ◌<◌, ◌++◌, List, [], ◌∷◌, Some, if◌then◌else◌, length, slice_get}
use Rattle.std.specs.Option.{option_map_or}
use Rattle.cqf_lists.specs.Lists.{each_below}
use Rattle.cqf_model.specs.declared.frames.Dropped.{Dropped}
use Rattle.cqf_model.specs.Domain.{Domain, bridge_of, leaves}
use Rattle.std.specs.Global.{Global}
use Rattle.std.specs.declared.vec.Vec.{Vec}
use Rattle.cqf_trace.specs.declared.bridge_trace.BridgeTrace.{BridgeTrace}
use Rattle.cqf_trace.specs.declared.trace.Trace.{Trace}
use Rattle.cqf_trace.specs.declared.traces.Traces.{Traces}
use Rattle.cqf_trace.specs.Traces.{background_at, drops_at, first_links, links_of, starts_at}

-- the list of this link alone if it leaves the bridge, else the empty list
abbrev pub with_link : Domain → ℕ → ℕ → List ℕ
with_link d bridge link = if leaves d link bridge then link ∷ [] else []

-- the links that leave a bridge, by number
abbrev pub links_leaving : Domain → ℕ → List ℕ
links_leaving d bridge = each_below (with_link d bridge) (length d.links)

-- the bridge traces of all bridges, by bridge number; each has the traces of exactly the links that leave its bridge, by link number
pub record AreBridgeTracesOf (d : Domain) (bridge_traces : List BridgeTrace) : Type 0 where
  pub many : length bridge_traces ≡ length d.bridges
  pub links : (bridge : ℕ) (bridge_trace : BridgeTrace) → slice_get bridge_traces bridge ≡ Some bridge_trace → links_of bridge_trace.traces.items ≡ links_leaving d bridge

-- the traces and the drops on a bridge's bridge trace; empty if there is no such bridge trace
abbrev pub traces_of : List BridgeTrace → ℕ → List Trace
traces_of bridge_traces bridge = option_map_or (λ (bridge_trace : BridgeTrace). bridge_trace.traces.items) (slice_get bridge_traces bridge) []

abbrev pub dropped_by : List BridgeTrace → ℕ → List Dropped
dropped_by bridge_traces bridge = option_map_or (λ (bridge_trace : BridgeTrace). bridge_trace.drops.items) (slice_get bridge_traces bridge) []

-- the traces of all links, by link number, each with the marks that it has on the bridge trace of the bridge that its link leaves, and the drops of
-- each bridge
pub record AreGatheredFrom (d : Domain) (bridge_traces : List BridgeTrace) (traces : Traces) : Type 0 where
  pub each_link : links_of traces.links.items ≡ first_links (length d.links)
  pub starts : (link : ℕ) → link < length d.links → starts_at traces.links.items link ≡ starts_at (traces_of bridge_traces (bridge_of d link)) link
  pub background : (link : ℕ) → link < length d.links →
      background_at traces.links.items link ≡ background_at (traces_of bridge_traces (bridge_of d link)) link
  pub each_bridge : length traces.drops.items ≡ length d.bridges
  pub drops : (bridge : ℕ) → bridge < length d.bridges → drops_at traces bridge ≡ dropped_by bridge_traces bridge

-- the row of a table at an index; empty if there is no such row
abbrev pub row_at : {X : Type 0} → List (Vec X Global) → ℕ → List X
row_at {X} rows bridge = option_map_or (λ (row : Vec X Global). row.items) (slice_get rows bridge) []

-- the last trace of a bridge is removed, and the other bridges' traces are unchanged
pub record TakesLast (bridge : ℕ) (before after : List (Vec Trace Global)) (trace : Trace) : Type 0 where
  pub many : length after ≡ length before
  pub last : row_at before bridge ≡ row_at after bridge ++ trace ∷ []
  pub others : (other : ℕ) → other ≢ bridge → row_at after other ≡ row_at before other
