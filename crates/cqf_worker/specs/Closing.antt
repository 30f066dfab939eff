-- The parts of workers, and pipes that are closed.
use Rattle.std.specs.Prelude.{ℕ, ◌≡◌, ◌+◌, ◌==◌, ◌++◌, ◌∷◌, [], if◌then◌else◌, List, Some, Contains, map, slice_get}
use Rattle.std.specs.List.{flat_map}
use Rattle.cqf_admission.specs.Tables.{CycleTable}
use Rattle.cqf_relay.specs.declared.moving.Segment.{Segment}
use Rattle.cqf_trace.specs.declared.bridge_trace.BridgeTrace.{BridgeTrace}
use Rattle.cqf_worker_loops.specs.declared.carried.Carried.{Carried}
use Rattle.cqf_worker.specs.declared.closing.Parts.{Parts}
use Rattle.cqf_worker_loops.specs.declared.worker.Worker.{Worker}
use Rattle.cqf_worker_loops.specs.Workers.{SegmentPort}
use Rattle.cqf_worker_loops.specs.PipeEnds.{End}
use Rattle.cqf_worker.specs.Wires.{IsBeginning, count_on, ins_at, outs_at}

-- the table end and the bridge trace of a worker
abbrev pub tables_at : Worker → End (Carried CycleTable)
tables_at w = w.tables

abbrev pub bridge_trace_at : Worker → BridgeTrace
bridge_trace_at w = w.bridge_trace

-- a worker's parts were appended to those before
pub record HaveMore (before after : Parts) (w : Worker) : Type 0 where
  pub more_ins : after.ins.items ≡ before.ins.items ++ ins_at w
  pub more_outs : after.outs.items ≡ before.outs.items ++ outs_at w
  pub more_tables : after.tables.items ≡ before.tables.items ++ tables_at w ∷ []
  pub more_bridge_traces : after.bridge_traces.items ≡ before.bridge_traces.items ++ bridge_trace_at w ∷ []

-- the parts of workers, worker by worker
pub record ArePartsOf (workers : List Worker) (parts : Parts) : Type 0 where
  pub all_ins : parts.ins.items ≡ flat_map ins_at workers
  pub all_outs : parts.outs.items ≡ flat_map outs_at workers
  pub all_tables : parts.tables.items ≡ map tables_at workers
  pub all_bridge_traces : parts.bridge_traces.items ≡ map bridge_trace_at workers

-- a putting end is one of these ends and is of this link
pub record IsPartner (outs : List SegmentPort) (link : ℕ) (end : End (Carried Segment)) : Type 0 where
  pub out : SegmentPort
  pub there : Contains outs out
  pub of_link : out.link ≡ link
  pub is_end : out.pipe ≡ end

-- one end of a link was removed, and no other
abbrev pub HasLostOne : ℕ → List SegmentPort → List SegmentPort → Type 0
HasLostOne link before after = (other : ℕ) → count_on other before ≡ count_on other after + (if link == other then 1 else 0)

-- what was taken at a port is a prefix of what was put at some port of its link
pub record IsFedBy (outs : List SegmentPort) (p : SegmentPort) : Type 0 where
  pub out : SegmentPort
  pub there : Contains outs out
  pub of_link : out.link ≡ p.link
  pub beginning : IsBeginning p.pipe.items out.pipe.items

abbrev pub AreFedBy : List SegmentPort → List SegmentPort → Type 0
AreFedBy outs ins = (p : SegmentPort) → Contains ins p → IsFedBy outs p

-- at each index what was taken is a prefix of what was put
abbrev pub AreGivenBy : List (End (Carried CycleTable)) → List (End (Carried CycleTable)) → Type 0
AreGivenBy puts takes = (index : ℕ) (putting taking : End (Carried CycleTable)) → slice_get puts index ≡ Some putting →
    slice_get takes index ≡ Some taking → IsBeginning taking.items putting.items
