-- What one thread of a run puts for another: items, and then at most one Stop.
use Rattle.std.specs.Prelude.{ℕ, ◌≡◌, ◌<◌, ◌⊎◌, ◌++◌, List, [], ◌∷◌, length, map, slice_index_or}
use Rattle.cqf_worker_loops.specs.declared.carried.Carried.{Carried}
use Rattle.cqf_worker_loops.specs.declared.carried.Carried.TheVariants.{Item, Stop}
use Rattle.cqf_worker_loops.specs.declared.link_ends.LinkEnd.{LinkEnd}
use Rattle.cqf_worker_loops.specs.PipeEnds.{End}
use Rattle.cqf_worker_loops.specs.Rows.{MayHaveGot}

module _ {T : Type 0} where
  -- only items
  abbrev pub AreItems : List (Carried T) → Type 0
  AreItems carried = (items : List T) × (carried ≡ map Item items)

  -- items, and then at most one Stop
  abbrev pub AreItemsThenStop : List (Carried T) → Type 0
  AreItemsThenStop carried = (items : List T) × ((carried ≡ map Item items) ⊎ (carried ≡ map Item items ++ Stop ∷ []))

  -- at each of the ports a Stop was put, or nothing
  abbrev pub AreStopped : List (LinkEnd (End (Carried T))) → List (LinkEnd (End (Carried T))) → Type 0
  AreStopped before after = (index : ℕ) (d : LinkEnd (End (Carried T))) → index < length before →
      MayHaveGot Stop (slice_index_or before index d) (slice_index_or after index d)
