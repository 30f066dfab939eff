-- The two ends of a pipe: which pipe it is, and what was put or taken at the end.
use Rattle.std.specs.Prelude.{ℕ, ◌≡◌, ◌++◌, ◌-◌, List, [], ◌∷◌, true, false, length, take}
use Rattle.atomic_table.specs.declared.badge.Badge.{Badge}
use Rattle.atomic_table.specs.Seated.{TableId}
use Rattle.crossbeam_channel.specs.Claims.{Pass, view}
use Rattle.crossbeam_channel.specs.declared.flavors.array.Key.{Key}
use Rattle.cqf_worker_loops.specs.declared.pipe_rule.Bundle.{Bundle}
use Rattle.cqf_worker_loops.specs.declared.pipe_ends.FoundItem.{FoundItem}
use Rattle.cqf_worker_loops.specs.declared.pipe_ends.FoundItem.TheVariants.{Item, Nothing}
use Rattle.cqf_worker_loops.specs.declared.pipe_ends.FoundItem.TheVariants as found
use Rattle.cqf_worker_loops.specs.declared.pipe_ends.NotPut.{NotPut}
use Rattle.cqf_worker_loops.specs.declared.pipe_ends.NotPut.TheVariants.{Full, Gone}
use Rattle.cqf_worker_loops.specs.declared.pipe_rule.PipeLog.{PipeLog}
use Rattle.cqf_worker_loops.specs.PipeRule.{log}

-- which pipe it is
pub record PipeId (T : Type 0) : Type 0 where
  pub table : TableId
  pub keys : Badge (Key (Bundle T))

-- an end: its pipe, and the items that were put or taken there, in order
pub record End (T : Type 0) : Type 0 where
  pub pipe : PipeId T
  pub items : List T

module _ {T : Type 0} where
  -- the pipe of a pass
  abbrev pub pipe_of : Pass (Bundle T) (PipeLog T) → PipeId T
  pipe_of pass = record { table = pass.table_id; keys = pass.me.0.of }

  -- the items put, and taken, by a pass; some of those taken may still wait to be returned
  abbrev pub put_by : Pass (Bundle T) (PipeLog T) → List T
  put_by pass = (view pass).put

  abbrev pub items_taken : Pass (Bundle T) (PipeLog T) → List T
  items_taken pass = (view pass).taken

  -- the pass may only put, or only take
  abbrev pub IsPutter : Pass (Bundle T) (PipeLog T) → Type 0
  IsPutter pass = view pass ≡ log true false (put_by pass) []

  abbrev pub IsTaker : Pass (Bundle T) (PipeLog T) → Type 0
  IsTaker pass = view pass ≡ log false true [] (items_taken pass)

  -- the items that were returned, of those taken by a pass: all but those that wait
  abbrev pub handed_by : Pass (Bundle T) (PipeLog T) → List T → List T
  handed_by pass waiting = take (length (items_taken pass) - length waiting) (items_taken pass)

  -- the items put are the items taken followed by further items; left is the number of these
  abbrev pub AreLeft : List T → List T → ℕ → Type 0
  AreLeft put taken left = (rest : List T) × (put ≡ taken ++ rest) × (length rest ≡ left)

  -- the item that a look found, if any
  abbrev pub items_found : FoundItem T → List T
  items_found (Item x) = x ∷ []
  items_found Nothing = []
  items_found found.Gone = []

  -- the item that wasn't put
  abbrev pub item_back : NotPut T → T
  item_back (Full x) = x
  item_back (Gone x) = x
