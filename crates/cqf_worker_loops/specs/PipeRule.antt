-- The rule of a pipe between two threads. Each thread has a pass, with a view of what it has put and taken.
use Rattle.std.specs.Prelude.{ℕ, ◌≡◌, ◌≤◌, ◌++◌, List, ◌∷◌, Bool, true, flat_map, length}
use mathlib.Core.Option.{some}
use lib.ListN.{get_elem?}
use Rattle.cqf_worker_loops.specs.declared.pipe_rule.Bundle.{Bundle}
use Rattle.cqf_worker_loops.specs.declared.pipe_rule.PipeLog.{PipeLog}

-- the most items that may be put into a pipe
abbrev pub most_items : ℕ
most_items = 1000000

module _ {T : Type 0} where
  -- the items of a bundle, and those of several bundles in order
  abbrev pub bundle_items : Bundle T → List T
  bundle_items b = b.first ∷ b.following.items

  abbrev pub items_of : List (Bundle T) → List T
  items_of bundles = flat_map bundle_items bundles

  -- a view: whether its pass may put and take, and what it has put and taken
  abbrev pub log : Bool → Bool → List T → List T → PipeLog T
  log puts takes put taken = record { puts = puts; takes = takes; put = put; taken = taken }

  -- the view of the pass with this number. If the pass may put, it is the putter's, and the view has everything that was put. If it may
  -- take, it is the taker's, and the view has everything that was taken
  abbrev pub FitsPass : ℕ → ℕ → List T → List T → ℕ → PipeLog T → Type 0
  FitsPass putter taker put taken pass v = (v.puts ≡ true → (pass ≡ putter) × (v.put ≡ put)) × (v.takes ≡ true → (pass ≡ taker) × (v.taken ≡ taken))

  -- the items put are the items taken followed by those that the channel holds
  pub record Piped (held : List (Bundle T)) (views : List (PipeLog T)) : Type 0 where
    pub putter : ℕ
    pub taker : ℕ
    pub put : List T
    pub taken : List T
    pub in_order : put ≡ taken ++ items_of held
    pub few : length put ≤ most_items
    pub each : (pass : ℕ) (v : PipeLog T) → get_elem? views pass ≡ some v → FitsPass putter taker put taken pass v

  -- the bundle's items were put
  abbrev pub IsPut : PipeLog T → Bundle T → PipeLog T → Type 0
  IsPut v x w = w ≡ log v.puts v.takes (v.put ++ bundle_items x) v.taken

  -- the bundle's items were taken, and no more were taken in all than may be put
  abbrev pub IsTaken : PipeLog T → Bundle T → PipeLog T → Type 0
  IsTaken v x w = (w ≡ log v.puts v.takes v.put (v.taken ++ bundle_items x)) × (length w.taken ≤ most_items)

  -- the channel holds what was put and not taken
  abbrev pub IsRest : PipeLog T → List (Bundle T) → Type 0
  IsRest v held = v.put ≡ v.taken ++ items_of held
