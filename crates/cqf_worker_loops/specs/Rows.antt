-- Items put at several ports, or taken there, one at each.
use Rattle.std.specs.Prelude.{ℕ, ◌≡◌, ◌⊎◌, List, [], ◌∷◌, ◌++◌, map}
use Rattle.cqf_worker_loops.specs.declared.link_ends.LinkEnd.{LinkEnd}
use Rattle.cqf_worker_loops.specs.PipeEnds.{End, PipeId}

module _ {T : Type 0} where
  -- a port's link and pipe, which don't change when something is put or taken
  abbrev pub wire_at : LinkEnd (End T) → ℕ × PipeId T
  wire_at port = (port.link, port.pipe.pipe)

  abbrev pub wires_of : List (LinkEnd (End T)) → List (ℕ × PipeId T)
  wires_of ports = map wire_at ports

  -- the end with these items added, and with one item added
  abbrev pub with_items : End T → List T → End T
  with_items end xs = record { pipe = end.pipe; items = end.items ++ xs }

  abbrev pub with_item : End T → T → End T
  with_item end x = with_items end (x ∷ [])

  -- these items were put at the end, or nothing was
  abbrev pub MayGet : List T → End T → End T → Type 0
  MayGet xs before after = (after ≡ before) ⊎ (after ≡ with_items before xs)

  abbrev pub with_item_at : LinkEnd (End T) → T → LinkEnd (End T)
  with_item_at port x = record { link = port.link; pipe = with_item port.pipe x }

  -- the item was put at the port, or nothing was
  abbrev pub MayHaveGot : T → LinkEnd (End T) → LinkEnd (End T) → Type 0
  MayHaveGot x before after = (after ≡ before) ⊎ (after ≡ with_item_at before x)
