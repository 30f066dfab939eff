use Rattle.std.specs.Prelude.{◌≡◌, ◌++◌, map, take}
use Rattle.cqf_model.specs.Book.{started}
use Rattle.cqf_bridge.proofs.paging.list_batch.Given as goal

abbrev pub invariant-loop-index : goal.invariant-loop-index
invariant-loop-index l = l.starts.items ≡ l.fn.starts.items ++ map (started l.batch.cycle l.batch.link) (take l.index l.batch.frames)
