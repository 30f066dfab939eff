use Rattle.std.proofs.Common.{◌≡◌, take}
use Rattle.toml.specs.View.{items_view}
use Rattle.cqf_program_files.specs.Files.{append_items}
use Rattle.cqf_program_files.proofs.joining.put_after.Given as goal

abbrev pub invariant-loop-value : goal.invariant-loop-value
invariant-loop-value l = items_view l.items.items ≡ append_items (items_view l.fn.items.items) (items_view (take l.value-index l.more))
