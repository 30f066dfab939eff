use Rattle.std.proofs.Common.{◌≡◌, drop}
use Rattle.toml.specs.View.{items_view}
use Rattle.cqf_program_files.specs.Opening.{first_open_of}
use Rattle.cqf_program_files.proofs.open.first_open_of.Given as goal

abbrev pub invariant-loop-value : goal.invariant-loop-value
invariant-loop-value l = first_open_of (items_view (drop l.value-index l.values)) ≡ first_open_of (items_view l.values)
