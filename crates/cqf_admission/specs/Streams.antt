-- The streams of a history as figures have them.
use Rattle.std.specs.Prelude.{ℕ}
use Rattle.cqf_model.specs.declared.topology.Row.{Row}
use Rattle.cqf_model.specs.Table.{is_held}
use Rattle.cqf_admission.specs.Holdings.{Standing}

-- a stream, with whether it is held in a cycle
abbrev pub stand_of : ℕ → Row → Standing
stand_of cycle row = record { row = row; held = is_held row cycle }
