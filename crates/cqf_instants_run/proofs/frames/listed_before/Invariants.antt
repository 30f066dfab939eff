-- Of the first frames those that arrive before the end are listed.
use Rattle.std.specs.Prelude.{◌≡◌, filter, take}
use Rattle.cqf_model.specs.Network.{numbered_background}
use Rattle.cqf_instants_run.specs.Frames.{is_early}
use Rattle.cqf_instants_run.proofs.frames.listed_before.Given as goal

abbrev pub invariant-loop-index : goal.invariant-loop-index
invariant-loop-index l = l.frames.items ≡ filter (is_early l.end.0) (numbered_background (take l.index l.background))
