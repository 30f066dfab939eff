-- The entries of the background frames among the first starts are appended.
use Rattle.std.specs.Prelude.{◌≡◌, ◌++◌, filter, map, take}
use Rattle.cqf_instants_run.specs.Sending.{is_low, reported}
use Rattle.cqf_instants_run.proofs.reporting.report_starts.Given as goal

abbrev pub invariant-loop-start : goal.invariant-loop-start
invariant-loop-start l = l.starts.items ≡ l.fn.starts.items ++ map (reported l.cycle_time.0 l.link) (filter is_low (take l.start-index l.made))
