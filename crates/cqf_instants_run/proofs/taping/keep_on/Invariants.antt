-- Of the first starts those of background frames are on the trace.
use Rattle.std.proofs.Common.{take}
use Rattle.cqf_instants_run.proofs.Traces.{HasBesides}
use Rattle.cqf_instants_run.proofs.taping.keep_on.Given as goal

abbrev pub invariant-loop-start : goal.invariant-loop-start
invariant-loop-start l = HasBesides (take l.start-index l.start-items) l.initial.trace l.trace
