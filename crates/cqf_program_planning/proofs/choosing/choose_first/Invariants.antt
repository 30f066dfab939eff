-- None so far is good.
use Rattle.std.proofs.Common.{map, take}
use Rattle.cqf_program_placing.specs.Settled.{settled_value}
use Rattle.cqf_program_planning.specs.Trying.{AreBad}
use Rattle.cqf_program_planning.proofs.choosing.choose_first.Given as goal

abbrev pub invariant-loop-cycle_time : goal.invariant-loop-cycle_time
invariant-loop-cycle_time l = AreBad l.network (map settled_value l.streams) l.search.tries (take l.cycle_time-index l.cycle_time-items) l.nearest
